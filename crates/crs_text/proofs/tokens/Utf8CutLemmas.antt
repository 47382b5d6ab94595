-- Bytes that end within a sequence of UTF-8, by the ranges of their bytes: where `utf8_error_len` gives no length.
use Rattle.std.proofs.Common.{le-ltb, ne_eqb, length-append, ◌*◌, Bool, true, false, cond, ◌≡◌, ℕ, ◌+◌, ◌-◌, ◌<◌, ◌≤◌, List, [], ◌∷◌, ◌++◌, length, take, get_or, Some, None, Option, refl, inl, inr, ◌⊎◌, ◌≢◌, arith, IsUtf8}
use Rattle.std.proofs.lemmas.Bool.{cases_lt}
use Rattle.std.proofs.lemmas.Bool.Decides.{nat_tests}
use Rattle.std.proofs.lemmas.Str.{IsUtf8-nil}
use Rattle.crs_text.specs.Tokens.{IsUtf8Front}
use Rattle.std.specs.Str.Lossy.{utf8_error_len, second_byte_min, second_byte_max}
use Rattle.std.specs.Int.{is_in_range}
use Rattle.std.proofs.str.Valid.{of_one, of_two, of_three, of_four}
use Rattle.std.proofs.str.Faults.{Ranged, no_char, valid_to, not_text}
use Rattle.std.proofs.str.Laws.{Follows}

-- a byte that begins a sequence of two bytes or more
abbrev pub IsLead : ℕ → Type 0
IsLead x = (194 ≤ x) × (x ≤ 244)

-- the byte y may follow the first byte x
pub record IsSecond (x y : ℕ) : Type 0 where
  pub follows : Follows y
  pub long_three : x ≡ 224 → 160 ≤ y
  pub no_surrogate : x ≡ 237 → y < 160
  pub long_four : x ≡ 240 → 144 ≤ y
  pub in_range : x ≡ 244 → y < 144

-- bytes that begin as a sequence of up to four bytes does, and end before the fourth
abbrev pub IsCut : List ℕ → Type 0
IsCut (x ∷ []) = IsLead x
IsCut (x ∷ y ∷ []) = IsLead x × IsSecond x y
IsCut (x ∷ y ∷ z ∷ []) = IsLead x × IsSecond x y × Follows z
IsCut bytes = ⊥

-- no front of the bytes but the empty one is well-formed
abbrev pub HasNoFront : List ℕ → Type 0
HasNoFront bytes = (w : ℕ) → 0 < w → ¬ (IsUtf8 (take w bytes))

-- the test of `utf8_error_len` on a second byte
abbrev second_test : ℕ → ℕ → Bool
second_test x y = is_in_range (second_byte_min x) (second_byte_max x) y

second_said : (x y : ℕ) → second_test x y ≡ true → IsSecond x y
second_said x y e = record {
  follows = (grind (arith, nat_tests), grind (arith, nat_tests));
  long_three = λ is. grind (arith, nat_tests);
  no_surrogate = λ is. grind (arith, nat_tests);
  long_four = λ is. grind (arith, nat_tests);
  in_range = λ is. grind (arith, nat_tests);
}

second_tests : (x y : ℕ) → IsSecond x y → second_test x y ≡ true
second_tests x y s = let a = s.follows in let b = s.long_three in let c = s.no_surrogate in let d = s.long_four in let e = s.in_range in grind (arith, nat_tests)

in_range : (low high x : ℕ) → (low ≤ x) × (x ≤ high) → is_in_range low high x ≡ true
in_range low high x h = grind (arith, nat_tests)

in_range_said : (low high x : ℕ) → is_in_range low high x ≡ true → (low ≤ x) × (x ≤ high)
in_range_said low high x e = (grind (arith, nat_tests), grind (arith, nat_tests))

pub error_len_from_IsCut : (bytes : List ℕ) → IsCut bytes → utf8_error_len bytes ≡ None
unfolding utf8_error_len
error_len_from_IsCut [] h = refl
error_len_from_IsCut (x ∷ []) h = rw (in_range 194 244 x h) refl
error_len_from_IsCut (x ∷ y ∷ []) h = rw (in_range 194 244 x h.0, second_tests x y h.1) refl
error_len_from_IsCut (x ∷ y ∷ z ∷ []) h = rw (in_range 194 244 x h.0, second_tests x y h.1, in_range 128 191 z (omega arith, omega arith)) refl
error_len_from_IsCut (x ∷ y ∷ z ∷ w ∷ more) h = absurd h

-- None comes only of a test that passed
when_none : {A : Type 0} (b : Bool) (y : A) (o : Option A) → cond b o (Some y) ≡ None → (b ≡ true) × (o ≡ None)
when_none true y o e = (refl, e)
when_none false y o e = cc

never_none : (a b c : Bool) → cond {A = Option ℕ} a (cond b (cond c (Some 3) (Some 2)) (Some 1)) (Some 1) ≢ None
never_none a b c = grind arith

four_no_cut : (bytes : List ℕ) → 4 ≤ length bytes → utf8_error_len bytes ≢ None
unfolding utf8_error_len
four_no_cut bytes long e =
    let n = length bytes in
    never_none (is_in_range 194 244 (get_or bytes 0 0)) (second_test (get_or bytes 0 0) (get_or bytes 1 0)) (is_in_range 128 191 (get_or bytes 2 0))
    (rw (ne_eqb n 0 (omega arith), le-ltb n 2 (omega arith), le-ltb n 3 (omega arith), le-ltb n 4 (omega arith)) at e)

pub IsCut-from_error_len : (bytes : List ℕ) → 0 < length bytes → utf8_error_len bytes ≡ None → IsCut bytes
unfolding utf8_error_len
IsCut-from_error_len [] some e = absurd (omega arith)
IsCut-from_error_len (x ∷ []) some e = in_range_said 194 244 x (when_none _ _ _ e).0
IsCut-from_error_len (x ∷ y ∷ []) some e =
    let one = when_none _ _ _ e in
    (in_range_said 194 244 x one.0, second_said x y (when_none _ _ _ one.1).0)
IsCut-from_error_len (x ∷ y ∷ z ∷ []) some e =
    let one = when_none (is_in_range 194 244 x) 1 _ e in
    let two = when_none _ _ _ one.1 in
    let last = in_range_said 128 191 z (when_none _ _ _ two.1).0 in
    (in_range_said 194 244 x one.0, second_said x y two.0, (omega arith, omega arith))
IsCut-from_error_len (x ∷ y ∷ z ∷ w ∷ more) some e = absurd (four_no_cut (x ∷ y ∷ z ∷ w ∷ more) (omega arith) e)

-- ---- from ranges to UTF-8 and back
in_three : (x y : ℕ) → 224 ≤ x → IsSecond x y → let high : ℕ = (x - 224) * 64 + (y - 128) in (32 ≤ high) × ((high < 864) ⊎ (896 ≤ high))
in_three x y low s = grind arith

in_four : (x y : ℕ) → 240 ≤ x → x ≤ 244 → IsSecond x y → let high : ℕ = (x - 240) * 64 + (y - 128) in (16 ≤ high) × (high < 272)
in_four x y low high s = grind arith

module _ (x y : ℕ) where
  two_bytes : 194 ≤ x → x < 224 → Follows y → IsUtf8 (x ∷ y ∷ [])
  two_bytes low high f = of_two (x ∷ y ∷ []) 0 (omega arith) (low, high) f

  three_bytes : (z : ℕ) → 224 ≤ x → x < 240 → IsSecond x y → Follows z → IsUtf8 (x ∷ y ∷ z ∷ [])
  three_bytes z low high s f = let a = in_three x y low s in
      of_three (x ∷ y ∷ z ∷ []) 0 (omega arith) (low, high) s.follows f (omega arith)
      (elim a.1 [ inl lt ↦ inl (omega arith) | inr ge ↦ inr (omega arith) ])

  four_bytes : (z w : ℕ) → 240 ≤ x → x ≤ 244 → IsSecond x y → Follows z → Follows w → IsUtf8 (x ∷ y ∷ z ∷ w ∷ [])
  four_bytes z w low high s f g = of_four (x ∷ y ∷ z ∷ w ∷ []) 0 (omega arith) low s.follows f g (in_four x y low high s)

  -- the sequence that x and y begin, ended by bytes that may follow
  from_two : (z w : ℕ) → IsLead x → IsSecond x y → Follows z → Follows w
      → (IsUtf8 (x ∷ y ∷ [])) ⊎ ((IsUtf8 (x ∷ y ∷ z ∷ [])) ⊎ (IsUtf8 (x ∷ y ∷ z ∷ w ∷ [])))
  from_two z w lead s f g = elim (cases_lt x 224) [
    | inl lt ↦ inl (two_bytes lead.0 lt s.follows)
    | inr ge ↦ inr (elim (cases_lt x 240) [ inl lt ↦ inl (three_bytes z ge lt s f) | inr ge ↦ inr (four_bytes z w ge lead.1 s f g) ])
  ]

-- the least second byte may follow
least_second : (x : ℕ) → IsSecond x (second_byte_min x)
least_second x = second_said x (second_byte_min x) (grind (arith, nat_tests))

follows_128 : Follows 128
follows_128 = (omega arith, omega arith)

-- bytes that end within a sequence have a completion
pub completion : (bytes : List ℕ) → IsCut bytes → HasNoFront bytes → IsUtf8Front bytes
completion [] cut none = absurd cut
completion (x ∷ []) cut none = let y = second_byte_min x in elim (from_two x y 128 128 cut (least_second x) follows_128 follows_128) [
  | inl u ↦ (y ∷ [], u)
  | inr more ↦ elim more [ inl u ↦ (y ∷ 128 ∷ [], u) | inr u ↦ (y ∷ 128 ∷ 128 ∷ [], u) ]
]
completion (x ∷ y ∷ []) cut none = elim (from_two x y 128 128 cut.0 cut.1 follows_128 follows_128) [
  | inl u ↦ ([], u)
  | inr more ↦ elim more [ inl u ↦ (128 ∷ [], u) | inr u ↦ (128 ∷ 128 ∷ [], u) ]
]
completion (x ∷ y ∷ z ∷ []) cut none = elim (from_two x y z 128 cut.0 cut.1 cut.2 follows_128) [
  | inl u ↦ absurd (none 2 (omega arith) u)
  | inr more ↦ elim more [ inl u ↦ ([], u) | inr u ↦ (128 ∷ [], u) ]
]
completion (x ∷ y ∷ z ∷ w ∷ more) cut none = absurd cut

second_ranges : (n x y z w : ℕ) → Ranged n x y z w → 128 ≤ x → IsSecond x y
second_ranges n x y z w r h = let f = (r.second h).2 in record {
  follows = f;
  long_three = λ is. let a = r.in_three (omega arith) (omega arith) in omega arith;
  no_surrogate = λ is. let a = r.in_three (omega arith) (omega arith) in omega arith;
  long_four = λ is. let a = r.fourth (omega arith) in omega arith;
  in_range = λ is. let a = r.fourth (omega arith) in omega arith;
}

lead_ranges : (n x y z w : ℕ) → Ranged n x y z w → 128 ≤ x → IsLead x
lead_ranges n x y z w r h = ((r.second h).0, elim (cases_lt x 240) [ inl lt ↦ omega arith | inr ge ↦ let a = r.fourth ge in omega arith ])

-- the ranges of a character's bytes, at the front of the bytes
abbrev Begins : List ℕ → Type 0
Begins l = Ranged (length l - 0) (get_or l 0 0) (get_or l 1 0) (get_or l 2 0) (get_or l 3 0)

not_low : (x : ℕ) (rest : List ℕ) → HasNoFront (x ∷ rest) → 128 ≤ x
not_low x rest none = elim (cases_lt x 128) [ inl lt ↦ absurd (none 1 (omega arith) (of_one (x ∷ rest) 0 (omega arith) lt)) | inr ge ↦ ge ]

begun : (bytes more : List ℕ) → 0 < length bytes → HasNoFront bytes → Begins (bytes ++ more) → IsCut bytes
begun [] more some none b = absurd (omega arith)
begun (x ∷ []) more some none b = lead_ranges _ _ _ _ _ b (not_low x [] none)
begun (x ∷ y ∷ []) more some none b = let h = not_low x (y ∷ []) none in (lead_ranges _ _ _ _ _ b h, second_ranges _ _ _ _ _ b h)
begun (x ∷ y ∷ z ∷ []) more some none b =
    let h = not_low x (y ∷ z ∷ []) none in
    let s = second_ranges _ _ _ _ _ b h in
    let l = lead_ranges _ _ _ _ _ b h in (
      l,
      s,
      elim (cases_lt x 224) [
        | inl lt ↦ absurd (none 2 (omega arith) (two_bytes x y l.0 lt s.follows))
        | inr ge ↦ (b.third ge).1
      ],
    )
begun (x ∷ y ∷ z ∷ w ∷ rest) more some none b =
    let h = not_low x (y ∷ z ∷ w ∷ rest) none in
    let s = second_ranges _ _ _ _ _ b h in
    let l = lead_ranges _ _ _ _ _ b h in
    elim (cases_lt x 224) [
      | inl lt ↦ none 2 (omega arith) (two_bytes x y l.0 lt s.follows)
      | inr ge ↦ let f = (b.third ge).1 in elim (cases_lt x 240) [
        | inl lt ↦ none 3 (omega arith) (three_bytes x y z ge lt s f)
        | inr four ↦ none 4 (omega arith) (four_bytes x y z w four l.1 s f (b.fourth four).1)
      ]
    ]

-- where no sequence begins and none is cut, nothing completes the bytes
pub not_completed : (bytes more : List ℕ) → 0 < length bytes → HasNoFront bytes → ¬ (IsCut bytes) → ¬ (IsUtf8 (bytes ++ more))
not_completed bytes more some none whole u =
    let text = bytes ++ more in
    let long : 0 < length text = omega (arith, length-append bytes more) in
    not_text text 0 (valid_to text 0 long IsUtf8-nil (no_char text 0 (λ b. whole (begun bytes more some none b)))) u
