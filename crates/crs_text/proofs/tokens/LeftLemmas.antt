-- What is left of a text begins with a token or a flaw.
use Rattle.std.proofs.Common.{◌≡◌, ℕ, ◌+◌, ◌-◌, ◌≤◌, true, false, ◌||◌, ◌==◌, eqb, List, [], ◌∷◌, ◌++◌, length, take, drop, Option, Some, None, refl, sym, ap, subst, ◌∙◌, append_assoc, arith, inl, inr, ◌⊎◌}
use Rattle.std.specs.List.{prefix_len}
use Rattle.std.specs.Str.{IsValidUpTo}
use Rattle.std.specs.Str.Lossy.{utf8_valid_len, utf8_error_len}
use Rattle.std.proofs.lemmas.Bool.{cases_Bool, eqb-true, or_from}
use Rattle.bstr.proofs.lemmas.LossyLemmas.{utf8_valid_len-cases}
use Rattle.crs_decimal.specs.inner.Prelude.{is_run_byte, is_run_start, HasForm, IsInBounds}
use Rattle.crs_text.specs.Tokens.{IsInside, IsShut, BeginsWith, is_quote, doubled, IsLongestUtf8, Kind, number, text, word, Token, single, comma, opening, closing, is_letter, is_word_byte, Forms}
use Rattle.crs_text.specs.inner.Lexing.{StandsBefore}
use Rattle.crs_text.specs.declared.refusal.Reason.{Reason}
use Rattle.crs_text.specs.declared.refusal.Reason.TheVariants.{BadCharacter, BadNumber, NumberRange, NotUtf8, OpenText}
use Rattle.crs_text.specs.TextFault.{IsFlaw}
use Rattle.crs_text.proofs.tokens.LexedLemmas.{lexed_number, lexed_word, flawed_number, flawed_range}
use Rattle.crs_text.proofs.tokens.Utf8Lemmas.{IsUtf8Front-from, IsUtf8Front-cut, not-IsUtf8Front, not-IsUtf8Front-before_quote, not-IsUtf8, IsLongestUtf8-from, IsLongestUtf8-before_quote}

-- ---- after an opening quote

abbrev pub IsShutOrOpen : List ℕ → Type 0
IsShutOrOpen after = ((raw rest : List ℕ) × IsShut after raw rest) ⊎ IsInside after

-- one more character, written so
past : (c : ℕ) (written : List ℕ) → ((cs : List ℕ) → doubled (c ∷ cs) ≡ written ++ doubled cs) → (bs : List ℕ) → IsShutOrOpen bs → IsShutOrOpen (written ++ bs)
past c written e bs (inl (raw, rest, s)) = inl (
  written ++ raw,
  rest,
  record {
    parts = ap (λ z. written ++ z) s.parts ∙ sym (append_assoc written raw (34 ∷ rest));
    inside = (c ∷ s.inside.0, ap (λ z. written ++ z) s.inside.1 ∙ sym (e s.inside.0));
    ends = s.ends;
  },
)
past c written e bs (inr (characters, d)) = inr (c ∷ characters, ap (λ z. written ++ z) d ∙ sym (e characters))

at_quote : (cs : List ℕ) → IsShutOrOpen (drop 1 cs) → IsShutOrOpen (34 ∷ cs)
at_quote [] next = inl ([], [], record { parts = refl; inside = ([], refl); ends = tt })
at_quote (d ∷ ds) next = elim (cases_Bool (eqb d 34)) [
  | inl e ↦ subst (λ z. IsShutOrOpen (34 ∷ z ∷ ds)) (sym (eqb-true d 34 e)) (past 34 (34 ∷ 34 ∷ []) (λ cs. refl) ds next)
  | inr e ↦ inl ([], d ∷ ds, record { parts = refl; inside = ([], refl); ends = e })
]

-- the bytes, and those after the first of them
shut_or_open_from : (after : List ℕ) → IsShutOrOpen after × IsShutOrOpen (drop 1 after)
shut_or_open_from [] = (inr ([], refl), inr ([], refl))
shut_or_open_from (c ∷ cs) =
    let r = shut_or_open_from cs in (
      elim (cases_Bool (eqb c 34)) [
        | inl e ↦ subst (λ z. IsShutOrOpen (z ∷ cs)) (sym (eqb-true c 34 e)) (at_quote cs r.1)
        | inr e ↦ past c (c ∷ []) (λ ds. rw e refl) cs r.0
      ],
      r.0,
    )

-- after an opening quote the text is shut, or its inside goes on to the end
pub shut_or_open : (after : List ℕ) → IsShutOrOpen after
shut_or_open after = (shut_or_open_from after).0

-- ---- a token, or a flaw

abbrev pub IsTokenOrFlaw : ℕ → List ℕ → Type 0
IsTokenOrFlaw total left = ((t : Token) × (rest : List ℕ) × Forms total t left rest) ⊎ ((r : Reason) × (skip : ℕ) × IsFlaw r left skip)

-- numbers are decided: a run is in bounds, or of the number form and not in bounds, or not of that form
abbrev pub DecidesNumbers : Type 0
DecidesNumbers = (run : List ℕ) → (IsInBounds run ⊎ (HasForm run × ¬ (IsInBounds run))) ⊎ (¬ (HasForm run))

module _ (total : ℕ) where
  a_single : (kind : Kind) (raw left rest : List ℕ) → length left ≤ total → StandsBefore kind raw left rest → IsTokenOrFlaw total left
  a_single kind raw left rest le s =
      inl (single kind (total - length left) raw, rest, record { spelled = s.spelled; formed = s.formed; ends = s.ends; placed = omega arith })

  -- a text in UTF-8, or not
  shut_text : (raw rest : List ℕ) (after : List ℕ) → length (34 ∷ after) ≤ total → IsShut after raw rest → IsTokenOrFlaw total (34 ∷ after)
  shut_text raw rest after le s = elim (utf8_valid_len-cases raw) [
    | inl u ↦ a_single text raw (34 ∷ after) rest le (record { spelled = ap (λ (z : List ℕ). 34 ∷ z) (s.parts ∙ sym (append_assoc raw (34 ∷ []) rest)); formed = (s.inside, u); ends = s.ends })
    | inr v ↦ inr (
      NotUtf8,
      1 + utf8_valid_len raw,
      (
        after,
        raw ++ 34 ∷ [],
        refl,
        inl (raw, rest, s, refl),
        not-IsUtf8Front-before_quote raw (not-IsUtf8 raw (utf8_valid_len raw) v),
        utf8_valid_len raw,
        subst (λ z. IsLongestUtf8 z (utf8_valid_len raw)) (sym s.parts) (IsLongestUtf8-before_quote raw rest (utf8_valid_len raw) v),
        refl,
      ),
    )
  ]

  -- a text with no end
  open_flaw : (after : List ℕ) → IsInside after → (o : Option ℕ) → IsValidUpTo after (utf8_valid_len after) → utf8_error_len (drop (utf8_valid_len after) after) ≡ o → IsTokenOrFlaw total (34 ∷ after)
  open_flaw after inside None v e = inr (OpenText, 0, (after, refl, inside, IsUtf8Front-cut after (utf8_valid_len after) v e, refl))
  open_flaw after inside (Some k) v e = inr (
    NotUtf8,
    1 + utf8_valid_len after,
    (after, after, refl, inr (inside, refl), not-IsUtf8Front after (utf8_valid_len after) k v e, utf8_valid_len after, IsLongestUtf8-from after (utf8_valid_len after) v, refl),
  )

  open_text : (after : List ℕ) → IsInside after → IsTokenOrFlaw total (34 ∷ after)
  open_text after inside = elim (utf8_valid_len-cases after) [
    | inl u ↦ inr (OpenText, 0, (after, refl, inside, IsUtf8Front-from after u, refl))
    | inr v ↦ open_flaw after inside (utf8_error_len (drop (utf8_valid_len after) after)) v refl
  ]

  quoted : (after : List ℕ) → length (34 ∷ after) ≤ total → IsTokenOrFlaw total (34 ∷ after)
  quoted after le = elim (shut_or_open after) [
    | inl s ↦ shut_text s.0 s.1 after le s.2
    | inr inside ↦ open_text after inside
  ]

  -- a run of a number
  run : DecidesNumbers → (left : List ℕ) → length left ≤ total → BeginsWith is_run_start left → IsTokenOrFlaw total left
  run decides left le begins =
      let n = prefix_len is_run_byte left in
      elim (decides (take n left)) [
        | inl form ↦ elim form [
          | inl bounds ↦ a_single number (take n left) left (drop n left) le (lexed_number left n refl begins bounds).0
          | inr out ↦ inr (NumberRange, 0, flawed_range left n refl begins out.0 out.1)
        ]
        | inr no_form ↦ inr (BadNumber, 0, flawed_number left n refl begins no_form)
      ]

  single_word : (left : List ℕ) → length left ≤ total → BeginsWith is_letter left → IsTokenOrFlaw total left
  single_word left le begins =
      let n = prefix_len is_word_byte left in a_single word (take n left) left (drop n left) le (lexed_word left n refl begins).0

  -- this byte first, or any other
  at_byte : (b x : ℕ) (bs : List ℕ) → IsTokenOrFlaw total (x ∷ bs) → ((b == x) ≡ false → IsTokenOrFlaw total (b ∷ bs)) → IsTokenOrFlaw total (b ∷ bs)
  at_byte b x bs is other = elim (cases_Bool (b == x)) [ inl e ↦ rw (eqb-true b x e) is | inr e ↦ other e ]

  -- a comma, a delimiter, or a byte that begins no token
  delimiter : (b : ℕ) (bs : List ℕ) → length (b ∷ bs) ≤ total → (is_letter b || is_run_start b || is_quote b) ≡ false → IsTokenOrFlaw total (b ∷ bs)
  delimiter b bs le dark =
      at_byte b 44 bs (inl (comma, bs, record { spelled = refl; formed = tt; ends = tt; placed = tt })) (λ n44.
      at_byte b 91 bs (inl (opening true, bs, record { spelled = refl; formed = tt; ends = tt; placed = tt })) (λ n91.
      at_byte b 40 bs (inl (opening false, bs, record { spelled = refl; formed = tt; ends = tt; placed = tt })) (λ n40.
      at_byte b 93 bs (inl (closing (total - length (b ∷ bs)) true, bs, record { spelled = refl; formed = tt; ends = tt; placed = omega arith })) (λ n93.
      at_byte b 41 bs (inl (closing (total - length (b ∷ bs)) false, bs, record { spelled = refl; formed = tt; ends = tt; placed = omega arith })) (λ n41.
      inr (BadCharacter, 0, (or_from _ _ dark (or_from _ _ (or_from _ _ (or_from _ _ (or_from _ _ n44 n91) n40) n93) n41), refl)))))))

-- what is left, if anything is, begins with a token or a flaw
pub token_or_flaw : DecidesNumbers → (total b : ℕ) (bs : List ℕ) → length (b ∷ bs) ≤ total → IsTokenOrFlaw total (b ∷ bs)
token_or_flaw decides total b bs le =
    elim (cases_Bool (is_letter b)) [
      | inl e ↦ single_word total (b ∷ bs) le e
      | inr no_letter ↦ elim (cases_Bool (is_run_start b)) [
        | inl e ↦ run total decides (b ∷ bs) le e
        | inr no_start ↦ at_byte total b 34 bs (quoted total bs le) (λ no_quote. delimiter total b bs le (or_from _ _ (or_from _ _ no_letter no_start) no_quote))
      ]
    ]
