-- Where a run of bytes and where a quoted text ends.
use Rattle.std.proofs.Common.{get_or, ◌≡◌, ℕ, Option, Some, None, ◌+◌, ◌<◌, ◌≤◌, not, length, take, drop, add-one, Bool, true, false, cond, eqb, List, [], ◌∷◌, ◌++◌, refl, sym, ap, subst, ◌∙◌, arith}
use Rattle.std.specs.Prelude.{IsTrue, unwrap_or}
use Rattle.bstr.specs.Find.{IsFirstByte, is_byte}
use Rattle.std.proofs.lemmas.Bool.{eqb-true, and_parts, false_from_ne_true}
use Rattle.std.proofs.lemmas.List.{append-nil, length-drop, drop-drop, take-append-drop, take_all}
use Rattle.std.proofs.Math.Seq.{drop-cons, take-add}
use Rattle.std.specs.List.{list_all, prefix_len}
use Rattle.std.proofs.Math.Numerals.{one-add}
use Rattle.std.proofs.lemmas.List.Sums.{prefix_len_is, prefix_len_stops}
use Rattle.std.proofs.lemmas.Bool.Decides.{nat_tests}
use Rattle.crs_text.specs.Tokens.{doubled, IsInside, StopsAt, is_quote, IsShut}
use Rattle.crs_text.specs.inner.Runs.{is_plain}

-- what two lists begin with, and what they go on with
pub same_head : (x y : ℕ) (xs ys : List ℕ) → x ∷ xs ≡ y ∷ ys → x ≡ y
same_head x y xs ys e = cc

pub same_tail : (x y : ℕ) (xs ys : List ℕ) → x ∷ xs ≡ y ∷ ys → xs ≡ ys
same_tail x y xs ys e = cc

pub true_not_false : (b : Bool) → b ≡ true → b ≡ false → ⊥
true_not_false b p q = absurd cc

stops_not : (test : ℕ → Bool) (b : ℕ) (bs left : List ℕ) → test b ≡ true → left ≡ b ∷ bs → StopsAt test left → ⊥
stops_not test b bs left passes e stops = true_not_false (test b) passes (subst (StopsAt test) e stops)

-- a run that ends where it must is one run
pub run_split : (test : ℕ → Bool) (a b x y : List ℕ) → IsTrue (list_all test a) → StopsAt test x → IsTrue (list_all test b) → StopsAt test y → a ++ x ≡ b ++ y → (a ≡ b) × (x ≡ y)
run_split test [] [] x y pa sx pb sy e = (refl, e)
run_split test [] (c ∷ b) x y pa sx pb sy e = absurd (stops_not test c (b ++ y) x (and_parts (test c) (list_all test b) pb).0 e sx)
run_split test (c ∷ a) [] x y pa sx pb sy e = absurd (stops_not test c (a ++ x) y (and_parts (test c) (list_all test a) pa).0 (sym e) sy)
run_split test (c ∷ a) (d ∷ b) x y pa sx pb sy e =
    let rest = run_split test a b x y (and_parts (test c) (list_all test a) pa).1 sx (and_parts (test d) (list_all test b) pb).1 sy (same_tail c d (a ++ x) (b ++ y) e) in
    let h : c ≡ d = same_head c d (a ++ x) (b ++ y) e in
    let t : a ≡ b = rest.0 in
    (cc, rest.1)

-- ---- quoted texts

-- what follows the first character, where a quote is written twice and any other once
abbrev behind : ℕ → List ℕ → List ℕ
behind c cs = cond (eqb c 34) (34 ∷ doubled cs) (doubled cs)

doubled-cons : (c : ℕ) (cs : List ℕ) → doubled (c ∷ cs) ≡ c ∷ behind c cs
doubled-cons c cs =
    elim (eqb c 34) as (λ v. eqb c 34 ≡ v → cond v (34 ∷ 34 ∷ doubled cs) (c ∷ doubled cs) ≡ c ∷ cond v (34 ∷ doubled cs) (doubled cs))
    [ true ↦ λ e. ap (λ z. z ∷ 34 ∷ doubled cs) (sym (eqb-true c 34 e)) | false ↦ λ e. refl ] refl

-- where the inside of a quoted text ends: at the end of the bytes, or at a quote that isn't doubled
abbrev pub IsEnd : List ℕ → Type 0
IsEnd [] = Unit {0}
IsEnd (b ∷ bs) = (b ≡ 34) × StopsAt is_quote bs

end_not_doubled : (d : ℕ) (ds x y : List ℕ) → IsEnd x → x ≡ doubled (d ∷ ds) ++ y → ⊥
end_not_doubled d ds x y ends e =
    let s : (d ≡ 34) × StopsAt is_quote (behind d ds ++ y) = subst IsEnd (e ∙ ap (λ z. z ++ y) (doubled-cons d ds)) ends in
    true_not_false true refl (subst (λ z. StopsAt is_quote (behind z ds ++ y)) s.0 s.1)

same_doubled : (c d : ℕ) (cs ds x y : List ℕ) → doubled (c ∷ cs) ++ x ≡ doubled (d ∷ ds) ++ y → (c ≡ d) × (doubled cs ++ x ≡ doubled ds ++ y)
same_doubled c d cs ds x y e =
    let f : c ∷ (behind c cs ++ x) ≡ d ∷ (behind d ds ++ y) = ap (λ z. z ++ x) (sym (doubled-cons c cs)) ∙ e ∙ ap (λ z. z ++ y) (doubled-cons d ds) in
    let h : c ≡ d = same_head c d _ _ f in (
      h,
      elim (eqb d 34) as (λ v. cond v (34 ∷ doubled cs) (doubled cs) ++ x ≡ cond v (34 ∷ doubled ds) (doubled ds) ++ y → doubled cs ++ x ≡ doubled ds ++ y)
          [ true ↦ λ k. same_tail 34 34 _ _ k | false ↦ λ k. k ] (subst (λ z. behind z cs ++ x ≡ behind d ds ++ y) h (same_tail c d _ _ f)),
    )

-- the inside of a quoted text ends at one place
inside_split : (cs ds x y : List ℕ) → IsEnd x → IsEnd y → doubled cs ++ x ≡ doubled ds ++ y → (doubled cs ≡ doubled ds) × (x ≡ y)
inside_split [] [] x y ex ey e = (refl, e)
inside_split [] (d ∷ ds) x y ex ey e = absurd (end_not_doubled d ds x y ex e)
inside_split (c ∷ cs) [] x y ex ey e = absurd (end_not_doubled c cs y x ey (sym e))
inside_split (c ∷ cs) (d ∷ ds) x y ex ey e =
    let h = same_doubled c d cs ds x y e in
    let t = inside_split cs ds x y ex ey h.1 in
    (ap (λ z. doubled (z ∷ cs)) h.0 ∙ ap (λ z. cond (eqb d 34) (34 ∷ 34 ∷ z) (d ∷ z)) t.0, t.1)

pub shut_one : (after raw rest others left : List ℕ) → IsShut after raw rest → IsShut after others left → (raw ≡ others) × (rest ≡ left)
shut_one after raw rest others left p q =
    let e : doubled p.inside.0 ++ 34 ∷ rest ≡ doubled q.inside.0 ++ 34 ∷ left = ap (λ z. z ++ 34 ∷ rest) (sym p.inside.1) ∙ sym p.parts ∙ q.parts ∙ ap (λ z. z ++ 34 ∷ left) q.inside.1 in
    let t = inside_split p.inside.0 q.inside.0 (34 ∷ rest) (34 ∷ left) (refl, p.ends) (refl, q.ends) e in
    (p.inside.1 ∙ t.0 ∙ sym q.inside.1, same_tail 34 34 rest left t.1)

pub shut_not_open : (after raw rest : List ℕ) → IsShut after raw rest → IsInside after → ⊥
shut_not_open after raw rest p q =
    let e : doubled p.inside.0 ++ 34 ∷ rest ≡ doubled q.0 ++ [] = ap (λ z. z ++ 34 ∷ rest) (sym p.inside.1) ∙ sym p.parts ∙ q.1 ∙ sym (append-nil (doubled q.0)) in
    let t = inside_split p.inside.0 q.0 (34 ∷ rest) [] (refl, p.ends) tt e in
    let f : 34 ∷ rest ≡ [] = t.1 in
    absurd cc

-- ---- looking for the closing quote

pub doubled-append : (a b : List ℕ) → doubled (a ++ b) ≡ doubled a ++ doubled b
doubled-append [] b = refl
doubled-append (c ∷ a) b =
    elim (eqb c 34) as (λ v. cond v (34 ∷ 34 ∷ doubled (a ++ b)) (c ∷ doubled (a ++ b)) ≡ cond v (34 ∷ 34 ∷ doubled a) (c ∷ doubled a) ++ doubled b)
    [ true ↦ ap (λ (z : List ℕ). 34 ∷ 34 ∷ z) (doubled-append a b) | false ↦ ap (λ (z : List ℕ). c ∷ z) (doubled-append a b) ]

-- bytes before the first quote are written as they are
plain_doubled : (xs : List ℕ) → doubled (take (prefix_len is_plain xs) xs) ≡ take (prefix_len is_plain xs) xs
plain_doubled [] = refl
plain_doubled (x ∷ xs) =
    elim (eqb x 34) as (λ v. eqb x 34 ≡ v → doubled (take (cond (not v) (1 + prefix_len is_plain xs) 0) (x ∷ xs)) ≡ take (cond (not v) (1 + prefix_len is_plain xs) 0) (x ∷ xs)) [
      | true ↦ λ e. refl
      | false ↦ λ e. rw one-add (ap (λ v. cond v (34 ∷ 34 ∷ doubled (take (prefix_len is_plain xs) xs)) (x ∷ doubled (take (prefix_len is_plain xs) xs))) e ∙ ap (λ (z : List ℕ). x ∷ z) (plain_doubled xs))
    ] refl

first_quote : (xs : List ℕ) → prefix_len is_plain xs < length xs → drop (prefix_len is_plain xs) xs ≡ 34 ∷ drop (prefix_len is_plain xs + 1) xs
first_quote xs h =
    let n = prefix_len is_plain xs in
    let quote : get_or xs n 0 ≡ 34 = grind (arith, nat_tests, prefix_len_stops is_plain xs 0 h) in
    rw (drop-cons xs n 0 h, quote, add-one)

pub plain_first : (xs : List ℕ) (r : Option ℕ) → IsFirstByte (is_byte 34) xs r → unwrap_or r (length xs) ≡ prefix_len is_plain xs
plain_first xs None none =
    sym (prefix_len_is is_plain xs (length xs) 0 (omega arith) (λ i lt. ap not (false_from_ne_true _ (none i (omega arith) lt))) (λ lt. absurd (omega arith)))
plain_first xs (Some k) found =
    let high : k < length xs = found.0.high in
    sym (prefix_len_is is_plain xs k 0 (omega arith) (λ i lt. ap not (false_from_ne_true _ (found.0.before i (omega arith) lt))) (λ lt. ap not found.1))

-- ---- the parts of the bytes after an opening quote

-- up to a quote that is no part of the inside so far
pub inside_to : (after : List ℕ) (at : ℕ) → at ≤ length after → IsInside (take at after) → IsInside (take (at + prefix_len is_plain (drop at after)) after)
inside_to after at le inside =
    let k = prefix_len is_plain (drop at after) in
    let e : take (at + k) after ≡ take at after ++ take k (drop at after) = take-add at k after in (
      inside.0 ++ take k (drop at after),
      e ∙ ap (λ z. z ++ take k (drop at after)) inside.1 ∙ ap (λ z. doubled inside.0 ++ z) (sym (plain_doubled (drop at after))) ∙ sym (doubled-append inside.0 (take k (drop at after))),
    )

pub quote_at : (after : List ℕ) (at quote : ℕ) → quote ≡ at + prefix_len is_plain (drop at after) → quote < length after → drop quote after ≡ 34 ∷ drop (quote + 1) after
quote_at after at quote e lt =
    let k = prefix_len is_plain (drop at after) in
    let n : at + k + 1 ≡ at + (k + 1) = omega arith in
    rw (e, n, ← drop-drop k at after, ← drop-drop (k + 1) at after) (first_quote (drop at after) (omega (arith, length-drop at after, e, lt)))

pub same_split : (xs : List ℕ) (n : ℕ) (ys : List ℕ) → drop n xs ≡ ys → xs ≡ take n xs ++ ys
same_split xs n ys e = sym (take-append-drop n xs) ∙ ap (λ z. take n xs ++ z) e

-- the closing quote: no other quote follows it
pub shut_at : (after : List ℕ) (at quote : ℕ) → at ≤ length after → IsInside (take at after) → quote ≡ at + prefix_len is_plain (drop at after) → quote < length after
    → StopsAt is_quote (drop (quote + 1) after) → IsShut after (take quote after) (drop (quote + 1) after)
shut_at after at quote le inside e lt ends =
    record {
      parts = same_split after quote (34 ∷ drop (quote + 1) after) (quote_at after at quote e lt);
      inside = subst (λ z. IsInside (take z after)) (sym e) (inside_to after at le inside);
      ends = ends;
    }

pub open_at : (after : List ℕ) (at : ℕ) → at ≤ length after → IsInside (take at after) → at + prefix_len is_plain (drop at after) ≡ length after → IsInside after
open_at after at le inside e = subst IsInside (ap (λ z. take z after) e ∙ take_all (length after) after (omega arith)) (inside_to after at le inside)

-- past a doubled quote
pub past_doubled : (after : List ℕ) (at quote : ℕ) → at ≤ length after → IsInside (take at after) → quote ≡ at + prefix_len is_plain (drop at after) → quote < length after
    → (tail : List ℕ) → drop (quote + 1) after ≡ 34 ∷ tail → IsInside (take (quote + 2) after)
past_doubled after at quote le inside e lt tail f =
    let i : IsInside (take quote after) = subst (λ z. IsInside (take z after)) (sym e) (inside_to after at le inside) in
    let two : take 2 (drop quote after) ≡ 34 ∷ 34 ∷ [] = ap (take 2) (quote_at after at quote e lt ∙ ap (λ (z : List ℕ). 34 ∷ z) f) in
    (i.0 ++ 34 ∷ [], take-add quote 2 after ∙ ap (λ z. take quote after ++ z) two ∙ ap (λ z. z ++ 34 ∷ 34 ∷ []) i.1 ∙ sym (doubled-append i.0 (34 ∷ [])))

-- there is a byte
pub within_at : (bytes tail : List ℕ) (b n : ℕ) → drop n bytes ≡ b ∷ tail → n < length bytes
within_at bytes tail b n e = omega (arith, length-drop n bytes, ap length e)
