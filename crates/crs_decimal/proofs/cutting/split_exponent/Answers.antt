use Rattle.std.proofs.Common.{◌≡◌, ◌∷◌, ◌<◌, length, drop, get_or, true, rules, sym, ap, subst, ◌∙◌}
use Rattle.std.proofs.lemmas.List.{take_rest}
use Rattle.crs_decimal.specs.inner.Cut.{IsExponentWhole}
use Rattle.crs_decimal.specs.Numbers.{is_minus, AreDigits}
use Rattle.crs_decimal.specs.inner.Split.{is_exponent_letter, sign_of, behind_sign}
use Rattle.crs_decimal.proofs.SplitLemmas.{exponent_whole, whole_exponent}
use Rattle.crs_decimal.proofs.cutting.split_exponent.Goals as goal
use Rattle.crs_decimal.proofs.cutting.split_exponent.Goals.{then-is_empty-via-then-is_empty, then-is_empty-via-else-is_empty+then-not-are_digits}

pub returns-then-is_empty : goal.returns-then-is_empty
returns-then-is_empty c = λ whole.
    let bytes = c.args.bytes.now in
    let digits = c.split_sign-below.result.1.now in
    let is : bytes ≡ get_or bytes 0 0 ∷ drop 1 bytes = search rules in
    let letter : is_exponent_letter (get_or bytes 0 0) ≡ true = search rules in
    let rest : digits ≡ behind_sign (drop 1 bytes) = c.split_sign-below.ensures.rest ∙ ap behind_sign (take_rest bytes 1) in
    let h = whole_exponent (get_or bytes 0 0) (drop 1 bytes) letter (subst IsExponentWhole is whole) in
    let those : AreDigits digits = subst AreDigits (sym rest) h.0 in
    elim c.then-is_empty.branch [
      | then-is_empty-via-then-is_empty w ↦ absurd (search (rules, h.1, rest))
      | then-is_empty-via-else-is_empty+then-not-are_digits w ↦ absurd (search (rules, those))
    ]

pub returns-else-not-are_digits : goal.returns-else-not-are_digits
returns-else-not-are_digits c =
    let bytes = c.args.bytes.now in
    let is : bytes ≡ get_or bytes 0 0 ∷ drop 1 bytes = search rules in
    let letter : is_exponent_letter (get_or bytes 0 0) ≡ true = search rules in
    let rest : c.split_sign-below.result.1.now ≡ behind_sign (drop 1 bytes) = c.split_sign-below.ensures.rest ∙ ap behind_sign (take_rest bytes 1) in
    let sign : c.split_sign-below.result.0 ≡ is_minus (sign_of (drop 1 bytes)) =
    c.split_sign-below.ensures.sign ∙ ap (λ xs. is_minus (sign_of xs)) (take_rest bytes 1) in
    let own : AreDigits c.split_sign-below.result.1.now = search rules in
    let those : AreDigits (behind_sign (drop 1 bytes)) = subst AreDigits rest own in
    let some : 0 < length (behind_sign (drop 1 bytes)) = search (rules, rest) in
    rw (is, rest, sign) (exponent_whole (get_or bytes 0 0) (drop 1 bytes) letter those some)
