use Rattle.std.proofs.Common.{◌≡◌, ℕ, false, ◌∷◌, [], ◌+◌, ◌-◌, ◌==◌, if◌then◌else◌, length, drop, take, arith, rules, sym, ap, subst, ◌∙◌}
use Rattle.std.proofs.lemmas.List.{nil_from_length, take_rest}
use Rattle.crs_decimal.specs.Numbers.{IsTrim, AreDigits}
use Rattle.crs_decimal.proofs.PlainBytesLemmas.{trim-off, trim-plain, whole-plain}
use Rattle.crs_decimal.proofs.plain.unsigned_plain.Goals as goal
use Rattle.crs_decimal.proofs.plain.unsigned_plain.Goals.{then-kept-eq0, else-kept-eq0}

pub returns-in-empty-clause-plain : goal.returns-in-empty-clause-plain
returns-in-empty-clause-plain c =
    let raw = c.args.raw.now in
    let count = c.digits_len-count.result in
    let trim : IsTrim (take count raw) = subst IsTrim c.front_of.ensures (c.begins_trim.ensures c.if-not-begins_trim.false) in
    let none : c.rest_of.result.now ≡ [] = nil_from_length _ (search rules) in
    whole-plain raw count c.digits_len-count.ensures.value trim (sym c.rest_of.ensures ∙ none)

-- what is behind the digits, that it is digits, and that those in front are trim
parts : (c : goal.After-front_of-in-46) →
    let rest = c.rest_of.result.now in
    let fraction = take (length rest - 1) (drop 1 rest) in
    (drop c.digits_len-count.result c.args.raw.now ≡ 46 ∷ fraction) × AreDigits fraction × IsTrim (take c.digits_len-count.result c.args.raw.now)
parts c =
    let rest = c.rest_of.result.now in
    let period : rest ≡ 46 ∷ drop 1 rest = search rules in (
      sym c.rest_of.ensures ∙ subst (λ x. rest ≡ 46 ∷ x) (sym (take_rest rest 1)) period,
      sym c.are_digits.ensures ∙ c.if-are_digits.true,
      subst IsTrim c.front_of.ensures (c.begins_trim.ensures c.if-not-begins_trim.false),
    )

-- what is left of the bytes
left : (c : goal.After-front_of-in-46) →
    c.front_of-in-46.result.now ≡ (if c.kept_len-kept.result == 0 then take c.digits_len-count.result c.args.raw.now else take (c.digits_len-count.result + (1 + c.kept_len-kept.result)) c.args.raw.now)
left c =
    let raw = c.args.raw.now in
    let count = c.digits_len-count.result in
    let cut : (behind : ℕ) → c.if-kept-eq0.behind ≡ behind → c.front_of-in-46.result.now ≡ take (count + behind) raw =
    λ behind is. c.front_of-in-46.ensures ∙ ap (λ b. take (count + b) raw) is in
    elim c.if-kept-eq0.branch [
      | then-kept-eq0 w ↦ rw w.if-kept-eq0.true (cut 0 w.behind-is ∙ ap (λ k. take k raw) (omega arith))
      | else-kept-eq0 w ↦ let some : (c.kept_len-kept.result == 0) ≡ false = search rules in rw some (cut (1 + c.kept_len-kept.result) w.behind-is)
    ]

pub returns-after-kept-eq0-clause-plain : goal.returns-after-kept-eq0-clause-plain
returns-after-kept-eq0-clause-plain c =
    let (behind, digits, trim) = parts c in
    rw (left c) (trim-plain c.args.raw.now _ c.digits_len-count.result c.kept_len-kept.result c.digits_len-count.ensures.value trim behind digits
    c.kept_len-kept.ensures.bound c.kept_len-kept.ensures.ends)

pub returns-after-kept-eq0-clause-same : goal.returns-after-kept-eq0-clause-same
returns-after-kept-eq0-clause-same c =
    let (behind, digits, trim) = parts c in
    rw (left c) (λ n h. trim-off c.args.raw.now _ c.digits_len-count.result c.kept_len-kept.result n c.digits_len-count.ensures.value trim behind digits
    c.kept_len-kept.ensures.zeros h)
