use Rattle.std.proofs.Common.{◌≡◌, ◌^◌, ◌<◌, ◌≤◌, [], ◌∷◌, ◌++◌, length, drop, sym, ap, subst, ◌∙◌, arith, rules}
use Rattle.std.proofs.lemmas.List.{nil_from_length}
use Rattle.std.proofs.lemmas.Option.{IfSome_then}
use Rattle.crs_decimal.specs.Numbers.{digits_value}
use Rattle.crs_decimal.specs.inner.Split.{leading_digits, behind_digits, behind_sign}
use Rattle.crs_decimal.proofs.ShortLemmas.{short_fraction, value_joined, small_at}
use Rattle.crs_decimal.proofs.short.read_short.Goals as goal

pub returns-else-not-is_empty : goal.returns-else-not-is_empty
returns-else-not-is_empty c =
    let bytes = c.args.bytes.now in
    let sign = c.split_sign-negative.ensures in
    let whole = c.with_digits.ensures in
    let all = c.with_digits-in-46.ensures in
    let left = c.with_digits.result.1.now in
    let rest = drop 1 left in
    let period : left ≡ 46 ∷ rest = search rules in
    let empty : c.with_digits-in-46.result.1.now ≡ [] = nil_from_length _ (search rules) in
    let room : length c.split_sign-negative.result.1.now ≤ 19 = search rules in
    let fraction = c.rest_of-fraction.ensures in
    let lengths : length (leading_digits c.split_sign-negative.result.1.now) ≡ length (leading_digits (behind_sign bytes)) = cc in
    let more : length (leading_digits c.rest_of-fraction.result.now) ≡ length (leading_digits rest) = cc in
    let value : c.with_digits-in-46.result.0.value ≡ digits_value (leading_digits (behind_sign bytes) ++ leading_digits rest) =
    cc (value_joined (leading_digits (behind_sign bytes)) (leading_digits rest)) in
    let few : c.with_digits-in-46.result.0.count ≤ 19 = omega (arith, all.len, whole.len, room, ap length fraction, ap length period) in
    let small : c.with_digits-in-46.result.0.value < 10 ^ 19 = small_at _ _ 19 all.small few in
    IfSome_then c.some_digits-in-46.result c.some_digits-in-46.ensures (λ s h.
    short_fraction bytes s (h.2 ∙ sign.sign) (subst (λ v. v < 10 ^ 19) (sym h.0) small) rest
    (ap behind_digits (sym sign.rest) ∙ sym whole.rest ∙ period)
    (ap behind_digits (sym fraction) ∙ sym all.rest ∙ empty)
    (h.0 ∙ value)
    (omega (arith, h.3, all.count, whole.count, lengths, more))
    (omega (arith, few, all.count, whole.count, lengths, more))
    (omega (arith, h.1, all.len, all.count, ap length empty, more, ap length fraction)))
