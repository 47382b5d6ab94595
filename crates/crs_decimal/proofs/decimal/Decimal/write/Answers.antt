use Rattle.std.proofs.Common.{◌≡◌, ◌≤◌, ◌++◌, length, decimal, List, ℕ, arith, ◌∙◌, ap, rules, subst, sym, MatchResult}
use Rattle.std.proofs.lemmas.Fmt.{length-decimal-le_wide}
use Rattle.std.proofs.lemmas.Result.{MatchResult-weaker}
use Rattle.crs_decimal.specs.Numbers.{plain}
use Rattle.crs_decimal.proofs.NumberLemmas.{normal_parts}
use Rattle.crs_decimal.proofs.WrittenLemmas.{appends-plain}
use Rattle.crs_decimal.proofs.decimal.Decimal.write.Goals as goal

pub push_scaled-requires-clause-digits : goal.push_scaled-requires-clause-digits
push_scaled-requires-clause-digits c =
    let v = c.args.self.now in
    let limit = (normal_parts v c.digits.ensures.normal).0 in
    let text : c.as_bytes-digits.result.now ≡ decimal v.digits = c.as_bytes-digits.ensures.value ∙ c.format.ensures.text ∙ ap decimal c.digits.ensures.value in
    subst (λ (ds : List ℕ). length ds ≤ 38) (sym text) (length-decimal-le_wide 38 v.digits (omega arith) limit (omega arith))

pub returns-clause-spelled : goal.returns-clause-spelled
returns-clause-spelled c =
    let before = c.args.out.now.items in
    let after = c.extend_from_slice.new.self.items in
    let appended : MatchResult c.extend_from_slice.result (λ _. after ≡ before ++ plain c.args.self.now) (λ _. after ≡ before) = search rules in
    MatchResult-weaker c.extend_from_slice.result appended (λ x e. appends-plain c.args.self.now c.is_negative.ensures.normal _ _ e) (λ y e. e)
