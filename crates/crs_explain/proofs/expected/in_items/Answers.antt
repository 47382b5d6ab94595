use Rattle.std.proofs.Common.{◌<◌, ◌≤◌, ℕ, inl, inr, subst, arith}
use Rattle.std.proofs.lemmas.Bool.{cases_eq}
use Rattle.std.proofs.lemmas.Result.{IfOk-weaker}
use Rattle.crs_shape.specs.inner.Prelude.{IsShapeNumber}
use Rattle.crs_explain.specs.Expected.{IsShapeExpected}
use Rattle.crs_explain.proofs.expected.in_items.Goals as goal

shape_number : (n : ℕ) → 11 ≤ n → n < 14 → IsShapeNumber n
shape_number n low high = elim (cases_eq n 11) [
  | inl is ↦ inl is
  | inr other ↦ elim (cases_eq n 12) [
    | inl is ↦ inr (inl is)
    | inr another ↦ inr (inr (omega (arith, low, high, other, another)))
  ]
]

pub returns-in-11-to-13 : goal.returns-in-11-to-13
returns-in-11-to-13 c =
    let number = c.number-number.ensures.value in
    let low : 11 ≤ c.number-number.result = omega (arith, c.in-11-to-13) in
    let high : c.number-number.result < 14 = omega (arith, c.in-11-to-13) in
    IfOk-weaker c.shape_expected.result _ _
    (λ found is. record {
      shape = λ _. subst (λ at. IsShapeExpected c.args.text.now at c.args.items.now found) c.place-place.ensures is;
      word = λ e. absurd (omega (arith, number, e, high));
      axes = λ e. absurd (omega (arith, number, e, high));
      other = λ no _ _. absurd (no (rw number at (shape_number c.number-number.result low high)));
    })
    c.shape_expected.ensures
