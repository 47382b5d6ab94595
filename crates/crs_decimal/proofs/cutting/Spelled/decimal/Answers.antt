use Rattle.std.proofs.Common.{◌≡◌, length, ap, ◌∙◌, arith, rules, w32, SFits}
use Rattle.std.proofs.lemmas.Int.{to_z-of_z}
use Rattle.crs_decimal.specs.inner.Cut.{IsFar, IsPowerBetween}
use Rattle.crs_decimal.proofs.BoundLemmas.{long_unbounded, short_strips, short_zero, at_powers, far_unbounded, near_bounded, near_same, zero_same, zero_bounded}
use Rattle.crs_decimal.proofs.cutting.Spelled.decimal.Goals as goal
use Rattle.crs_decimal.proofs.cutting.Spelled.decimal.Goals.{then-self-gt100-via-then-self-gt100, then-self-gt100-via-else-self-gt100+then-self-gt3, then-self-gt100-via-else-self-gt100+else-self-gt3+then-self}

pub returns-then-self-gt100 : goal.returns-then-self-gt100
returns-then-self-gt100 c = λ p cut d h. elim c.then-self-gt100.branch [
  | then-self-gt100-via-then-self-gt100 w ↦ absurd (omega (arith, h.mantissa_digits, cut.count))
  | then-self-gt100-via-else-self-gt100+then-self-gt3 w ↦ absurd (omega (arith, h.exponent_digits, ap length cut.exponent_digits))
  | then-self-gt100-via-else-self-gt100+else-self-gt3+then-self w ↦ absurd (long_unbounded p c.args.self.now cut d w.if-self.true h)
]

pub returns-then-self-eq0 : goal.returns-then-self-eq0
returns-then-self-eq0 c = λ p cut d.
    let z = short_zero p c.args.self.now cut d c.if-self.false c.if-self-eq0.true in
    (c.zero.ensures.normal, zero_bounded p z (omega (arith, cut.count)) (omega (arith, ap length cut.exponent_digits)), rw c.zero.ensures.value (zero_same p z))

pub new-requires-clause-limit : goal.new-requires-clause-limit
new-requires-clause-limit c =
    let cut = c.requires.cut in (short_strips cut.0 c.args.self.now cut.1 cut.2 c.if-self.false c.if-self-eq0.false).1

pub new-requires-clause-last : goal.new-requires-clause-last
new-requires-clause-last c =
    let cut = c.requires.cut in (short_strips cut.0 c.args.self.now cut.1 cut.2 c.if-self.false c.if-self-eq0.false).0.1

pub returns-in-None : goal.returns-in-None
returns-in-None c = λ p cut d.
    let s = c.args.self.now in
    let up = c.exponent_powers-up in
    let t = short_strips p s cut d c.if-self.false c.if-self-eq0.false in
    far_unbounded p s.mantissa t.0 (at_powers IsFar p s up.result.0 up.result.1 cut up.ensures.up up.ensures.down c.in-None.ensures)

pub returns-in-Some : goal.returns-in-Some
returns-in-Some c = λ p cut d.
    let s = c.args.self.now in
    let up = c.exponent_powers-up in
    let t = short_strips p s cut d c.if-self.false c.if-self-eq0.false in
    let near = at_powers (λ a b. IsPowerBetween a b c.in-Some.power) p s up.result.0 up.result.1 cut up.ensures.up up.ensures.down c.in-Some.ensures in
    let fits : SFits w32 c.in-Some.power = search rules in
    let power : c.new.result.power ≡ c.in-Some.power = c.new.ensures.power ∙ to_z-of_z w32 c.in-Some.power fits in (
      c.new.ensures.normal,
      near_bounded p s.mantissa c.in-Some.power t.0 t.1 (omega (arith, cut.count)) (omega (arith, ap length cut.exponent_digits)) near,
      near_same p s.mantissa c.new.result t.0.0 c.new.ensures.digits (c.new.ensures.negative ∙ cut.negative) (rw power near),
    )
