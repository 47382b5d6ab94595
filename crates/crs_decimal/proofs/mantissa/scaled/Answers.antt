use Rattle.std.proofs.Common.{◌≤◌, ◌*◌, ◌^◌, arith, sym}
use Rattle.std.proofs.lemmas.Bool.{le-ltb, cond-false}
use Rattle.crs_decimal.proofs.PowerLemmas.{scaled_more, scaled_below}
use Rattle.crs_decimal.proofs.mantissa.scaled.Goals as goal

pub returns-then-product : goal.returns-then-product
returns-then-product c =
    let digits = c.args.digits in
    let zeros = c.args.zeros in
    let low = scaled_below digits c.loop-step._step zeros c.loop-step.product c.loop-step.invariant (omega arith) in
    let large : 10 ^ 38 ≤ digits * 10 ^ zeros = omega arith in
    sym (cond-false _ _ _ (le-ltb (digits * 10 ^ zeros) (10 ^ 38) large))

pub loop-step-preserved : goal.loop-step-preserved
loop-step-preserved c = scaled_more _ _ _ c.loop-step.invariant
