use Rattle.std.proofs.Common.{arith, ◌∙◌}
use Rattle.crs_decimal.proofs.ShortLemmas.{zero_off}
use Rattle.crs_decimal.proofs.short.stripped.Goals as goal

pub loop-digits-preserved : goal.loop-digits-preserved
loop-digits-preserved c = record {
  product = c.loop-digits.invariant.product ∙ zero_off c.loop-digits.digits c.loop-digits.zeros c.loop-digits-test.true;
  some = omega arith;
  room = omega arith;
}
