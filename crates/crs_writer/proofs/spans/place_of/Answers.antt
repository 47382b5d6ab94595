use Rattle.std.proofs.Common.{◌∙◌, sym, arith}
use Rattle.crs_writer.proofs.SpanLemmas.{step-above, step-below, step-equal}
use Rattle.crs_writer.proofs.spans.place_of.Goals as goal

pub loop-at-preserved : goal.loop-at-preserved
loop-at-preserved c = (
  omega (arith, c.loop-at.invariant.0),
  step-below c.args.text.now c.args.bytes.now c.args.spans.now c.loop-at.at _ _ c.text_at.ensures (omega (arith, c.loop-at-test.true))
      c.loop-at.invariant.0 c.loop-at.invariant.1 (sym c.cmp.ensures ∙ c.in-Less.is),
)

pub returns-in-Equal : goal.returns-in-Equal
returns-in-Equal c =
    step-equal c.args.text.now c.args.bytes.now c.args.spans.now c.loop-at.at _ _ c.text_at.ensures (omega (arith, c.loop-at-test.true))
    c.loop-at.invariant.0 c.loop-at.invariant.1 c.requires.ascend (sym c.cmp.ensures ∙ c.in-Equal.is)

pub returns-in-Greater : goal.returns-in-Greater
returns-in-Greater c = (
  c.loop-at.invariant.0,
  step-above c.args.text.now c.args.bytes.now c.args.spans.now c.loop-at.at _ _ c.text_at.ensures (omega (arith, c.loop-at-test.true))
      c.loop-at.invariant.0 c.loop-at.invariant.1 c.requires.ascend (sym c.cmp.ensures ∙ c.in-Greater.is),
)
