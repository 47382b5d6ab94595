use Rattle.std.proofs.Common.{ap, map, ◌∙◌}
use Rattle.crs_value.specs.declared.values.level.Level.TheVariants as levels
use Rattle.crs_normal.specs.inner.Prelude.{axis_text}
use Rattle.crs_rules.proofs.FormOrderLemmas.{crs-orderless}
use Rattle.crs_rules.proofs.rewriting.order.arrange_crs.Goals as goal

pub put_crs-requires-clause-across : goal.put_crs-requires-clause-across
put_crs-requires-clause-across c =
    (axis_text levels.Full, c.in_ok-across.ensures ∙ ap (map (axis_text levels.Full)) c.axes_across.ensures)

pub put_crs-requires-clause-up : goal.put_crs-requires-clause-up
put_crs-requires-clause-up c =
    (axis_text levels.Full, c.in_ok-up.ensures ∙ ap (map (axis_text levels.Full)) c.axes_up.ensures)

pub returns : goal.returns
returns c =
    c.put_crs.ensures (axis_text levels.Full)
    (c.in_ok-across.ensures ∙ ap (map (axis_text levels.Full)) c.axes_across.ensures)
    (c.in_ok-up.ensures ∙ ap (map (axis_text levels.Full)) c.axes_up.ensures)
    ∙ crs-orderless (axis_text levels.Full) c.args.crs.now c.requires
