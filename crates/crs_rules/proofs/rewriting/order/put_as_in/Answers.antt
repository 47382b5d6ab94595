use Rattle.crs_value.specs.declared.values.level.Level.TheVariants as levels
use Rattle.crs_normal.specs.inner.Prelude.{axis_text}
use Rattle.crs_rules.specs.Rewritten.{axis}
use Rattle.crs_rules.proofs.FormOrderLemmas.{keys-across, keys-up}
use Rattle.crs_rules.proofs.rewriting.order.put_as_in.Goals as goal

pub put_crs-requires-clause-across : goal.put_crs-requires-clause-across
put_crs-requires-clause-across c =
    let (r, is) = c.requires in
    (λ a. axis_text levels.Full (axis r a), keys-across (axis_text levels.Full) r _ _ _ c.in_ok-across.ensures c.axes_across.ensures is)

pub put_crs-requires-clause-up : goal.put_crs-requires-clause-up
put_crs-requires-clause-up c =
    let (r, is) = c.requires in
    (λ a. axis_text levels.Full (axis r a), keys-up (axis_text levels.Full) r _ _ _ c.in_ok-up.ensures c.axes_up.ensures is)

pub returns : goal.returns
returns c =
    λ r is. c.put_crs.ensures (λ a. axis_text levels.Full (axis r a))
    (keys-across (axis_text levels.Full) r _ _ _ c.in_ok-across.ensures c.axes_across.ensures is)
    (keys-up (axis_text levels.Full) r _ _ _ c.in_ok-up.ensures c.axes_up.ensures is)
