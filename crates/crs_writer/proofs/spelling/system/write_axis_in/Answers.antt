use Rattle.std.proofs.Common.{Some, ap, refl, sym, ◌∙◌}
use Rattle.std.proofs.lemmas.Result.{on_ok_weaker}
use Rattle.crs_shape.specs.inner.Prelude.{asked_kind}
use Rattle.crs_value.specs.inner.Prelude.{AxisParts, SystemParts}
use Rattle.crs_normal.specs.inner.Prelude.{whole_value}
use Rattle.crs_writer.proofs.FlatLemmas.{copied}
use Rattle.crs_writer.proofs.NodeTextLemmas.{placed}
use Rattle.crs_writer.proofs.spelling.system.write_axis_in.Goals as goal

pub returns : goal.returns
returns c =
    let axis = c.args.axis.now in
    let system = c.args.system.now in
    let seen = sym c.axis.view_is in
    on_ok_weaker c.write_axis.result (λ w. placed c.args.level system c.args.position axis _ _ _ c.in_ok-append.ensures
    (w _ _ _ (Some (whole_value c.args.position)) _ _ _ (ap (λ (a : AxisParts). a.name) seen) (ap (λ (a : AxisParts). a.direction) seen)
    (copied _ _ (c.as_ref.ensures.value ∙ ap (λ (a : AxisParts). a.meridian) c.axis.view_is)) refl
    (ap (λ (s : SystemParts). asked_kind s.system_type axis.direction) (sym c.system.view_is)
    ∙ ap (λ (a : AxisParts). asked_kind c.system.inside.system_type a.direction) seen ∙ sym c.asked_kind.ensures) (copied _ _ c.unit_of.ensures)
    (ap (λ (a : AxisParts). a.identifiers) seen)))
    c.write_axis.ensures
