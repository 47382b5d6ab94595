use Rattle.std.proofs.Common.{◌++◌, ◌∷◌, ℕ, List, Some, ap, refl, sym, ◌∙◌}
use Rattle.std.proofs.lemmas.Result.{on_ok_weaker}
use Rattle.crs_shape.specs.inner.Prelude.{asked_kind}
use Rattle.crs_shape.specs.declared.class.Class.TheVariants as class
use Rattle.crs_value.specs.inner.Prelude.{ReadsAxisMeridian, ReadsUnit}
use Rattle.crs_normal.specs.inner.Prelude.{whole_value}
use Rattle.crs_writer.specs.inner.Node.{item}
use Rattle.crs_writer.specs.declared.nodes.node.Node.{Node}
use Rattle.crs_writer.proofs.FoundLemmas.{first-said}
use Rattle.crs_writer.proofs.FlatLemmas.{through}
use Rattle.crs_writer.proofs.NodeTextLemmas.{placed}
use Rattle.crs_writer.proofs.spelling.system.write_axis_of.Goals as goal

pub returns-in-Some : goal.returns-in-Some
returns-in-Some c = on_ok_weaker c.append_item.result
    (λ e s a type shared r. e ∙ ap (λ (x : List ℕ). c.args.out.now.items ++ 44 ∷ x) (c.in-Some.ensures s a r)) c.append_item.ensures

pub returns : goal.returns
returns c = on_ok_weaker c.write_axis.result (λ w s a type shared r.
    let direction = c.direction-direction.ensures a.direction r.direction in
    placed c.args.level s c.args.at.position a _ _ _ c.in_ok-append.ensures
    (w _ _ _ (Some (whole_value c.args.at.position)) _ _ _ (c.text.ensures a.name r.name) direction
    (first-said ReadsAxisMeridian c.args.axis.now class.AxisMeridian _ _ _ c.first-meridian.ensures c.as_ref.ensures.value r.meridian) refl
    (ap (λ t. asked_kind t a.direction) type ∙ ap (λ d. asked_kind c.args.at.system_type d) direction ∙ sym c.asked_kind.ensures)
    (through (λ (n : Node) u. ReadsUnit n.class (item n) u) _ _ _ c.as_ref-2.ensures.value (c.unit_of-unit.ensures a.unit s.unit r.unit shared))
    r.identifiers)) c.write_axis.ensures
