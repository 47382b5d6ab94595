use Rattle.std.proofs.Common.{codes}
use Rattle.crs_shape.specs.declared.class.Class.TheVariants as class
use Rattle.crs_value.specs.inner.Prelude.{ReadsUnit}
use Rattle.crs_writer.proofs.FoundLemmas.{first-said}
use Rattle.crs_writer.proofs.FlatLemmas.{unless-zero, written}
use Rattle.crs_writer.proofs.spelling.frame_parts.MeridianReadAs.write_of.Goals as goal

pub returns : goal.returns
returns c = written c.write_measured.result _ _ _ c.write_measured.ensures (λ w m r.
    let longitude = c.number-longitude.ensures m.longitude r.longitude in
    unless-zero c.args.level (codes "PRIMEM[\"") m.name m.longitude m.unit m.identifiers _ _
    (w m.name m.longitude _ m.identifiers (c.text.ensures m.name r.name) longitude (c.unit_said.ensures m.longitude m.unit longitude
    (first-said ReadsUnit c.args.node.now class.AngleUnit _ _ _ c.first-unit.ensures c.as_ref.ensures.value r.unit)) r.identifiers))
