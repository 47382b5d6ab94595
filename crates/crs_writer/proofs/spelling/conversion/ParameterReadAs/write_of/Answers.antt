use Rattle.crs_value.specs.inner.Prelude.{ReadsUnit}
use Rattle.crs_writer.specs.inner.Node.{item}
use Rattle.crs_writer.specs.declared.nodes.node.Node.{Node}
use Rattle.crs_writer.proofs.FlatLemmas.{through, written}
use Rattle.crs_writer.proofs.spelling.conversion.ParameterReadAs.write_of.Goals as goal

pub returns : goal.returns
returns c = written c.write_measured.result _ _ _ c.write_measured.ensures (λ w p r.
    w p.name p.value p.unit p.identifiers (c.text.ensures p.name r.name) (c.number.ensures p.value r.value)
    (through (λ (n : Node) u. ReadsUnit n.class (item n) u) _ _ _ c.as_ref.ensures.value (c.parameter_unit-unit.ensures p.unit r.unit))
    r.identifiers)
