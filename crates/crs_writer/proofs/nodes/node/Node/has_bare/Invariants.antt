use Rattle.std.proofs.Common.{◌≡◌}
use Rattle.crs_text.specs.inner.Prelude.{count}
use Rattle.crs_shape.specs.declared.class.Class.{Class}
use Rattle.crs_shape.specs.declared.class.Class.TheVariants as class
use Rattle.crs_value.specs.inner.Prelude.{ahead, Holds, those}
use Rattle.crs_writer.proofs.nodes.node.Node.has_bare.Given as goal

abbrev pub invariant-loop-at : goal.invariant-loop-at
invariant-loop-at l =
    let same : Class → Type 0 = λ c. those l.parent c (ahead l.items l.at) ≡ those l.parent c (ahead l.items l.initial.at) in record {
      scope : same class.Scope;
      area : same class.Area;
      bbox : same class.BoundingBox;
      extent : same class.VerticalExtent;
      has : Holds l.items l.at;
    }

abbrev pub decreases-loop-at : goal.decreases-loop-at
decreases-loop-at l = count (ahead l.items l.at)
