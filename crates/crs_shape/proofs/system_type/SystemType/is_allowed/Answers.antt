use Rattle.crs_shape.specs.Dimensions.{dimensions_of}
use Rattle.crs_shape.proofs.words.DimensionLemmas.{as-whole, no-dimension, whole-of}
use Rattle.crs_shape.proofs.system_type.SystemType.is_allowed.Goals as goal

pub returns-in-None : goal.returns-in-None
returns-in-None c = (λ no. cc, λ h. absurd (no-dimension c.args.class c.args.self c.args.dimension.now c.in-None.ensures h))

pub returns-in-Some : goal.returns-in-Some
returns-in-Some c =
    let dims = dimensions_of c.args.class c.args.self in (
      λ yes. as-whole c.args.dimension.now c.in-Some.whole c.in-Some.ensures dims (c.has_dimension.ensures.0 yes),
      λ h. c.has_dimension.ensures.1
          (whole-of c.same_number_is_equivalence.ensures.symmetric c.same_number_is_equivalence.ensures.transitive c.args.dimension.now c.in-Some.whole c.in-Some.ensures dims h),
    )
