use Rattle.std.proofs.Common.{None, Some, rules}
use Rattle.crs_same.specs.SameParts.{SameLength}
use Rattle.crs_same.proofs.single.same_length.Goals as goal

pub returns-in-None-None : goal.returns-in-None-None
returns-in-None-None c =
    let same : SameLength c.args.level None None = (c.same_length_is_equivalence.ensures c.args.level).reflexive None in
    rw (c.in-None-None.is-0, c.in-None-None.is-1) (λ is. same, λ s. search rules)

pub returns-in-None-Some : goal.returns-in-None-Some
returns-in-None-Some c =
    let law = c.same_length_is_equivalence.ensures c.args.level in
    rw (c.in-None-Some.is-0, c.in-None-Some.is-1) (
      λ is. law.symmetric (Some c.in-None-Some.y) None (c.is_metre.ensures.0 is),
      λ s. c.is_metre.ensures.1 (law.symmetric None (Some c.in-None-Some.y) s),
    )
