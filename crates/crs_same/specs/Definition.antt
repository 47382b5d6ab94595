-- Which parts count by definition.
use Rattle.crs_same.specs.declared.step.Step.{Step}
use Rattle.crs_same.specs.declared.step.Step.TheVariants as step

-- a step to another part than identifiers, usages and a remark
abbrev pub IsOfDefinition : Step → Type 0
IsOfDefinition step.Id = ⊥
IsOfDefinition step.Usage = ⊥
IsOfDefinition step.Remark = ⊥
IsOfDefinition other = Unit {0}
