-- A bridge: texts are appended.
use Rattle.std.specs.Prelude.{◌≡◌, ◌++◌, List}
use Rattle.crs_explain.specs.Differing.{PartTexts}

-- what follows those from before are such texts
abbrev pub AppendsTexts : (List PartTexts → Type 0) → (before after : List PartTexts) → Type 0
AppendsTexts Are before after = (texts : List PartTexts) × Are texts × (after ≡ before ++ texts)
