-- The words of a path to a part.
use Rattle.std.specs.Prelude.{List, ◌++◌, ℕ, codes, decimal, flat_map}
use Rattle.std.specs.List.{join_by}
use Rattle.crs_same.specs.declared.step.Step.{Step}
use Rattle.crs_same.specs.declared.step.Step.TheVariants as step

-- the text of a step: a word, and for an axis its position
abbrev pub step_text : Step → List ℕ
step_text step.Kind = codes "kind"
step_text step.Name = codes "name"
step_text step.Datum = codes "datum"
step_text step.Meridian = codes "meridian"
step_text step.System = codes "system"
step_text step.Usage = codes "usage"
step_text step.Id = codes "id"
step_text step.Remark = codes "remark"
step_text step.Base = codes "base"
step_text step.Conversion = codes "conversion"
step_text step.Geoid = codes "geoid"
step_text step.Horizontal = codes "horizontal"
step_text step.Vertical = codes "vertical"
step_text step.Unit = codes "unit"
step_text step.Ellipsoid = codes "ellipsoid"
step_text step.Anchor = codes "anchor"
step_text step.Dynamic = codes "dynamic"
step_text step.Epoch = codes "epoch"
step_text step.Model = codes "model"
step_text step.AnchorEpoch = codes "anchorepoch"
step_text step.Members = codes "members"
step_text step.Accuracy = codes "accuracy"
step_text step.SemiMajor = codes "semimajor"
step_text step.Flattening = codes "flattening"
step_text step.Longitude = codes "longitude"
step_text step.SystemType = codes "type"
step_text step.Dimension = codes "dimension"
step_text (step.Axis position) = codes "axis" ++ decimal position
step_text step.Direction = codes "direction"
step_text step.Method = codes "method"
step_text step.Parameters = codes "parameters"

-- the texts of the steps with slashes between them
abbrev pub path_text : List Step → List ℕ
path_text = join_by step_text (codes "/")

-- ---- bridges: what is written step by step

-- each of these steps after a slash
abbrev pub further_text : List Step → List ℕ
further_text = flat_map (λ step. codes "/" ++ step_text step)
