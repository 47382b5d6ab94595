-- A bridge: why words aren't taken for words of paths.
use Rattle.std.specs.Prelude.{List}
use Rattle.clap.specs.Words.{Text}
use Rattle.crs_value.specs.Sound.{Each}
use Rattle.crs_desk.specs.Requests.{IsInPaths}
use Rattle.crs_desk.specs.declared.line.job.JobFault.{JobFault}
use Rattle.crs_desk.specs.declared.line.job.JobFault.TheVariants as fault

-- not each of these words is in paths, or memory ran out
abbrev pub IsPartFault : List Text → JobFault → Type 0
IsPartFault words fault.Level = ⊥
IsPartFault words fault.Part = ¬ (Each IsInPaths words)
IsPartFault words fault.Memory = Unit {0}
