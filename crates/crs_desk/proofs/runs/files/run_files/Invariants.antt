use Rattle.std.proofs.Common.{◌++◌, ℕ, List, drop, max}
use Rattle.std.specs.Io.KnownBytes.{Appends}
use Rattle.crs_desk.specs.FilesRun.{AreFileOutputs, name_prefix}
use Rattle.crs_desk.specs.inner.LineCutting.{IsHealthy}
use Rattle.crs_desk.proofs.runs.files.run_files.Given as goal

abbrev pub invariant-loop-name : goal.invariant-loop-name
invariant-loop-name g l =
    record {
      healthy : IsHealthy l.w;
      sent : (written : List ℕ) × Appends l.fn.w.contents l.w.contents written
          × ((more : List ℕ) (others : ℕ)
          → AreFileOutputs l.task (name_prefix l.task l.shown) (g.I.Inputs.known l.files) (drop l.name-index l.names) more others
          → AreFileOutputs l.task (name_prefix l.task l.shown) (g.I.Inputs.known l.files) l.names (written ++ more) (max l.status others));
    }
