use Rattle.std.proofs.Common.{◌≡◌, ◌++◌, ◌≤◌, ℕ, List, drop, max}
use Rattle.crs_group.specs.Names.{NamedText}
use Rattle.crs_group.specs.inner.GroupReading.{IsLedgerOfNamed}
use Rattle.crs_desk.specs.FilesGrouped.{AreReadFiles}
use Rattle.crs_desk.proofs.runs.group_files.add_files.Given as goal

abbrev pub invariant-loop-name : goal.invariant-loop-name
invariant-loop-name g l =
    record {
      few : l.ledger.lines ≤ l.name-index;
      level : l.ledger.catalogue.level ≡ g.A.Adding.level l.adding;
      added : (texts : List NamedText) × IsLedgerOfNamed (g.A.Adding.Form l.adding) (g.A.Adding.Share l.adding) texts l.ledger
          × ((more : List NamedText) (others : ℕ)
          → AreReadFiles (g.I.Inputs.known l.files) (drop l.name-index l.names) more others
          → AreReadFiles (g.I.Inputs.known l.files) l.names (texts ++ more) (max l.status others));
    }
