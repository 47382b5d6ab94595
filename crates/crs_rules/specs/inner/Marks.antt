-- A bridge: where a reader of rules files is, and how it goes back there.
use Rattle.std.specs.Prelude.{◌≡◌, length, take}
use Rattle.crs_rules.specs.Statements.{Reading}
use Rattle.crs_rules.specs.declared.file.reader.Mark.{Mark}

-- a reader is there
pub record IsMarked (r : Reading) (mark : Mark) : Type 0 where
  pub line : mark.line ≡ r.line
  pub seen : mark.seen ≡ length r.seen
  pub names : mark.names ≡ length r.rules.names
  pub units : mark.units ≡ length r.rules.units
  pub kinds : mark.kinds ≡ length r.rules.kinds
  pub uncounted : mark.uncounted ≡ r.rules.uncounted

-- without what was added since
abbrev pub gone_back : Mark → Reading → Reading
gone_back mark r = record {
  line = mark.line;
  seen = take mark.seen r.seen;
  rules = record {
    names = take mark.names r.rules.names;
    units = take mark.units r.rules.units;
    uncounted = mark.uncounted;
    kinds = take mark.kinds r.rules.kinds;
  };
}
