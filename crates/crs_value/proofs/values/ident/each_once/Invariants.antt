use Rattle.std.proofs.Common.{◌≡◌, take}
use Rattle.crs_value.specs.Members.{AreIn}
use Rattle.crs_value.proofs.values.ident.each_once.Given as goal

abbrev pub invariant-loop-ident : goal.invariant-loop-ident
invariant-loop-ident l =
    record {
      at : l.at ≡ l.ident-index;
      of : AreIn l.once.items l.idents;
      all : AreIn (take l.ident-index l.idents) l.once.items;
    }
