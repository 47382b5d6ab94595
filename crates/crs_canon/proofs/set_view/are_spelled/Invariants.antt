use Rattle.std.proofs.Common.{drop, map}
use Rattle.crs_value.specs.Sound.{Each}
use Rattle.crs_value.specs.declared.values.level.Level.{Level}
use Rattle.crs_writer.specs.inner.Prelude.{AreSpellingsOf}
use Rattle.crs_canon.proofs.set_view.are_spelled.Given as goal

abbrev pub invariant-loop-member : goal.invariant-loop-member
invariant-loop-member g l =
    (Each g.T.Canonical.IsValue (drop l.member-index l.members) → Each g.T.Canonical.IsValue l.members)
    × ((level : Level) →
    AreSpellingsOf (g.T.Canonical.IsSpelling level) (drop l.member-index l.members)
    (map (g.T.Spell.spelling level) (drop l.member-index l.members)) →
    AreSpellingsOf (g.T.Canonical.IsSpelling level) l.members (map (g.T.Spell.spelling level) l.members))
