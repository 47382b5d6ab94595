use Rattle.std.proofs.Common.{◌≡◌, take}
use Rattle.crs_same.specs.SameIdents.{AllHaveSame}
use Rattle.crs_same.proofs.sets.SetMembers.includes_each.Given as goal

abbrev pub invariant-loop-member : goal.invariant-loop-member
invariant-loop-member g l =
    record {
      at : l.at ≡ l.member-index;
      before : AllHaveSame (g.T.SetMember.Same l.level) (take l.member-index l.members) l.self;
    }
