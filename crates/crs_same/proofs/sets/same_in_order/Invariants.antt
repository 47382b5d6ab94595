use Rattle.std.proofs.Common.{◌≡◌, take}
use Rattle.crs_same.specs.SameIdents.{AllHaveSame}
use Rattle.crs_same.proofs.sets.same_in_order.Given as goal

abbrev pub invariant-loop-member : goal.invariant-loop-member
invariant-loop-member g l =
    record {
      at : l.at ≡ l.member-index;
      there : AllHaveSame (g.T.SetMember.Same l.level) (take l.member-index l.members) l.others;
      back : AllHaveSame (g.T.SetMember.Same l.level) (take l.member-index l.others) l.members;
    }
