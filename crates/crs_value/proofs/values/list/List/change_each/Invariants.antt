use Rattle.std.proofs.Common.{◌≡◌, ◌++◌, drop, map, take}
use Rattle.crs_value.proofs.values.list.List.change_each.Given as goal

abbrev pub invariant-loop-member : goal.invariant-loop-member
invariant-loop-member g l =
    take l.member-index l.member-items ++ map (g.C.Change.changed l.change) (drop l.member-index l.member-items)
    ≡ map (g.C.Change.changed l.change) l.fn.self
