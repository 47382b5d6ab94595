use Rattle.std.proofs.Common.{◌++◌}
use Rattle.crs_value.proofs.walk.LeftLemmas.{all-leave-on, all-passed-on}
use Rattle.crs_value.proofs.judging.slots.ThenSlots.pass.Goals as goal

pub returns-in-None-clause-passed : goal.returns-in-None-clause-passed
returns-in-None-clause-passed g c = λ slots. c.in-None.ensures.passed (g.S.Slots.slots ++ slots)

pub returns-in-Some-clause-leaves : goal.returns-in-Some-clause-leaves
returns-in-Some-clause-leaves g c =
    all-leave-on c.args.parent.items.now c.args.parent.class g.A.Slot.slot g.S.Slots.slots c.args.at c.in-Some.next c.pass-in-Some.result c.in-Some.ensures.leaves c.pass-in-Some.ensures.leaves

pub returns-in-Some-clause-passed : goal.returns-in-Some-clause-passed
returns-in-Some-clause-passed g c =
    all-passed-on c.args.parent.items.now c.args.parent.class c.args.parent.close g.A.Slot.slot g.S.Slots.slots c.args.at c.in-Some.next c.pass-in-Some.result _ _ _ c.in-Some.ensures.passed c.pass-in-Some.ensures.passed
