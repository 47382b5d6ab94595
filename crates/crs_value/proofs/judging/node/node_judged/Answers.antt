use Rattle.std.proofs.Common.{[], refl}
use Rattle.std.proofs.lemmas.List.{append-nil}
use Rattle.crs_value.proofs.found.ArgumentLemmas.{holds_at}
use Rattle.crs_value.proofs.walk.JudgedLemmas.{shaped-by, walked-all, with-fault, with-own}
use Rattle.crs_value.proofs.judging.node.node_judged.Goals as goal

pub pass-requires-clause-holds : goal.pass-requires-clause-holds
pass-requires-clause-holds g c = holds_at _ _ _ c.arg.ensures

pub returns-in_default : goal.returns-in_default
returns-in_default g c =
    with-fault _ _ _ _ _ (walked-all _ _ _ _ _ _ _ _ _ _ c.requires.of c.requires.close c.arg.ensures c.requires.slots refl (rw append-nil at (c.in_default.ensures.passed [])))

pub returns-then-not-ends : goal.returns-then-not-ends
returns-then-not-ends g c =
    with-fault _ _ _ _ _
    (walked-all _ _ _ _ _ _ _ _ _ _ c.requires.of c.requires.close c.arg.ensures c.requires.slots c.if-not-ends.true (rw append-nil at (c.in-Some.ensures.passed [] _ _ c.ends.ensures)))

pub own_of_part-requires-clause-shaped : goal.own_of_part-requires-clause-shaped
own_of_part-requires-clause-shaped g c =
    shaped-by c.walk_finds_the_fault.ensures.none _ _ _ _
    (walked-all _ _ _ _ _ _ _ _ _ _ c.requires.of c.requires.close c.arg.ensures c.requires.slots c.if-not-ends.false (rw append-nil at (c.in-Some.ensures.passed [] _ _ c.ends.ensures)))

pub returns : goal.returns
returns g c =
    with-own _ _ _ _ _ _ _ c.requires.close
    (walked-all _ _ _ _ _ _ _ _ _ _ c.requires.of c.requires.close c.arg.ensures c.requires.slots c.if-not-ends.false (rw append-nil at (c.in-Some.ensures.passed [] _ _ c.ends.ensures)))
    c.own_of_part.ensures c.join.ensures
