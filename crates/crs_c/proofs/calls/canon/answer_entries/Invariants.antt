use Rattle.crs_c.specs.inner.Wanting.{IsWanted}
use Rattle.crs_c.proofs.EachLemmas.{SoFar}
use Rattle.crs_c.proofs.calls.canon.answer_entries.Given as goal

abbrev pub invariant-loop-index : goal.invariant-loop-index
invariant-loop-index l =
    SoFar (IsWanted l.wanted) l.texts l.initial.entries l.initial.out l.index l.at l.entries l.out
