use Rattle.std.proofs.Common.{◌≡◌, arith}
use Rattle.crs_shape.specs.declared.class.Class.TheVariants as class
use Rattle.crs_value.specs.Reads.{ReadsNumber}
use Rattle.crs_value.proofs.found.ArgumentLemmas.{number-shaped, number-there, number-next, reads-first}
use Rattle.crs_value.proofs.reading.cursor.Cursor.number_at.Goals as goal

pub unreachable-requires : goal.unreachable-requires
unreachable-requires c =
    number-there c.slots_count.ensures.least c.args.self.now.items.now _ class.Number _ c.loop-step._step c.args.k c.requires.shaped c.requires.enough (omega arith)
    (rw c.in_default.is at c.loop-step.invariant)

pub loop-step-preserved : goal.loop-step-preserved
loop-step-preserved c = number-next _ _ class.Number _ c.loop-step._step c.in-Some.found c.later-at.result (rw c.in-Some.is at c.loop-step.invariant) c.later-at.ensures

pub unreachable-requires-in_default-at : goal.unreachable-requires-in_default-at
unreachable-requires-in_default-at c =
    number-there c.slots_count.ensures.least c.args.self.now.items.now _ class.Number _ c.loop-step._step c.args.k c.requires.shaped c.requires.enough (omega arith)
    (rw c.in_default-at.is at c.loop-step.invariant)

pub decimal_of-requires-clause-shaped : goal.decimal_of-requires-clause-shaped
decimal_of-requires-clause-shaped c = number-shaped _ _ class.Number _ c.loop-step._step c.in-Some-at.found c.requires.shaped (rw c.in-Some-at.is at c.loop-step.invariant)

pub returns : goal.returns
returns c =
    let same : c.loop-step._step ≡ c.args.k = omega arith in
    let found = rw c.in-Some-at.is at c.loop-step.invariant in
    reads-first ReadsNumber _ _ _ c.decimal_of.result (rw same at found.0) c.decimal_of.ensures
