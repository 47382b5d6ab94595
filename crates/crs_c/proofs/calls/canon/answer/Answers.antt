use Rattle.std.proofs.Common.{refl}
use Rattle.crs_c.specs.inner.Wanting.{IsWanted}
use Rattle.crs_c.proofs.EachLemmas.{turn_made, turn_refused}
use Rattle.crs_c.proofs.calls.canon.answer.Goals as goal

pub returns-in-Ok : goal.returns-in-Ok
returns-in-Ok c =
    turn_made c.args.asked.1 c.args.asked.0.now c.args.at c.args.entry c.args.out.now c.in-Ok.canonical.bytes _ _ _
    c.requires (rw (c.text_of.ensures, c.level.ensures) at c.in-Ok.ensures.answer) (rw c.bytes.ensures at c.made-answered.ensures)

pub returns-in-Err : goal.returns-in-Err
returns-in-Err c =
    turn_refused (IsWanted c.args.asked.1) c.args.asked.0.now c.args.at c.args.entry c.args.out.now c.in-Err.fault c.refused.result _
    c.requires (rw c.text_of.ensures at c.in-Err.ensures.answer) c.refused.ensures refl
