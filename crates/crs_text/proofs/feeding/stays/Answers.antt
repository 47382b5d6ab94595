use Rattle.std.proofs.Common.{arith}
use Rattle.crs_text.proofs.settled.FeedingLemmas.{pending_longer, run_stays, word_stays}
use Rattle.crs_text.proofs.feeding.stays.Goals as goal

pub returns-in-Word : goal.returns-in-Word
returns-in-Word c =
    rw c.in-Word.is (word_stays c.args.left.now c.requires.0 c.args.piece.now c.requires.1 (rw c.in-Word.is at c.requires.2) (omega (arith, c.length.ensures.value, c.if-length-piece.true)))

pub returns-in-Run : goal.returns-in-Run
returns-in-Run c =
    rw c.in-Run.is (run_stays c.args.left.now c.requires.0 c.args.piece.now c.requires.1 (rw c.in-Run.is at c.requires.2) (omega arith))

pub stays_open-requires : goal.stays_open-requires
stays_open-requires c = pending_longer c.args.left.now c.requires.0 c.args.piece.now c.in-Text.inside c.in-Text.valid c.args.pending c.in-Text.is c.requires.1 c.requires.2
