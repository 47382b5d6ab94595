use Rattle.crs_text.proofs.settled.FeedingLemmas.{open_from, shut_from, lone}
use Rattle.crs_text.proofs.feeding.open_to.Goals as goal

pub returns-in-Some : goal.returns-in-Some
returns-in-Some c =
    lone c.args.after.now _ (shut_from c.args.after.now c.args.known c.in-Some.more c.requires (rw c.rest_of.ensures at c.in-Some.ensures)) c.if-known-more.true

pub returns-in-None : goal.returns-in-None
returns-in-None c = open_from c.args.after.now c.args.known c.requires (rw c.rest_of.ensures at c.in-None.ensures)
