use Rattle.std.proofs.Common.{[], drop}
use Rattle.crs_desk.specs.Requests.{order_of}
use Rattle.crs_desk.proofs.PathWordLemmas.{AreLeft}
use Rattle.crs_desk.proofs.line.job.order_of.Given as goal

abbrev pub invariant-loop-words : goal.invariant-loop-words
invariant-loop-words l = AreLeft [] (order_of l.fn.given) l.order.items (order_of (drop l.words-index l.fn.given))
