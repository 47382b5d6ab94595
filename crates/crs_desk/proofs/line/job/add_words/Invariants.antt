use Rattle.std.proofs.Common.{length}
use denote.Text.{Utf8}
use denote.Shadow.{shadow}
use Rattle.crs_desk.specs.Requests.{words_meant}
use Rattle.crs_desk.proofs.PathWordLemmas.{AreLeft}
use Rattle.crs_desk.proofs.line.job.add_words.Given as goal

abbrev pub invariant-loop-word : goal.invariant-loop-word
invariant-loop-word l =
    shadow (Utf8 l.rest) × AreLeft l.fn.order.items (words_meant l.fn.text) l.order.items (words_meant l.rest)

abbrev pub decreases-loop-word : goal.decreases-loop-word
decreases-loop-word l = length l.rest
