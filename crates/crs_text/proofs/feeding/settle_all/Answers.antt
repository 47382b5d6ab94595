use Rattle.std.proofs.Common.{◌+◌, drop, refl, rules}
use Rattle.std.proofs.lemmas.Bool.{MatchBool-at_true, MatchBool-at_false}
use Rattle.std.specs.List.{prefix_len}
use Rattle.crs_text.specs.Tokens.{is_white}
use Rattle.crs_text.proofs.settled.FeedingLemmas.{judged, settled_next, settled_fault}
use Rattle.crs_text.proofs.feeding.settle_all.Goals as goal

pub returns-then-not-is_settled : goal.returns-then-not-is_settled
returns-then-not-is_settled c =
    let j = judged c.args.text.now c.loop-at.at c.loop-at-test.true _ _ _ c.rest_of-left.ensures c.token_at-lexed.ensures c.is_settled.ensures in
    (c.loop-at.invariant, MatchBool-at_false _ _ c.if-not-is_settled.true j)

pub loop-at-preserved : goal.loop-at-preserved
loop-at-preserved c =
    let text = c.args.text.now in
    let at = c.loop-at.at in
    let j = judged text at c.loop-at-test.true _ _ _ c.rest_of-left.ensures c.token_at-lexed.ensures c.is_settled.ensures in
    let n = c.take_lexed.new.taken in
    rw c.after_white-at.ensures (settled_next text at n (prefix_len is_white (drop (at + n) text)) c.loop-at.table c.take_lexed.new.table (MatchBool-at_true _ _ c.if-not-is_settled.false j) c.loop-at.invariant c.in_ok-take_lexed.ensures refl)

pub returns-in_err-take_lexed : goal.returns-in_err-take_lexed
returns-in_err-take_lexed c =
    let j = judged c.args.text.now c.loop-at.at c.loop-at-test.true _ _ _ c.rest_of-left.ensures c.token_at-lexed.ensures c.is_settled.ensures in
    let fault = settled_fault c.args.text.now c.loop-at.at c.loop-at-test.true c.loop-at.table c.in_err-take_lexed.field-0.0 (MatchBool-at_true _ _ c.if-not-is_settled.false j) c.loop-at.invariant c.in_err-take_lexed.ensures in
    search (rules, fault)
