use Rattle.std.proofs.Common.{◌≡◌, ◌∙◌, length, arith}
use Rattle.crs_c.specs.inner.Wanting.{IsWanted}
use Rattle.crs_c.proofs.EachLemmas.{ends_before, ends_behind, nothing_yet, one_more, same_room, turn_done, turn_ends}
use Rattle.crs_c.proofs.calls.canon.answer_entries.Goals as goal

pub loop-index-init : goal.loop-index-init
loop-index-init c = nothing_yet (IsWanted c.args.wanted) c.args.texts.now c.args.entries.now c.args.out.now

pub answer-code-requires : goal.answer-code-requires
answer-code-requires c =
    let s = c.loop-index.invariant in
    omega (arith, s.place, s.fits, same_room s)

pub returns-then-code-ne-OK : goal.returns-then-code-ne-OK
returns-then-code-ne-OK c =
    let end = turn_ends (IsWanted c.args.wanted) c.args.texts.now c.loop-index.at _ c.loop-index.out _ _ _ c.answer-code.ensures c.if-code-ne-OK.true in
    ends_before c.loop-index.invariant _ c.answer-code.new.out _ c.loop-index-test.true end.0 end.1

pub loop-index-preserved : goal.loop-index-preserved
loop-index-preserved c =
    let turn = turn_done (IsWanted c.args.wanted) c.args.texts.now c.loop-index.at _ c.loop-index.out _ _ _ c.answer-code.ensures c.if-code-ne-OK.false in
    one_more c.loop-index.invariant _ c.answer-code.result.0 turn.0 c.answer-code.new.out c.loop-index-test.true turn.1 turn.2 turn.3

pub returns : goal.returns
returns c =
    let end : length c.args.entries.now ≡ c.loop-index.index = omega (arith, c.loop-index-test.false, c.loop-index.auto.index-end) in
    ends_behind c.loop-index.invariant _ end (c.loop-index.auto.entries ∙ end)
