use Rattle.std.proofs.Common.{[], ◌∷◌, ◌++◌, ◌∙◌, ℕ, List, ap, sym}
use Rattle.std.proofs.lemmas.List.{append-nil}
use Rattle.std.proofs.lemmas.Result.{on_ok_weaker}
use Rattle.crs_writer.specs.inner.Members.{spellings}
use Rattle.crs_writer.specs.SetText.{commas}
use Rattle.crs_writer.specs.inner.Spans.{texts_at}
use Rattle.crs_writer.proofs.GatherLemmas.{alone-written, many-written}
use Rattle.crs_writer.proofs.PieceLemmas.{two}
use Rattle.crs_writer.proofs.set.write_set_with.Goals as goal

pub returns-in_ok-append : goal.returns-in_ok-append
returns-in_ok-append g c = on_ok_weaker c.write.result (λ alone value values r rs.
    let out = c.args.out.now.items in
    let text = g.T.Spell.spelling c.args.level value in
    alone-written (g.T.Spell.spelling c.args.level) value values out _ (c.are_none.ensures c.if-are_none.true values rs)
    (two out (44 ∷ []) text _ _ c.in_ok-append.ensures (alone.writes value r) ∙ ap (λ (x : List ℕ). out ++ 44 ∷ x) (sym (append-nil text))))
    c.write.ensures

pub returns-in_ok-gather_texts : goal.returns-in_ok-gather_texts
returns-in_ok-gather_texts g c =
    let bytes-same = c.deref.ensures.value in
    let spans-same = c.deref-then-are_few.ensures.value in
    on_ok_weaker c.write_spans.result (λ written value values r rs.
    many-written (g.T.Spell.spelling c.args.level) value values _ _ _ _ _
    (ap (texts_at c.in_ok-bytes.bytes.items) c.in_ok-spans.ensures.items) (c.in_ok-put_among.ensures.texts value r)
    (c.in_ok-gather_texts.ensures.texts values rs)
    (written ∙ (λ i. c.args.out.now.items ++ commas (texts_at (bytes-same i) (spans-same i)))))
    c.write_spans.ensures

pub returns-in_ok-gather_all : goal.returns-in_ok-gather_all
returns-in_ok-gather_all g c = on_ok_weaker c.write_sorted.result (λ sorted value values r rs.
    many-written (g.T.Spell.spelling c.args.level) value values _ _ _ _ _ (ap spellings c.new-sorted.ensures.empty)
    (c.in_ok-gather.ensures value r) (c.in_ok-gather_all.ensures values rs) sorted)
    c.write_sorted.ensures
