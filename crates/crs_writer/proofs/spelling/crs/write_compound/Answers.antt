use Rattle.std.proofs.Common.{codes}
use Rattle.std.proofs.lemmas.Result.{on_ok_weaker}
use Rattle.crs_text.specs.inner.Prelude.{More, Siblings}
use Rattle.crs_normal.specs.inner.Prelude.{item_horizontal, item_vertical, norm_horizontal, norm_vertical, norm_tail, tail_items}
use Rattle.crs_writer.specs.inner.Openings.{opened}
use Rattle.crs_writer.proofs.NodeTextLemmas.{closed}
use Rattle.crs_writer.proofs.FlatLemmas.{told}
use Rattle.crs_writer.proofs.PieceLemmas.{then-more}
use Rattle.crs_writer.proofs.spelling.crs.write_compound.Goals as goal

pub returns : goal.returns
returns g c = on_ok_weaker c.append.result (λ closes p n h v t.
    let horizontal = item_horizontal (norm_horizontal c.args.level p.horizontal) in
    let vertical = item_vertical (norm_vertical c.args.level p.vertical) in
    let rest : Siblings = tail_items (norm_tail c.args.level p.tail) in
    closed (codes "COMPOUNDCRS[\"") p.name (More horizontal (More vertical rest)) _ _ _ _
    (told (opened (codes "COMPOUNDCRS[\"")) p.name _ _ _ n c.in_ok-open_text.ensures)
    (then-more horizontal (More vertical rest) _ _ _ (c.in_ok-put.ensures.writes p.horizontal h)
    (then-more vertical rest _ _ _ (c.in_ok-put-2.ensures.writes p.vertical v) (c.in_ok-put-3.ensures.writes p.tail t)))
    closes) c.append.ensures
