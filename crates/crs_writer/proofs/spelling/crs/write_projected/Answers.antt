use Rattle.std.proofs.Common.{codes}
use Rattle.std.proofs.lemmas.Result.{on_ok_weaker}
use Rattle.crs_text.specs.inner.Prelude.{More, Siblings}
use Rattle.crs_normal.specs.inner.Prelude.{item_base, item_conversion, norm_base, norm_conversion, norm_system, norm_tail, system_items, tail_items}
use Rattle.crs_writer.specs.inner.Openings.{opened}
use Rattle.crs_writer.proofs.NodeTextLemmas.{closed, then-system}
use Rattle.crs_writer.proofs.FlatLemmas.{told}
use Rattle.crs_writer.proofs.PieceLemmas.{then-more}
use Rattle.crs_writer.proofs.spelling.crs.write_projected.Goals as goal

pub returns : goal.returns
returns g c = on_ok_weaker c.append.result (λ closes p n b v s t.
    let base = item_base (norm_base c.args.level p.base) in
    let conversion = item_conversion (norm_conversion c.args.level p.conversion) in
    let tail : Siblings = tail_items (norm_tail c.args.level p.tail) in
    let system : Siblings = system_items (norm_system c.args.level p.system) tail in
    closed (codes "PROJCRS[\"") p.name (More base (More conversion system)) _ _ _ _
    (told (opened (codes "PROJCRS[\"")) p.name _ _ _ n c.in_ok-open_text.ensures)
    (then-more base (More conversion system) _ _ _ (c.in_ok-put.ensures.writes p.base b)
    (then-more conversion system _ _ _ (c.in_ok-put-2.ensures.writes p.conversion v)
    (then-system c.args.level p.system tail _ _ _ (c.in_ok-write_system.ensures.writes p.system s) (c.in_ok-put-3.ensures.writes p.tail t))))
    closes) c.append.ensures
