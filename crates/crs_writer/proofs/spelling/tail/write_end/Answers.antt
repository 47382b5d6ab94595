use Rattle.std.proofs.Common.{codes}
use Rattle.std.proofs.lemmas.Result.{on_ok_weaker}
use Rattle.crs_text.specs.inner.Prelude.{End}
use Rattle.crs_normal.specs.inner.Prelude.{item_ident, opt, set_idents, text_node}
use Rattle.crs_writer.specs.inner.Openings.{text_behind}
use Rattle.crs_writer.proofs.PieceLemmas.{then-each}
use Rattle.crs_writer.proofs.NodeTextLemmas.{last-text}
use Rattle.crs_writer.proofs.FlatLemmas.{told}
use Rattle.crs_writer.proofs.spelling.tail.write_end.Goals as goal

pub returns : goal.returns
returns g c = on_ok_weaker c.write_optional_text.result (λ ends ids remark i r.
    then-each item_ident (set_idents c.args.level ids) (opt (text_node (codes "REMARK")) remark End) _ _ _ (c.in_ok-put.ensures.writes ids i)
    (last-text (codes "REMARK") remark _ _ (told (text_behind (codes ",REMARK[\"")) remark _ _ _ r ends)))
    c.write_optional_text.ensures
