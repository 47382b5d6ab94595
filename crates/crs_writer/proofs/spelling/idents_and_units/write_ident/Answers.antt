use Rattle.std.proofs.Common.{codes}
use Rattle.std.proofs.lemmas.Result.{on_ok_weaker}
use Rattle.crs_text.specs.inner.Prelude.{End, More, Siblings, others_text}
use Rattle.crs_normal.specs.inner.Prelude.{code_item, opt, text_node}
use Rattle.crs_writer.specs.inner.Openings.{opened, text_behind}
use Rattle.crs_writer.proofs.PieceLemmas.{then-opt}
use Rattle.crs_writer.proofs.NodeTextLemmas.{closed, last-text, then-one, then-text}
use Rattle.crs_writer.proofs.FlatLemmas.{told}
use Rattle.crs_writer.proofs.spelling.idents_and_units.write_ident.Goals as goal

pub returns : goal.returns
returns c = on_ok_weaker c.append.result (λ closes ident a k v i u.
    let last : Siblings = opt (text_node (codes "URI")) ident.uri End in
    let cited : Siblings = opt (text_node (codes "CITATION")) ident.citation last in
    let others : Siblings = opt code_item ident.version cited in
    closed (codes "ID[\"") ident.authority (More (code_item ident.code) others) _ _ _ _
    (told (opened (codes "ID[\"")) ident.authority _ _ _ a c.in_ok-open_text.ensures)
    (then-one (code_item ident.code) others _ _ _ (told (λ x. others_text (More (code_item x) End)) ident.code _ _ _ k c.in_ok-write_code.ensures)
    (then-opt code_item ident.version cited _ _ _ (told (λ x. others_text (opt code_item x End)) ident.version _ _ _ v c.in_ok-write_version.ensures)
    (then-text (codes "CITATION") ident.citation last _ _ _ (told (text_behind (codes ",CITATION[\"")) ident.citation _ _ _ i c.in_ok-write_optional_text.ensures)
    (last-text (codes "URI") ident.uri _ _ (told (text_behind (codes ",URI[\"")) ident.uri _ _ _ u c.in_ok-write_optional_text-2.ensures)))))
    closes) c.append.ensures
