use Rattle.std.proofs.Common.{codes}
use Rattle.std.proofs.lemmas.Result.{on_ok_weaker}
use Rattle.std.specs.Option.{option_map}
use Rattle.crs_text.specs.inner.Prelude.{End, More, Siblings}
use Rattle.crs_writer.specs.inner.Openings.{opened}
use Rattle.crs_normal.specs.inner.Prelude.{each, item_ellipsoid, item_ident, item_member, norm_ellipsoid, number_node, opt, set_idents, set_members}
use Rattle.crs_writer.proofs.NodeTextLemmas.{closed}
use Rattle.crs_writer.proofs.FlatLemmas.{then-part, then-set, told}
use Rattle.crs_writer.proofs.PieceLemmas.{then-more}
use Rattle.crs_writer.proofs.WrittenLemmas.{members-written}
use Rattle.crs_writer.proofs.spelling.frame.write_ensemble.Goals as goal

pub returns : goal.returns
returns g c = on_ok_weaker c.append.result (λ closes e n m l a i.
    let level = c.args.level in
    let accuracy = number_node (codes "ENSEMBLEACCURACY") e.accuracy in
    let ids : Siblings = each item_ident (set_idents level e.identifiers) End in
    let ellipsoid : Siblings = opt item_ellipsoid (option_map (norm_ellipsoid level) e.ellipsoid) (More accuracy ids) in
    closed (codes "ENSEMBLE[\"") e.name (each item_member (set_members level e.members) ellipsoid) _ _ _ _
    (told (opened (codes "ENSEMBLE[\"")) e.name _ _ _ n c.in_ok-open_text.ensures)
    (then-set item_member (set_members level e.members) _ ellipsoid _ _ _ (members-written level e.members) (c.in_ok-write_set.ensures.writes e.members m)
    (then-part item_ellipsoid (norm_ellipsoid level) e.ellipsoid (More accuracy ids) _ _ _ (c.in_ok-write_optional.ensures.writes e.ellipsoid l)
    (then-more accuracy ids _ _ _ (c.in_ok-write_number_node.ensures.writes e.accuracy a) (c.in_ok-put.ensures.writes e.identifiers i))))
    closes) c.append.ensures
