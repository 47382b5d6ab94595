use Rattle.std.proofs.Common.{codes}
use Rattle.std.proofs.lemmas.Result.{on_ok_weaker}
use Rattle.crs_text.specs.inner.Prelude.{End, More, Siblings}
use Rattle.crs_normal.specs.inner.Prelude.{each, item_ident, item_method, item_parameter, norm_method, set_idents, set_parameters}
use Rattle.crs_writer.specs.inner.Openings.{opened}
use Rattle.crs_writer.proofs.NodeTextLemmas.{closed}
use Rattle.crs_writer.proofs.FlatLemmas.{then-set, told}
use Rattle.crs_writer.proofs.PieceLemmas.{then-more}
use Rattle.crs_writer.proofs.WrittenLemmas.{parameters-written}
use Rattle.crs_writer.proofs.spelling.conversion.write_conversion.Goals as goal

pub returns : goal.returns
returns g c = on_ok_weaker c.append.result (λ closes x n m p i.
    let method = item_method (norm_method c.args.level x.method) in
    let ids : Siblings = each item_ident (set_idents c.args.level x.identifiers) End in
    let parameters : Siblings = each item_parameter (set_parameters c.args.level x.parameters) ids in
    closed (codes "CONVERSION[\"") x.name (More method parameters) _ _ _ _
    (told (opened (codes "CONVERSION[\"")) x.name _ _ _ n c.in_ok-open_text.ensures)
    (then-more method parameters _ _ _ (c.in_ok-put.ensures.writes x.method m)
    (then-set item_parameter (set_parameters c.args.level x.parameters) _ ids _ _ _ (parameters-written c.args.level x.parameters)
    (c.in_ok-write_set.ensures.writes x.parameters p)
    (c.in_ok-put-2.ensures.writes x.identifiers i)))
    closes) c.append.ensures
