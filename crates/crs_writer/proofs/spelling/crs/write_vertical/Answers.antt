use Rattle.std.proofs.Common.{codes}
use Rattle.std.proofs.lemmas.Result.{on_ok_weaker}
use Rattle.std.specs.Option.{option_map}
use Rattle.crs_text.specs.inner.Prelude.{More, Siblings}
use Rattle.crs_writer.specs.inner.Openings.{opened}
use Rattle.crs_normal.specs.inner.Prelude.{each, item_dynamic, item_frame, item_geoid_model, norm_dynamic, norm_frame, norm_system, norm_tail, opt, set_geoid_models, system_items, tail_items}
use Rattle.crs_writer.proofs.NodeTextLemmas.{closed, then-system}
use Rattle.crs_writer.proofs.FlatLemmas.{then-part, then-set, told}
use Rattle.crs_writer.proofs.PieceLemmas.{then-more}
use Rattle.crs_writer.proofs.WrittenLemmas.{geoid_models-written}
use Rattle.crs_writer.proofs.spelling.crs.write_vertical.Goals as goal

pub returns : goal.returns
returns g c = on_ok_weaker c.append.result (λ closes v n d f s m t.
    let level = c.args.level in
    let frame = item_frame (codes "VDATUM") (norm_frame level v.frame) in
    let tail : Siblings = tail_items (norm_tail level v.tail) in
    let models : Siblings = each item_geoid_model (set_geoid_models level v.geoid_models) tail in
    let system : Siblings = system_items (norm_system level v.system) models in
    closed (codes "VERTCRS[\"") v.name (opt item_dynamic (option_map (norm_dynamic level) v.dynamic) (More frame system)) _ _ _ _
    (told (opened (codes "VERTCRS[\"")) v.name _ _ _ n c.in_ok-open_text.ensures)
    (then-part item_dynamic (norm_dynamic level) v.dynamic (More frame system) _ _ _ (c.in_ok-write_optional.ensures.writes v.dynamic d)
    (then-more frame system _ _ _ (c.in_ok-put_vertical.ensures.writes v.frame f)
    (then-system level v.system models _ _ _ (c.in_ok-write_system.ensures.writes v.system s)
    (then-set item_geoid_model (set_geoid_models level v.geoid_models) _ tail _ _ _ (geoid_models-written level v.geoid_models)
    (c.in_ok-write_set.ensures.writes v.geoid_models m)
    (c.in_ok-put.ensures.writes v.tail t)))))
    closes) c.append.ensures
