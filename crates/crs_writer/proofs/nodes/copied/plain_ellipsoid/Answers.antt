use Rattle.std.proofs.Common.{rules}
use Rattle.crs_text.specs.declared.items.ItemKind.TheVariants as items
use Rattle.crs_value.specs.inner.Prelude.{item_at}
use Rattle.crs_writer.specs.inner.Copied.{IsNext}
use Rattle.crs_writer.proofs.nodes.copied.plain_ellipsoid.Goals as goal

pub returns : goal.returns
returns c =
    let tree = c.args.items.now in
    let first : IsNext tree c.in_ok-at.at items.Text c.in_ok-_name._name c.in_ok-_name.at = search rules in
    let second : IsNext tree c.in_ok-_name.at items.Number c.in_ok-_axis._axis c.in_ok-_axis.at = search rules in
    let third : IsNext tree c.in_ok-_axis.at items.Number c.in_ok-_flattening._flattening c.in_ok-_flattening.at = search rules in
    let fourth : IsNext tree c.in_ok-_flattening.at items.Node c.in_ok-unit.unit c.in_ok-unit.at = search rules in
    record {
      name = item_at tree c.in_ok-_name._name;
      axis = item_at tree c.in_ok-_axis._axis;
      flattening = item_at tree c.in_ok-_flattening._flattening;
      unit = item_at tree c.in_ok-unit.unit;
      keyword = c.in_ok-at.ensures.is_keyword;
      are = cc (c.in_ok-at.ensures.are, first.are, second.are, third.are, fourth.are, c.in_ok-none_next.ensures tree);
      is_name = first.is_kind;
      is_axis = c.in_ok-_axis.ensures.plain;
      is_flattening = c.in_ok-_flattening.ensures.plain;
      is_unit = search rules;
      is_length = search rules;
    }
