use Rattle.std.proofs.Common.{rules}
use Rattle.crs_text.specs.declared.items.ItemKind.TheVariants as items
use Rattle.crs_value.specs.inner.Prelude.{item_at}
use Rattle.crs_writer.specs.inner.Copied.{IsNext}
use Rattle.crs_writer.proofs.nodes.copied.plain_box.Goals as goal

pub returns : goal.returns
returns c =
    let tree = c.args.items.now in
    let first : IsNext tree c.in_ok-at.at items.Number c.in_ok-_south._south c.in_ok-_south.at = search rules in
    let second : IsNext tree c.in_ok-_south.at items.Number c.in_ok-_west._west c.in_ok-_west.at = search rules in
    let third : IsNext tree c.in_ok-_west.at items.Number c.in_ok-_north._north c.in_ok-_north.at = search rules in
    let fourth : IsNext tree c.in_ok-_north.at items.Number c.in_ok-_east._east c.in_ok-_east.at = search rules in
    record {
      south = item_at tree c.in_ok-_south._south;
      west = item_at tree c.in_ok-_west._west;
      north = item_at tree c.in_ok-_north._north;
      east = item_at tree c.in_ok-_east._east;
      keyword = c.in_ok-at.ensures.is_keyword;
      are = cc (c.in_ok-at.ensures.are, first.are, second.are, third.are, fourth.are, c.in_ok-none_next.ensures tree);
      is_south = c.in_ok-_south.ensures.plain;
      is_west = c.in_ok-_west.ensures.plain;
      is_north = c.in_ok-_north.ensures.plain;
      is_east = c.in_ok-_east.ensures.plain;
    }
