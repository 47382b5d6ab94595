use Rattle.std.proofs.Common.{rules}
use Rattle.crs_text.specs.declared.items.ItemKind.TheVariants as items
use Rattle.crs_value.specs.inner.Prelude.{ahead, item_at}
use Rattle.crs_writer.specs.inner.Copied.{IsNext}
use Rattle.crs_writer.specs.inner.Node.{item}
use Rattle.crs_writer.proofs.CopiedLemmas.{IsPlainAxis, axis-copied}
use Rattle.crs_writer.proofs.nodes.copied.axis.Goals as goal

pub returns : goal.returns
returns c =
    let tree = c.args.node.now.items.now in
    let first : IsNext tree c.in_ok-at.at items.Text c.in_ok-_name._name c.in_ok-_name.at = search rules in
    let second : IsNext tree c.in_ok-_name.at items.Word c.in_ok-direction.direction c.in_ok-direction.at = search rules in
    let third : IsNext tree c.in_ok-direction.at items.Node c.in_ok-order.order c.in_ok-order.at = search rules in
    let fourth : IsNext tree c.in_ok-order.at items.Node c.in_ok-unit.unit c.in_ok-unit.at = search rules in
    let form : IsPlainAxis c.args.level c.args.position (item c.args.node.now) = record {
      name = item_at tree c.in_ok-_name._name;
      direction = item_at tree c.in_ok-direction.direction;
      order = item_at tree c.in_ok-order.order;
      unit = item_at tree c.in_ok-unit.unit;
      rest = ahead tree c.in_ok-unit.at;
      keyword = c.in_ok-at.ensures.is_keyword;
      are = cc (c.in_ok-at.ensures.are, first.are, second.are, third.are, fourth.are);
      is_name = first.is_kind;
      is_word = second.is_kind;
      is_direction = search rules;
      is_order = search rules;
      is_unit = search rules;
      is_not_scale = search rules;
      is_end = search rules;
    } in
    search (rules, axis-copied)
