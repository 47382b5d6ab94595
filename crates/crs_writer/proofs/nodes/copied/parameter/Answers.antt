use Rattle.std.proofs.Common.{◌≡◌, ◌∙◌, rules, subst}
use Rattle.std.proofs.lemmas.Option.{IfSome_then}
use Rattle.crs_text.specs.declared.items.ItemKind.TheVariants as items
use Rattle.crs_shape.specs.declared.class.Class.TheVariants as class
use Rattle.crs_value.specs.inner.Prelude.{ahead, item_at, ReadsParameter}
use Rattle.crs_writer.specs.inner.Copied.{IsNext}
use Rattle.crs_writer.specs.inner.Node.{item}
use Rattle.crs_writer.proofs.CopiedLemmas.{IsPlainParameter, parameter-copied}
use Rattle.crs_writer.proofs.nodes.copied.parameter.Goals as goal

pub returns : goal.returns
returns c =
    let tree = c.args.node.now.items.now in
    let first : IsNext tree c.in_ok-at.at items.Text c.in_ok-_name._name c.in_ok-_name.at = search rules in
    let second : IsNext tree c.in_ok-_name.at items.Number c.in_ok-_value._value c.in_ok-_value.at = search rules in
    let third : IsNext tree c.in_ok-_value.at items.Node c.in_ok-unit.unit c.in_ok-unit.at = search rules in
    let form : IsPlainParameter c.args.level (item c.args.node.now) = record {
      name = item_at tree c.in_ok-_name._name;
      value = item_at tree c.in_ok-_value._value;
      unit = item_at tree c.in_ok-unit.unit;
      rest = ahead tree c.in_ok-unit.at;
      keyword = c.in_ok-at.ensures.is_keyword;
      are = cc (c.in_ok-at.ensures.are, first.are, second.are, third.are);
      is_name = first.is_kind;
      is_value = c.in_ok-_value.ensures.plain;
      is_unit = search rules;
      is_end = search rules;
    } in
    let named : c.args.node.now.class ≡ class.Parameter = search rules in
    IfSome_then c.written.result c.written.ensures (λ bytes is p reads.
    is ∙ parameter-copied c.args.level (item c.args.node.now) p form (subst (λ of. ReadsParameter of (item c.args.node.now) p) named reads))
