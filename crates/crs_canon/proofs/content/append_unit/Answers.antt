use Rattle.std.proofs.Common.{◌≡◌, ap, rules, sym}
use Rattle.crs_text.specs.inner.Prelude.{item_text}
use Rattle.crs_same.specs.declared.content.Content.TheVariants as content
use Rattle.crs_normal.specs.inner.Prelude.{unit_text, item_unit, norm_unit}
use Rattle.crs_canon.specs.ContentText.{IsContentText}
use Rattle.crs_canon.proofs.ContentLemmas.{as_asked, asked-alone, asked-is, spelled-asked}
use Rattle.crs_canon.proofs.SpellingLemmas.{extended, whole}
use Rattle.crs_canon.proofs.content.append_unit.Goals as goal

pub returns : goal.returns
returns c =
    let level = c.args.level in
    let unit = c.args.unit.now in
    let alone = as_asked c.args.asked unit in
    let text = item_text (item_unit (norm_unit level c.args.asked unit)) in
    let one : text ≡ unit_text level alone = ap (λ u. item_text (item_unit u)) (sym (asked-alone level c.args.asked unit)) in
    extended (IsContentText level (content.Unit c.args.asked unit)) _ _ _ text c.extend_from_slice.result c.extend_from_slice.ensures.items
    (whole _ text _ _ c.as_slice.ensures.value c.in_ok-write_bare_unit.ensures c.new-text.ensures.items)
    (spelled-asked level c.args.asked unit text
    ((c.units_are_canonical.ensures level).written alone text (asked-is c.args.asked unit (search rules)) one))
