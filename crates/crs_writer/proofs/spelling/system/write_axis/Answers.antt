use Rattle.std.proofs.Common.{◌∷◌, ◌++◌, ◌∙◌, ℕ, List, ap, codes}
use Rattle.std.proofs.lemmas.Result.{on_ok_weaker}
use Rattle.crs_text.specs.inner.Prelude.{End, More, Siblings, item_text}
use Rattle.crs_shape.specs.inner.Prelude.{direction_word}
use Rattle.crs_normal.specs.inner.Prelude.{each, number_node, opt, word_item, item_axis_meridian, norm_axis_meridians, item_ident, item_unit, norm_unit, norm_units, set_idents}
use Rattle.crs_writer.specs.inner.Openings.{opened}
use Rattle.crs_writer.specs.inner.Parts.{opt_text}
use Rattle.crs_writer.proofs.PieceLemmas.{then-more}
use Rattle.crs_writer.proofs.NodeTextLemmas.{closed}
use Rattle.crs_writer.proofs.FlatLemmas.{then-along, then-number, then-unit, told}
use Rattle.crs_writer.proofs.spelling.system.write_axis.Goals as goal

pub returns : goal.returns
returns g c = on_ok_weaker c.append.result (λ closes name direction meridian order kind unit ids n d m o k u i.
    let level = c.args.level in
    let word = word_item (direction_word direction) in
    let last : Siblings = each item_ident (set_idents level ids) End in
    let measured : Siblings = opt item_unit (norm_units level kind unit) last in
    let ordered : Siblings = opt (number_node (codes "ORDER")) order measured in
    let along : Siblings = opt item_axis_meridian (norm_axis_meridians level meridian) ordered in
    closed (codes "AXIS[\"") name (More word along) _ _ _ _
    (told (opened (codes "AXIS[\"")) name _ _ _ n c.in_ok-open_text.ensures)
    (then-more word along _ _ _ (told (λ w. 44 ∷ item_text (word_item (direction_word w))) direction _ _ _ d
    (c.in_ok-append_item.ensures ∙ ap (λ (x : List ℕ). c.open_text.new.out.items ++ 44 ∷ x) (c.as_bytes.ensures.value ∙ c.word.ensures)))
    (then-along level meridian ordered _ _ _ (c.in_ok-write_optional.ensures.writes meridian m)
    (then-number (codes "ORDER") order measured _ _ _ (c.in_ok-write_optional_number.ensures.writes order o)
    (then-unit level kind unit last _ _ _
    (told (λ q. opt_text (λ x. item_text (item_unit (norm_unit level q x))) unit) kind _ _ _ k (c.in_ok-write_optional_unit.ensures.writes unit u))
    (c.in_ok-put.ensures.writes ids i)))))
    closes) c.append.ensures
