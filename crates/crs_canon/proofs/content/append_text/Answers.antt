use Rattle.std.proofs.Common.{◌∷◌, [], refl}
use Rattle.crs_value.specs.declared.values.level.Level.TheVariants as levels
use Rattle.crs_same.specs.declared.content.Content.TheVariants as content
use Rattle.crs_canon.specs.ContentText.{IsContentText}
use Rattle.crs_writer.specs.inner.Openings.{opened}
use Rattle.crs_canon.proofs.SpellingLemmas.{extended, whole}
use Rattle.crs_canon.proofs.content.append_text.Goals as goal

pub returns : goal.returns
returns c =
    let text = opened (34 ∷ []) c.args.text.now in
    extended (IsContentText levels.Full (content.Text c.args.text.now)) _ _ _ text c.extend_from_slice.result c.extend_from_slice.ensures.items
    (whole _ text _ _ c.as_slice.ensures.value c.in_ok-open_text.ensures c.new-quoted.ensures.items) refl
