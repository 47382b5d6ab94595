use Rattle.std.proofs.Common.{◌≡◌, rules, subst, sym}
use Rattle.crs_writer.specs.inner.Prelude.{CanonicalText, IsCanonicalText, crs_text}
use Rattle.crs_canon.proofs.answer.canon_of.Goals as goal

pub returns-clause-text : goal.returns-clause-text
returns-clause-text c =
    let level = c.args.level in
    let crs = c.args.crs.now in
    let text : c.canon_from.result.bytes ≡ crs_text level crs = search rules in
    subst (λ (canon : CanonicalText). IsCanonicalText level crs canon.bytes) (sym c.without_spare_room.ensures)
    ((c.crss_are_canonical.ensures level).written crs c.canon_from.result.bytes c.crs_is_sound.ensures text)
