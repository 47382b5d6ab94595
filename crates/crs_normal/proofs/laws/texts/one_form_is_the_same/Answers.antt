use Rattle.std.proofs.Common.{◌≡◌, subst, sym}
use Rattle.crs_text.specs.inner.Prelude.{item_text}
use Rattle.crs_value.specs.declared.values.crs.Crs.{Crs}
use Rattle.crs_value.specs.inner.Prelude.{Spells}
use Rattle.crs_normal.specs.inner.SpelledCrs.{item_crs, norm_crs}
use Rattle.crs_normal.proofs.laws.texts.one_form_is_the_same.Goals as goal

pub returns : goal.returns
returns c level crs sound =
    let n : Crs = norm_crs level crs in
    let once = c.written_form_is_accepted.ensures level crs sound in
    let sound_n = c.spelled_crs_is_sound.ensures (item_text (item_crs n)) n once in
    let twice = c.written_form_is_accepted.ensures level n sound_n in
    let text : item_text (item_crs n) ≡ item_text (item_crs (norm_crs level n)) =
    c.normal_text_is_its_form.ensures level (item_text (item_crs n)) n (c.written_form_is_normal.ensures level crs sound) once in
    let same : n ≡ norm_crs level n =
    c.one_answer.ensures.value (item_text (item_crs n)) n (norm_crs level n) once
    (subst (λ t. Spells t (norm_crs level n)) (sym text) twice) in
    (c.same_crss_have_one_form.ensures level crs n sound sound_n).0 same
