-- CRSs of each kind by themselves, and the horizontal parts of compound CRSs.
use Rattle.std.proofs.Common.{◌≡◌, ◌↔◌}
use Rattle.crs_shape.specs.declared.class.Class.TheVariants as class
use Rattle.crs_shape.specs.declared.system_type.SystemType.{SystemType}
use Rattle.crs_shape.specs.declared.system_type.SystemType.TheVariants as types
use Rattle.crs_text.specs.inner.Prelude.{item_text}
use Rattle.crs_value.specs.inner.Prelude.{GeodeticParts, ReadsGeodetic, IsCrs, IsGeodetic, IsProjected}
use Rattle.crs_value.specs.declared.values.compound.Horizontal.{Horizontal}
use Rattle.crs_value.specs.declared.values.compound.Horizontal.TheVariants as horizontal
use Rattle.crs_value.specs.declared.values.crs.Crs.{Crs}
use Rattle.crs_value.specs.declared.values.crs.Crs.TheVariants as crs
use Rattle.crs_value.specs.declared.values.level.Level.{Level}
use Rattle.crs_same.specs.inner.Prelude.{AreSame, parts_of_geodetic, parts_of_projected, parts_of_horizontal, SameCrs}
use Rattle.crs_normal.specs.inner.WrittenForm.{IsWrittenForm}
use Rattle.crs_normal.specs.inner.Decides.{FormDecides}
use Rattle.crs_normal.specs.PartSpellings.{geodetic_class, IsHorizontalPart, IsSpelledGeodetic, IsSpelledHorizontal, IsSpelledProjected}
use Rattle.crs_normal.specs.inner.LowerLaws.{LowerLaws}
use Rattle.crs_normal.specs.inner.PartTexts.{geodetic_text, horizontal_text, projected_text}
use Rattle.crs_normal.specs.inner.SpelledCrs.{item_crs, item_geodetic, norm_crs, norm_geodetic}
use Rattle.crs_normal.proofs.normal.CheckedLemmas.{Checked}
use Rattle.crs_normal.proofs.normal.FormLemmas.{Form}
use Rattle.crs_normal.proofs.normal.SingleLemmas.{geodetic-form, geographic-form}
use Rattle.crs_normal.proofs.texts.WrittenFormLemmas.{IsOneText, written-form}

pub own-geodetic : LowerLaws → (level : Level) (t : SystemType) →
    Form level (geodetic_class t) (geodetic_class t) (Checked (geodetic_class t) (ReadsGeodetic (geodetic_class t)))
    (λ g. item_geodetic (norm_geodetic level g))
own-geodetic laws level types.Ellipsoidal = geographic-form laws level class.GeographicCrs
own-geodetic laws level other = geodetic-form laws level class.GeodeticCrs

-- texts of CRSs are equal exactly where the CRSs are the same
abbrev pub TextsDecide : Level → Type 0
TextsDecide level = (a b : Crs) → IsCrs a → IsCrs b →
    (item_text (item_crs (norm_crs level a)) ≡ item_text (item_crs (norm_crs level b))) ↔ SameCrs level a b

pub geodetic-told : (level : Level) → TextsDecide level →
    FormDecides IsGeodetic (norm_geodetic level) (AreSame parts_of_geodetic level) →
    (a b : GeodeticParts) → IsGeodetic a → IsGeodetic b → geodetic_text level a ≡ geodetic_text level b →
    norm_geodetic level a ≡ norm_geodetic level b
unfolding AreSame SameCrs
geodetic-told level decide forms a b p q e = (forms a b p q).1 ((decide (crs.Geodetic a) (crs.Geodetic b) p q).0 e)

module _ (level : Level) (decide : TextsDecide level) (geodetics : IsOneText IsGeodetic (AreSame parts_of_geodetic level) (IsSpelledGeodetic level) (geodetic_text level)) (projecteds : IsOneText IsProjected (AreSame parts_of_projected level) (IsSpelledProjected level) (projected_text level)) where
  horizontals-equal : (a b : Horizontal) → IsHorizontalPart a → IsHorizontalPart b →
      (horizontal_text level a ≡ horizontal_text level b) ↔ AreSame parts_of_horizontal level a b
  unfolding AreSame SameCrs parts_of_horizontal
  horizontals-equal (horizontal.Geodetic a) (horizontal.Geodetic b) p q = geodetics.equal_bytes a b p q
  horizontals-equal (horizontal.Geodetic a) (horizontal.Projected b) p q =
      (λ e. (decide (crs.Geodetic a) (crs.Projected b) p q).0 e, λ none. absurd none)
  horizontals-equal (horizontal.Projected a) (horizontal.Geodetic b) p q =
      (λ e. (decide (crs.Projected a) (crs.Geodetic b) p q).0 e, λ none. absurd none)
  horizontals-equal (horizontal.Projected a) (horizontal.Projected b) p q = projecteds.equal_bytes a b p q

  pub horizontals-canonical : IsWrittenForm IsHorizontalPart (AreSame parts_of_horizontal level) (IsSpelledHorizontal level) (horizontal_text level)
  horizontals-canonical = written-form (record {
    spelled = elim [ horizontal.Geodetic g ↦ λ s. geodetics.spelled g s | horizontal.Projected p ↦ λ s. projecteds.spelled p s ];
    one = elim [ horizontal.Geodetic g ↦ λ bytes s h. geodetics.one g bytes s h | horizontal.Projected p ↦ λ bytes s h. projecteds.one p bytes s h ];
    equal_bytes = horizontals-equal;
    closed = elim [ horizontal.Geodetic g ↦ λ s. geodetics.closed g s | horizontal.Projected p ↦ λ s. projecteds.closed p s ];
  })
