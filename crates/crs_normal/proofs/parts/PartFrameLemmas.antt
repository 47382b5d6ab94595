-- Reference frames and ensembles by themselves: geodetic where they have an ellipsoid, else vertical.
use Rattle.std.proofs.Common.{◌≡◌, ◌↔◌, ◌∙◌, ℕ, true≢false, codes, Option, Some, None, List, [], ◌∷◌, ◌++◌, refl, sym, ap, arith, IsNone, IsSome}
use Rattle.std.specs.Option.{option_map}
use Rattle.crs_text.specs.inner.Prelude.{at_place}
use Rattle.crs_shape.specs.declared.class.Class.TheVariants as class
use Rattle.crs_value.specs.inner.Prelude.{ReadsDatum, ReadsEnsemble, IsDatum, IsEnsemble, IsGeodeticFrame, IsVerticalFrame, IsReadAs, DatumParts, EllipsoidParts, EnsembleParts}
use Rattle.crs_value.specs.declared.values.frame.Frame.{Frame}
use Rattle.crs_value.specs.declared.values.frame.Frame.TheVariants as frame
use Rattle.crs_value.specs.declared.values.level.Level.{Level}
use Rattle.crs_same.specs.inner.Prelude.{AreSame, parts_of_datum, parts_of_ensemble, parts_of_frame}
use Rattle.crs_normal.specs.inner.Prelude.{IsWrittenForm, item_datum, item_ensemble, norm_datum, norm_ellipsoid, norm_ensemble}
use Rattle.crs_normal.specs.PartSpellings.{IsFrame, IsSpelledDatum, IsSpelledEnsemble, IsSpelledFrame, datum_class, ensemble_class}
use Rattle.crs_normal.specs.inner.PartTexts.{datum_keyword, datum_text, ensemble_text, frame_text, item_own_datum}
use Rattle.crs_normal.specs.inner.LowerLaws.{LowerLaws}
use Rattle.crs_normal.proofs.made.FrameLemmas.{geodetic-frame-made, vertical-frame-made}
use Rattle.crs_normal.proofs.normal.SingleLemmas.{geodetic_ensemble-form, vertical_ensemble-form}
use Rattle.crs_normal.proofs.normal.FrameLemmas.{geodetic_datum-form, vertical_datum-form}
use Rattle.crs_normal.proofs.normal.LeafLemmas.{PlainIsOne}
use Rattle.crs_normal.proofs.parts.PartLemmas.{IsItsFormSound, good-of}
use Rattle.crs_normal.proofs.read.DatumLemmas.{ellipsoid-in, geodetic-back, vertical-back}
use Rattle.crs_normal.proofs.read.FrameLemmas.{datum-read, ensemble-read}
use Rattle.crs_normal.proofs.texts.WrittenFormLemmas.{IsOneText, written-form}
use Rattle.crs_normal.proofs.read.ViewLemmas.{keyword-names}
use Rattle.crs_normal.proofs.made.NodeLemmas.{IsAcceptedNormal}

-- ---- with an ellipsoid or without

-- what holds of what has an ellipsoid, and of what has none
by-ellipsoid : (P : Option EllipsoidParts → Type 0) (o : Option EllipsoidParts) → (IsNone o → P None) →
    ((x : EllipsoidParts) → IsSome o → P (Some x)) → P o
by-ellipsoid P None none some = none refl
by-ellipsoid P (Some x) none some = some x refl

-- ---- reference frames

pub datum-made : LowerLaws → (level : Level) (d : DatumParts) → IsDatum d → (p : ℕ) →
    IsAcceptedNormal level (datum_class d.ellipsoid) 5 (at_place p (item_own_datum (norm_datum level d)))
datum-made laws level d s p =
    by-ellipsoid
    (λ o. IsAcceptedNormal level (datum_class o) 5
    (at_place p (item_datum (datum_keyword (option_map (norm_ellipsoid level) o)) (norm_datum level d)))) d.ellipsoid
    (λ none. vertical-frame-made laws level (frame.Datum d) (s, none) p) (λ x some. geodetic-frame-made laws level (frame.Datum d) (s, some) p)

pub datum-back : LowerLaws → (level : Level) (d : DatumParts) → IsDatum d → (p : ℕ) →
    ReadsDatum (datum_class d.ellipsoid) (at_place p (item_own_datum (norm_datum level d))) (norm_datum level d)
datum-back laws level d s p =
    by-ellipsoid
    (λ o. ReadsDatum (datum_class o)
    (at_place p (item_datum (datum_keyword (option_map (norm_ellipsoid level) o)) (norm_datum level d)))
    (norm_datum level d)) d.ellipsoid
    (λ none. vertical-back laws level (frame.Datum d) (s, none) p)
    (λ x some. geodetic-back laws level (frame.Datum d) (s, some) p)

-- each is read where ellipsoids may be
pub datum-in-one : LowerLaws → (level : Level) (d : DatumParts) → IsDatum d → (p : ℕ) →
    ReadsDatum class.GeodeticFrame (at_place p (item_own_datum (norm_datum level d))) (norm_datum level d)
datum-in-one laws level d s p =
    datum-read laws class.GeodeticFrame (datum_keyword (option_map (norm_ellipsoid level) d.ellipsoid))
    (search keyword-names) level d s
    (ellipsoid-in class.GeodeticFrame (keyword-names _ _) (option_map (norm_ellipsoid level) d.ellipsoid)) p

abbrev pub GeodeticDatumSound : Type 0
GeodeticDatumSound = IsReadAs ReadsDatum (λ d. IsGeodeticFrame (frame.Datum d)) class.GeodeticFrame

abbrev pub VerticalDatumSound : Type 0
VerticalDatumSound = IsReadAs ReadsDatum (λ d. IsVerticalFrame (frame.Datum d)) class.VerticalFrame

pub datum-sound : GeodeticDatumSound → VerticalDatumSound → (d : DatumParts) →
    IsReadAs ReadsDatum IsDatum (datum_class d.ellipsoid)
datum-sound geodetic vertical d =
    by-ellipsoid (λ o. IsReadAs ReadsDatum IsDatum (datum_class o)) d.ellipsoid
    (λ none i v all reads. (vertical i v all reads).0) (λ x some i v all reads. (geodetic i v all reads).0)

keyword-none : (level : Level) (o : Option EllipsoidParts) → IsNone o →
    codes "VDATUM" ≡ datum_keyword (option_map (norm_ellipsoid level) o)
keyword-none level None n = refl
keyword-none level (Some x) n = absurd (true≢false n)

keyword-some : (level : Level) (o : Option EllipsoidParts) → IsSome o →
    codes "DATUM" ≡ datum_keyword (option_map (norm_ellipsoid level) o)
keyword-some level None n = absurd (true≢false (sym n))
keyword-some level (Some x) n = refl

pub datum-own : PlainIsOne → GeodeticDatumSound → VerticalDatumSound → (level : Level) (d : DatumParts) →
    IsItsFormSound level (datum_class d.ellipsoid) ReadsDatum (λ v. item_own_datum (norm_datum level v))
datum-own law geodetic vertical level d =
    by-ellipsoid
    (λ o. IsItsFormSound level (datum_class o) ReadsDatum (λ v. item_own_datum (norm_datum level v))) d.ellipsoid
    (λ none i v all normal reads.
    vertical_datum-form law level class.VerticalFrame i v (good-of all normal) (all.unbroken, reads)
    ∙ ap (λ k. item_datum k (norm_datum level v)) (keyword-none level v.ellipsoid (vertical i v all reads).1))
    (λ x some i v all normal reads.
    geodetic_datum-form law level class.GeodeticFrame i v (good-of all normal) (all.unbroken, reads)
    ∙ ap (λ k. item_datum k (norm_datum level v)) (keyword-some level v.ellipsoid (geodetic i v all reads).1))

-- ---- ensembles

pub ensemble-made : LowerLaws → (level : Level) (e : EnsembleParts) → IsEnsemble e → (p : ℕ) →
    IsAcceptedNormal level (ensemble_class e.ellipsoid) 5 (at_place p (item_ensemble (norm_ensemble level e)))
ensemble-made laws level e s p =
    by-ellipsoid (λ o. IsAcceptedNormal level (ensemble_class o) 5 (at_place p (item_ensemble (norm_ensemble level e)))) e.ellipsoid
    (λ none. vertical-frame-made laws level (frame.Ensemble e) (s, none) p) (λ x some. geodetic-frame-made laws level (frame.Ensemble e) (s, some) p)

pub ensemble-back : LowerLaws → (level : Level) (e : EnsembleParts) → IsEnsemble e → (p : ℕ) →
    ReadsEnsemble (ensemble_class e.ellipsoid) (at_place p (item_ensemble (norm_ensemble level e)))
    (norm_ensemble level e)
ensemble-back laws level e s p =
    by-ellipsoid
    (λ o. ReadsEnsemble (ensemble_class o) (at_place p (item_ensemble (norm_ensemble level e))) (norm_ensemble level e))
    e.ellipsoid
    (λ none. vertical-back laws level (frame.Ensemble e) (s, none) p)
    (λ x some. geodetic-back laws level (frame.Ensemble e) (s, some) p)

pub ensemble-in-one : LowerLaws → (level : Level) (e : EnsembleParts) → IsEnsemble e → (p : ℕ) →
    ReadsEnsemble class.GeodeticEnsemble (at_place p (item_ensemble (norm_ensemble level e))) (norm_ensemble level e)
ensemble-in-one laws level e s p =
    ensemble-read laws class.GeodeticEnsemble (search keyword-names) level e s
    (ellipsoid-in class.GeodeticEnsemble (keyword-names _ _) (option_map (norm_ellipsoid level) e.ellipsoid)) p

pub ensemble-sound : IsReadAs ReadsEnsemble (λ e. IsGeodeticFrame (frame.Ensemble e)) class.GeodeticEnsemble →
    IsReadAs ReadsEnsemble (λ e. IsVerticalFrame (frame.Ensemble e)) class.VerticalEnsemble → (e : EnsembleParts) →
    IsReadAs ReadsEnsemble IsEnsemble (ensemble_class e.ellipsoid)
ensemble-sound geodetic vertical e =
    by-ellipsoid (λ o. IsReadAs ReadsEnsemble IsEnsemble (ensemble_class o)) e.ellipsoid
    (λ none i v all reads. (vertical i v all reads).0) (λ x some i v all reads. (geodetic i v all reads).0)

pub ensemble-own : PlainIsOne → (level : Level) (e : EnsembleParts) →
    IsItsFormSound level (ensemble_class e.ellipsoid) ReadsEnsemble (λ v. item_ensemble (norm_ensemble level v))
ensemble-own law level e =
    by-ellipsoid
    (λ o. IsItsFormSound level (ensemble_class o) ReadsEnsemble (λ v. item_ensemble (norm_ensemble level v))) e.ellipsoid
    (λ none i v all normal. vertical_ensemble-form law level class.VerticalEnsemble i v (good-of all normal))
    (λ x some i v all normal. geodetic_ensemble-form law level class.GeodeticEnsemble i v (good-of all normal))

-- ---- frames of either kind

abbrev first-byte : List ℕ → ℕ
first-byte [] = 0
first-byte (b ∷ bytes) = b

keywords-apart : (o : Option EllipsoidParts) (x y : List ℕ) → datum_keyword o ++ x ≡ codes "ENSEMBLE" ++ y → ⊥
keywords-apart None x y e = let k : ◌≡◌ {A = ℕ} 86 69 = ap first-byte e in absurd (omega arith)
keywords-apart (Some z) x y e = let k : ◌≡◌ {A = ℕ} 68 69 = ap first-byte e in absurd (omega arith)

texts-apart : (level : Level) (d : DatumParts) (e : EnsembleParts) → datum_text level d ≡ ensemble_text level e → ⊥
texts-apart level d e same = keywords-apart (option_map (norm_ellipsoid level) d.ellipsoid) _ _ same

module _ (level : Level) (datums : IsOneText IsDatum (AreSame parts_of_datum level) (IsSpelledDatum level) (datum_text level)) (ensembles : IsOneText IsEnsemble (AreSame parts_of_ensemble level) (IsSpelledEnsemble level) (ensemble_text level)) where
  frames-equal : (a b : Frame) → IsFrame a → IsFrame b → (frame_text level a ≡ frame_text level b) ↔ AreSame parts_of_frame level a b
  unfolding AreSame parts_of_frame
  frames-equal (frame.Datum a) (frame.Datum b) p q = datums.equal_bytes a b p q
  frames-equal (frame.Datum a) (frame.Ensemble b) p q = (λ e. absurd (texts-apart level a b e), λ none. absurd none.0)
  frames-equal (frame.Ensemble a) (frame.Datum b) p q = (λ e. absurd (texts-apart level b a (sym e)), λ none. absurd none.0)
  frames-equal (frame.Ensemble a) (frame.Ensemble b) p q = ensembles.equal_bytes a b p q

  pub frames-canonical : IsWrittenForm IsFrame (AreSame parts_of_frame level) (IsSpelledFrame level) (frame_text level)
  frames-canonical = written-form (record {
    spelled = elim [ frame.Datum d ↦ λ s. datums.spelled d s | frame.Ensemble e ↦ λ s. ensembles.spelled e s ];
    one = elim [ frame.Datum d ↦ λ bytes s h. datums.one d bytes s h | frame.Ensemble e ↦ λ bytes s h. ensembles.one e bytes s h ];
    equal_bytes = frames-equal;
    closed = elim [ frame.Datum d ↦ λ s. datums.closed d s | frame.Ensemble e ↦ λ s. ensembles.closed e s ];
  })
