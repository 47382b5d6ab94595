-- Frames are read back from the arguments of a CRS: a reference frame, or where there is none an ensemble.
use Rattle.std.proofs.Common.{◌≡◌, ◌⊎◌, ℕ, false, true≢false, codes, IsNone, Option, Some, None, List, [], inl, inr}
use Rattle.std.specs.Option.{option_map}
use Rattle.crs_text.specs.inner.Prelude.{Item, arguments}
use Rattle.crs_shape.specs.declared.class.Class.{Class}
use Rattle.crs_shape.specs.declared.class.Class.TheVariants as class
use Rattle.crs_shape.specs.inner.Prelude.{class_named, is_class}
use Rattle.crs_value.specs.declared.values.frame.Frame.{Frame}
use Rattle.crs_value.specs.declared.values.frame.Frame.TheVariants as frame
use Rattle.crs_value.specs.declared.values.level.Level.{Level}
use Rattle.crs_value.specs.inner.Prelude.{those, ReadsElse, ReadsFirst, ReadsDatum, ReadsEnsemble, ReadsAsDatum, ReadsAsEnsemble, ReadsFrame, IsGeodeticFrame, IsVerticalFrame, EllipsoidParts}
use Rattle.crs_normal.specs.inner.SpelledFrames.{item_datum, item_ellipsoid, item_ensemble, item_frame, norm_ellipsoid, norm_frame}
use Rattle.crs_normal.specs.inner.LowerLaws.{LowerLaws}
use Rattle.crs_normal.proofs.read.FrameLemmas.{datum-read, ensemble-read}
use Rattle.crs_normal.proofs.texts.SegmentLemmas.{IsIn, MayIn, ReadsBack, Seen, Segment, either-item, if_left, if_right, items_of, lacks, placed-at, some-all}
use Rattle.crs_normal.proofs.read.ViewLemmas.{keyword-names}

-- the frame is read from its item by the node that is there
abbrev pub FrameBack : Class → Class → List ℕ → Frame → Type 0
FrameBack d e keyword (frame.Datum x) = ReadsBack (item_datum keyword) (ReadsDatum d) x
FrameBack d e keyword (frame.Ensemble x) = ReadsBack item_ensemble (ReadsEnsemble e) x

pub ellipsoid-in : (c : Class) → class_named c (codes "ELLIPSOID") ≡ Some class.Ellipsoid → (o : Option EllipsoidParts) →
    MayIn c class.Ellipsoid item_ellipsoid o
ellipsoid-in c e o = some-all (λ x. IsIn c class.Ellipsoid (item_ellipsoid x)) (λ x. e) o

none-in : (c : Class) (level : Level) (o : Option EllipsoidParts) → IsNone o →
    MayIn c class.Ellipsoid item_ellipsoid (option_map (norm_ellipsoid level) o)
none-in c level None s = tt
none-in c level (Some x) s = absurd (true≢false s)

pub geodetic-back : LowerLaws → (level : Level) (f : Frame) → IsGeodeticFrame f →
    FrameBack class.GeodeticFrame class.GeodeticEnsemble (codes "DATUM") (norm_frame level f)
geodetic-back laws level (frame.Datum d) s =
    datum-read laws class.GeodeticFrame (codes "DATUM") (search keyword-names) level d s.0
    (ellipsoid-in class.GeodeticFrame (keyword-names _ _) (option_map (norm_ellipsoid level) d.ellipsoid))
geodetic-back laws level (frame.Ensemble e) s =
    ensemble-read laws class.GeodeticEnsemble (search keyword-names) level e s.0
    (ellipsoid-in class.GeodeticEnsemble (keyword-names _ _) (option_map (norm_ellipsoid level) e.ellipsoid))

pub vertical-back : LowerLaws → (level : Level) (f : Frame) → IsVerticalFrame f →
    FrameBack class.VerticalFrame class.VerticalEnsemble (codes "VDATUM") (norm_frame level f)
vertical-back laws level (frame.Datum d) s =
    datum-read laws class.VerticalFrame (codes "VDATUM") (search keyword-names) level d s.0
    (none-in class.VerticalFrame level d.ellipsoid s.1)
vertical-back laws level (frame.Ensemble e) s =
    ensemble-read laws class.VerticalEnsemble (search keyword-names) level e s.0
    (none-in class.VerticalEnsemble level e.ellipsoid s.1)

-- ---- a frame among the arguments of a CRS

module _ (c d e : Class) (keyword : List ℕ) (datums : class_named c keyword ≡ Some d) (ensembles : class_named c (codes "ENSEMBLE") ≡ Some e) where
  abbrev pub frame-side : (f : Frame) → IsIn c d (item_frame keyword f) ⊎ IsIn c e (item_frame keyword f)
  frame-side (frame.Datum v) = inl datums
  frame-side (frame.Ensemble v) = inr ensembles

  abbrev pub frame-item : is_class d (Some e) ≡ false → Frame → Segment c
  frame-item apart f = either-item d e apart (item_frame keyword f) (frame-side f)

  pub frame-field : {ss : List (Segment c)} {item : Item} → Seen c ss item → (f : Frame) → FrameBack d e keyword f →
      items_of d ss ≡ if_left (item_frame keyword f) (frame-side f) [] →
      items_of e ss ≡ if_right (item_frame keyword f) (frame-side f) [] → ReadsFrame d e c item f
  frame-field {item = item} look (frame.Datum v) back p q =
      placed-at look d
      (λ l. ReadsElse (ReadsAsDatum d) l (ReadsFirst (ReadsAsEnsemble e) (those c e (arguments item))) (frame.Datum v))
      (item_datum keyword v) p back
  frame-field {item = item} look (frame.Ensemble v) back p q =
      rw (lacks look d p)
      (placed-at look e (λ l. ReadsFirst (ReadsAsEnsemble e) l (frame.Ensemble v)) (item_ensemble v) q back)
