-- Base, projected and vertical CRSs are made.
use Rattle.std.proofs.Common.{ℕ, List, [], ◌∷◌, codes, inl, refl, arith, true, drop, ◌≡◌, Some, map, false, None}
use Rattle.crs_text.specs.inner.Prelude.{Item, arguments, at_place}
use Rattle.crs_shape.specs.inner.Prelude.{is_keyword, class_named, dimensions_of, class_in}
use Rattle.crs_value.specs.inner.Prelude.{BaseParts, ProjectedParts, those, IsBase, IsProjected, Own as BreaksOwn, VerticalParts, IsVertical}
use Rattle.crs_value.specs.declared.values.level.Level.{Level}
use Rattle.crs_normal.specs.inner.LowerLaws.{LowerLaws}
use Rattle.crs_normal.specs.inner.Prelude.{item_conversion, norm_conversion, item_frame, norm_frame, item_unit, norm_units, item_geoid_model, norm_geoid_model, set_geoid_models, item_vertical, norm_vertical}
use Rattle.crs_normal.specs.inner.SpelledCrs.{item_base, item_projected, norm_base, norm_projected}
use Rattle.crs_normal.proofs.made.SystemLemmas.{IsFew}
use Rattle.crs_normal.proofs.made.TailLemmas.{crs_classes, system-seen, few-system, behind_arguments, projected-names, vertical-names, tail_arguments, tail-orderly}
use Rattle.crs_normal.proofs.made.CheckLemmas.{IsSystemIn}
use Rattle.crs_normal.proofs.made.FrameLemmas.{conversion-made, geodetic-frame-made, vertical-frame-made, meridian-of}
use Rattle.crs_normal.proofs.made.PartLemmas.{no-bad-dynamic, dynamic-of, given-unit, geoid-model-made}
use Rattle.crs_normal.proofs.made.FrontLemmas.{meridian-there, crs-node-made, frame-named, frame-fits, frame-seen}
use Rattle.crs_normal.proofs.made.IdentLemmas.{ids-of, ids-orderly, vertical_frame_class}
use Rattle.crs_normal.proofs.made.NodeLemmas.{IsAcceptedNormal, Sees, views, none-shown}
use Rattle.crs_normal.proofs.normal.DimensionLemmas.{small-projected, small-vertical}
use Rattle.crs_normal.proofs.read.ViewLemmas.{keyword-names}
use Rattle.crs_normal.proofs.made.ArgumentLemmas.{Argument, arguments-seen, made-of, may-of, text-of, node-of, as_runs, set-of}
use Rattle.crs_value.specs.declared.values.frame.Frame.{Frame}
use Rattle.crs_normal.proofs.made.AscendLemmas.{set-ascends}
use Rattle.crs_shape.specs.declared.class.Class.TheVariants as class
use Rattle.crs_shape.specs.declared.unit_kind.UnitKind.TheVariants as kinds
use Rattle.crs_value.specs.declared.values.frame.Frame.TheVariants as frame

-- ---- base CRSs

pub base-made : LowerLaws → (level : Level) (b : BaseParts) → IsBase b → (p : ℕ) →
    IsAcceptedNormal level class.BaseCrs 6 (at_place p (item_base (norm_base level b)))
unfolding BreaksOwn class_named is_keyword
base-made l level b h =
    let all : List (Argument level 5 class.BaseCrs) =
    text-of b.name h.name ∷ dynamic-of l b.dynamic b.frame (omega arith) refl h.dynamic ∷
    node-of (item_frame (codes "DATUM") (norm_frame level b.frame)) (omega arith)
    (frame-named level class.BaseCrs b.frame (record { datum = refl; ensemble = refl }))
    (geodetic-frame-made l level b.frame h.frame) ∷
    meridian-of l b.meridian (omega arith) refl h.meridian ∷
    may-of class.AngleUnit item_unit (norm_units level kinds.Angle b.unit)
    (given-unit l level class.BaseCrs kinds.Angle b.unit (omega arith) refl refl h.unit) ∷
    ids-of l b.identifiers (omega arith) refl h.identifiers ∷ [] in
    let shown = λ (item : Item) (s : Sees class.BaseCrs (as_runs all) item).
    frame-seen level true b.dynamic b.frame h.dynamic (refl, (refl, (refl, tt))) s in
    made-of level 5 class.BaseCrs (codes "BASEGEOGCRS") _ _ all refl (refl, refl) refl refl
    (rw (frame-fits true b.frame).0 (refl {a = true}))
    ((frame-fits true b.frame).1 level (item_frame (codes "DATUM") (norm_frame level b.frame) ∷ [])
    (drop 3 (as_runs all)) (ids-orderly level b.identifiers))
    (λ item s r. meridian-there level b.meridian _ (shown item s).0.0)
    (λ item fault s. no-bad-dynamic class.BaseCrs item fault (shown item s).1)

-- ---- projected CRSs

projected-few : LowerLaws → (g : ProjectedParts) → IsProjected g → IsFew g.system
projected-few l g h = few-system l (dimensions_of class.ProjectedCrs) small-projected g.system h.system h.dimension

abbrev projected_arguments : LowerLaws → (level : Level) (g : ProjectedParts) → IsFew g.system → IsProjected g →
    List (Argument level 6 class.ProjectedCrs)
projected_arguments l level g few h =
    text-of g.name h.name ∷ node-of (item_base (norm_base level g.base)) (omega arith)
    (keyword-names class.ProjectedCrs (codes "BASEGEOGCRS")) (base-made l level g.base h.base) ∷
    node-of (item_conversion (norm_conversion level g.conversion)) (omega arith)
    (keyword-names class.ProjectedCrs (codes "CONVERSION")) (conversion-made l level g.conversion h.conversion) ∷
    behind_arguments l level 6 class.ProjectedCrs g.system
    (tail_arguments l level 6 class.ProjectedCrs g.tail (omega arith) projected-names.tails h.tail) (omega arith)
    projected-names.systems few

pub projected-made : LowerLaws → (level : Level) (g : ProjectedParts) → IsProjected g → (p : ℕ) →
    IsAcceptedNormal level class.ProjectedCrs 7 (at_place p (item_projected (norm_projected level g)))
unfolding BreaksOwn is_keyword
projected-made l level g h =
    let few = projected-few l g h in
    crs-node-made l level 6 class.ProjectedCrs (codes "PROJCRS") _ _ (projected_arguments l level g few h) refl
    (refl, refl)
    refl refl refl (tail-orderly level g.tail) g.system g.tail few h.dimension
    (λ item fault b. b)
    (λ item s. (
      views crs_classes s,
      inl (none-shown (those class.ProjectedCrs class.Dynamic (arguments item)) [] refl (s.view class.Dynamic)),
    )) (λ item s seen axes end. (axes, end))

-- the system of a CRS, as the checks of a compound see it
pub projected-seen : LowerLaws → (level : Level) (g : ProjectedParts) → IsProjected g → (p : ℕ) →
    IsSystemIn g.system class.ProjectedCrs (at_place p (item_projected (norm_projected level g)))
projected-seen l level g h p =
    let few : IsFew g.system = projected-few l g h in
    let item : Item = at_place p (item_projected (norm_projected level g)) in
    system-seen l level class.ProjectedCrs item g.system g.tail few
    (views crs_classes (arguments-seen level 6 class.ProjectedCrs (codes "PROJCRS") _ _ (projected_arguments l level g few h) refl p))

-- ---- vertical CRSs are made

-- ---- the frame, of one class or the other

vertical-named : (level : Level) (f : Frame) →
    class_in class.VerticalCrs (item_frame (codes "VDATUM") (norm_frame level f)) ≡ Some (vertical_frame_class f)
vertical-named level (frame.Datum d) = keyword-names class.VerticalCrs (codes "VDATUM")
vertical-named level (frame.Ensemble e) = keyword-names class.VerticalCrs (codes "ENSEMBLE")

-- ---- vertical CRSs

abbrev vertical_arguments : LowerLaws → (level : Level) (g : VerticalParts) → IsFew g.system → IsVertical g →
    List (Argument level 5 class.VerticalCrs)
vertical_arguments l level g few h =
    text-of g.name h.name ∷
    dynamic-of l g.dynamic g.frame (omega arith) (keyword-names class.VerticalCrs (codes "DYNAMIC")) h.dynamic ∷
    node-of (item_frame (codes "VDATUM") (norm_frame level g.frame)) (omega arith) (vertical-named level g.frame)
    (vertical-frame-made l level g.frame h.frame) ∷
    behind_arguments l level 5 class.VerticalCrs g.system
    (set-of class.GeoidModel (norm_geoid_model level) item_geoid_model g.geoid_models None (omega arith)
    (λ m. keyword-names class.VerticalCrs (codes "GEOIDMODEL")) h.geoid_models (geoid-model-made l level) ∷
    tail_arguments l level 5 class.VerticalCrs g.tail (omega arith) vertical-names.tails h.tail) (omega arith)
    vertical-names.systems few

pub vertical-made : LowerLaws → (level : Level) (g : VerticalParts) → IsVertical g → (p : ℕ) →
    IsAcceptedNormal level class.VerticalCrs 6 (at_place p (item_vertical (norm_vertical level g)))
unfolding BreaksOwn is_keyword set_geoid_models
vertical-made l level g h =
    let few = few-system l (dimensions_of class.VerticalCrs) small-vertical g.system h.system h.dimension in
    let all = vertical_arguments l level g few h in
    let end = tail-orderly level g.tail in
    let models = set-ascends item_geoid_model (map (norm_geoid_model level) g.geoid_models) in
    crs-node-made l level 5 class.VerticalCrs (codes "VERTCRS") _ _ all refl (refl, refl) refl refl
    (rw (frame-fits false g.frame).0 (refl {a = true}))
    ((frame-fits false g.frame).1 level (item_frame (codes "VDATUM") (norm_frame level g.frame) ∷ [])
    (drop 3 (as_runs all)) ((end.0.0, (end.0.1.0, (tt, (tt, (models, tt))))), end.1))
    g.system g.tail few h.dimension (λ item fault b. b)
    (λ item s.
    let v = frame-seen level false g.dynamic g.frame h.dynamic (refl, (refl, (refl, tt))) s in (v.0.1, v.1))
    (λ item s seen axes end. (axes, end))
