-- What geodetic CRSs and base CRSs have in front is made: the name, the dynamic part and the frame.
use Rattle.std.proofs.Math.Logic.{⊎_elim, ⊎_map}
use Rattle.std.proofs.Common.{◌≡◌, ◌≢◌, ℕ, suc, IsTrue, ◌++◌, true, Option, Some, None, List, [], ◌∷◌, codes, inl, inr, refl, Bool, false, ◌⊎◌}
use Rattle.crs_text.specs.inner.Prelude.{Item, More, Siblings, IsWord, at_place, RefusedAt}
use Rattle.crs_shape.specs.declared.class.Class.{Class}
use Rattle.crs_shape.specs.declared.class.Class.TheVariants as class
use Rattle.crs_shape.specs.inner.Prelude.{class_in, class_named, dimensions_of, is_keyword, one_of, slots_of, takes, IsOneOf}
use Rattle.crs_value.specs.declared.values.frame.Frame.{Frame}
use Rattle.crs_value.specs.declared.values.frame.Frame.TheVariants as frame
use Rattle.crs_value.specs.declared.values.level.Level.{Level}
use Rattle.crs_value.specs.inner.Prelude.{DynamicParts, IsDynamicOf, MeridianParts, SystemParts, TailParts, OfCrs, Own as BreaksOwn}
use Rattle.crs_value.specs.Sound.{Each}
use Rattle.crs_normal.specs.inner.LowerLaws.{LowerLaws}
use Rattle.crs_normal.specs.Normal.{HasAxes, HasOwnForm, HasTail, IsFirstKeyword}
use Rattle.crs_normal.specs.inner.SpelledFrames.{greenwich, item_frame, item_meridian, norm_frame, norm_given, norm_meridian}
use Rattle.crs_normal.specs.inner.SpelledItems.{node_of}
use Rattle.crs_normal.proofs.made.SystemLemmas.{IsFew}
use Rattle.crs_normal.proofs.made.TailLemmas.{Shows, behind, crs_classes, system-seen, tail-seen, has-tail, no-repeats}
use Rattle.crs_normal.proofs.made.PartLemmas.{placed-some, IsSteady, dynamic_classes, dynamic_run, no-bad-dynamic}
use Rattle.crs_normal.proofs.made.NodeLemmas.{IsAcceptedNormal, IsOrderly, Run, Sees, alone, given, items_in, none-shown, views, IsFree}
use Rattle.crs_normal.proofs.made.ArgumentLemmas.{Argument, as_runs, fit, lay, made-of}
use Rattle.crs_normal.proofs.made.PlaceLemmas.{ArePlaced}
use Rattle.crs_normal.proofs.made.CheckLemmas.{IsSystemIn, has-axes, no-bad-systems}
use Rattle.crs_normal.proofs.made.IdentLemmas.{geodetic_frame_class, vertical_frame_class}

-- ---- the frame as an argument, of one class or the other

-- a class names the nodes of a geodetic frame
pub record NamesFrame (c : Class) : Type 0 where
  pub datum : class_named c (codes "DATUM") ≡ Some class.GeodeticFrame
  pub ensemble : class_named c (codes "ENSEMBLE") ≡ Some class.GeodeticEnsemble

pub frame-named : (level : Level) (c : Class) (f : Frame) → NamesFrame c →
    class_in c (item_frame (codes "DATUM") (norm_frame level f)) ≡ Some (geodetic_frame_class f)
frame-named level c (frame.Datum d) n = n.datum
frame-named level c (frame.Ensemble e) n = n.ensemble

-- the class of a frame, where it is geodetic or else vertical
abbrev pub frame_class : Bool → Frame → Class
frame_class true f = geodetic_frame_class f
frame_class false f = vertical_frame_class f

abbrev pub frame_classes : Bool → List Class
frame_classes true = class.GeodeticFrame ∷ class.GeodeticEnsemble ∷ []
frame_classes false = class.VerticalFrame ∷ class.VerticalEnsemble ∷ []

-- the name, the dynamic part and the frame of a CRS or base, and these
abbrev pub framed_runs : Bool → Level → Item → Option DynamicParts → Frame → Item → List Run → List Run
framed_runs b level n x f j rest = alone class.Text n ∷ dynamic_run level x ∷ alone (frame_class b f) j ∷ rest

pub frame-fits : (b : Bool) (f : Frame) →
    (takes (one_of (frame_classes b)) (frame_class b f) ≡ true) × IsFree (frame_class b f)
frame-fits true (frame.Datum d) = (refl, λ level items runs h. h)
frame-fits false (frame.Datum d) = (refl, λ level items runs h. h)
frame-fits b f = (refl, λ level items runs h. h)

-- what is in a CRS or base with a prime meridian
abbrev pub geodetic_classes : List Class
geodetic_classes = class.PrimeMeridian ∷ crs_classes

module _ (level : Level) (c : Class) (item n : Item) where
  frame-shows : (b : Bool) (x : Option DynamicParts) (f : Frame) (j : Item) (rest : List Run) →
      Each (Shows c item (framed_runs b level n x f j rest)) geodetic_classes → Each (Shows c item rest) geodetic_classes
  frame-shows true x (frame.Datum d) j rest h = h
  frame-shows false x (frame.Datum d) j rest h = h
  frame-shows b x f j rest h = h

  steady : (rest : List Run) → Each (λ e. items_in e rest ≡ []) dynamic_classes →
      Shows c item rest class.Dynamic ⊎ (Shows c item rest class.GeodeticEnsemble
      × Shows c item rest class.VerticalEnsemble) →
      IsSteady c item
  steady rest none =
      ⊎_map (none-shown _ (items_in class.Dynamic rest) none.0) (λ v. (
        none-shown _ (items_in class.GeodeticEnsemble rest) none.1.0 v.0,
        none-shown _ (items_in class.VerticalEnsemble rest) none.1.1.0 v.1,
      ))

  frame-steady : (b : Bool) (x : Option DynamicParts) (f : Frame) (j : Item) (rest : List Run) → IsDynamicOf x f →
      Each (λ e. items_in e rest ≡ []) dynamic_classes →
      Each (Shows c item (framed_runs b level n x f j rest)) dynamic_classes → IsSteady c item
  frame-steady b (Some x) (frame.Ensemble e) j rest h none v = absurd h
  frame-steady true (Some x) (frame.Datum d) j rest h none v = steady rest none (inr (v.1.0, v.1.1.0))
  frame-steady false (Some x) (frame.Datum d) j rest h none v = steady rest none (inr (v.1.0, v.1.1.0))
  frame-steady true None (frame.Datum d) j rest h none v = steady rest none (inl v.0)
  frame-steady false None (frame.Datum d) j rest h none v = steady rest none (inl v.0)
  frame-steady b None f j rest h none v = steady rest none (inl v.0)

-- what is in it, and that no dynamic part is beside an ensemble, where none of these come after the frame
pub frame-seen : (level : Level) {c : Class} {item n : Item} (b : Bool) (x : Option DynamicParts) (f : Frame) {j : Item}
    {rest : List Run} → IsDynamicOf x f → Each (λ e. items_in e rest ≡ []) dynamic_classes →
    Sees c (framed_runs b level n x f j rest) item → Each (Shows c item rest) geodetic_classes × IsSteady c item
frame-seen level {c = c} {item = item} {n = n} b x f {j = j} {rest = rest} h none s = (
  frame-shows level c item n b x f j rest (views geodetic_classes s),
  frame-steady level c item n b x f j rest h none (views dynamic_classes s),
)

pub meridian-there : (level : Level) (m : Option MeridianParts) (items : List Item) →
    ArePlaced items (given item_meridian (norm_meridian level m) ++ []) → items ≢ []
meridian-there level None items h = placed-some items [] (item_meridian greenwich) h
meridian-there level (Some m) items h = placed-some items [] (item_meridian (norm_given level m)) h

-- ---- CRSs

-- a CRS with this system and this end is made
pub crs-node-made : (l : LowerLaws) (level : Level) (most : ℕ) (c : Class) (keyword : List ℕ) (first : Item)
    (others : Siblings) (all : List (Argument level most c)) → More first others ≡ lay all → IsWord keyword →
    IsTrue (is_keyword c keyword) → IsFirstKeyword c keyword → fit (slots_of c) all ≡ true →
    IsOrderly level (as_runs all) →
    (s : SystemParts) (t : TailParts) → IsFew s → IsOneOf s.dimension (dimensions_of c s.system_type) →
    ((item : Item) (fault : RefusedAt) → BreaksOwn c item fault → OfCrs (dimensions_of c) c item fault) →
    ((item : Item) → Sees c (as_runs all) item → Each (Shows c item (behind level s t)) crs_classes × IsSteady c item) →
    ((item : Item) → Sees c (as_runs all) item → IsSystemIn s c item → HasAxes c item → HasTail c item →
    HasOwnForm c item) → (p : ℕ) → IsAcceptedNormal level c (suc most) (at_place p (node_of keyword first others))
crs-node-made l level most c keyword first others all same letters known written fitting orderly s t few one breaks
    shown own =
    made-of level most c keyword first others all same letters known written fitting orderly
    (λ item look r.
    let v = (shown item look).0 in
    let seen = system-seen l level c item s t few v in
    own item look seen (has-axes c item s seen) (has-tail c item r (tail-seen level c item t v.1.1.1)))
    (λ item fault look b.
    let v = shown item look in
    ⊎_elim (no-repeats c item fault (tail-seen level c item t v.0.1.1.1))
    (⊎_elim (no-bad-systems l (dimensions_of c) s.system_type s.dimension _ _ _ fault few.system.dimension one
    (system-seen l level c item s t few v.0)) (no-bad-dynamic c item fault v.1)) (breaks item fault b))
