-- Nodes of a name and identifiers, dynamic parts and ellipsoids are made.
use Rattle.std.proofs.Common.{◌≡◌, ℕ, IsTrue, Some, List, [], ◌∷◌, codes, refl, arith, ◌⊎◌, ◌≤◌, Option, inl, inr, ◌≢◌, true, false, None, IfSome, sym, ap, subst, ◌∙◌}
use Rattle.crs_text.specs.inner.Prelude.{Item, RefusedAt, IsWord, at_place, arguments}
use Rattle.crs_shape.specs.declared.class.Class.{Class}
use Rattle.crs_shape.specs.inner.Prelude.{is_keyword, class_named, named_slots, slots_of, unit_word}
use Rattle.crs_value.specs.inner.Prelude.{GeoidModelParts, MethodParts, DeformationModelParts, IsNamed, IsGeoidModel, IsMethod, IsDeformationModel, IsMember, MemberParts, NamedParts, Own as BreaksOwn, BadDynamic, IsUnsteady, AnyOf, DynamicParts, those, IsDynamic, IsDynamicOf, IsAboveZero, OfEllipsoid, kept-none, IsUnitOf, IsEllipsoid, EllipsoidParts, UnitParts}
use Rattle.crs_value.specs.declared.values.level.Level.{Level}
use Rattle.crs_normal.specs.inner.LowerLaws.{LowerLaws}
use Rattle.crs_normal.specs.Normal.{IsFirstKeyword, HasOwnForm}
use Rattle.crs_normal.specs.inner.Prelude.{item_geoid_model, item_method, norm_geoid_model, norm_method, item_member, norm_member, item_ellipsoid, norm_ellipsoid, number_item}
use Rattle.crs_normal.specs.inner.SpelledCrs.{item_deformation_model, norm_deformation_model, item_dynamic, norm_dynamic}
use Rattle.crs_normal.proofs.made.IdentLemmas.{ids-of, ids-orderly, not-below, reads-one, unit-made, unit_as, IsKindIn}
use Rattle.crs_normal.proofs.made.ArgumentLemmas.{made-of, text-of, one-number, may-node, Argument, number-of, one-of}
use Rattle.crs_normal.proofs.members.MemberLemmas.{item_named}
use Rattle.crs_normal.proofs.made.NodeLemmas.{IsAcceptedNormal, Run, given, none-orderly, Made, as-argument}
use Rattle.std.specs.Option.{option_map}
use Rattle.crs_value.specs.declared.values.frame.Frame.{Frame}
use Rattle.crs_normal.proofs.same.DynamicLemmas.{dynamics-sound}
use Rattle.crs_decimal.specs.inner.Prelude.{Value, IsNormal}
use Rattle.crs_shape.specs.declared.unit_kind.UnitKind.{UnitKind}
use Rattle.crs_value.specs.Values.{IdentParts}
use Rattle.crs_normal.specs.inner.SpelledItems.{item_unit, metre, norm_length, norm_unit, norm_units}
use Rattle.crs_normal.proofs.members.IdentLemmas.{none-form}
use Rattle.crs_normal.proofs.made.PlaceLemmas.{ArePlaced}
use Rattle.crs_normal.proofs.same.UnitLemmas.{metre-is, suits-kind}
use Rattle.crs_shape.specs.declared.class.Class.TheVariants as class
use Rattle.crs_shape.specs.declared.unit_kind.UnitKind.TheVariants as kinds

named-made : LowerLaws → (level : Level) (c : Class) (keyword : List ℕ) (m : NamedParts) → IsWord keyword →
    IsTrue (is_keyword c keyword) → IsFirstKeyword c keyword → slots_of c ≡ named_slots →
    ((item : Item) → HasOwnForm c item) → ((item : Item) (fault : RefusedAt) → ¬ (BreaksOwn c item fault)) →
    class_named c (codes "ID") ≡ Some class.Identifier → IsNamed m → (p : ℕ) →
    IsAcceptedNormal level c 3 (at_place p (item_named keyword (norm_member level m)))
named-made l level c keyword m letters known written slots own unbroken names h =
    made-of level 2 c keyword _ _ (text-of m.name h.name ∷ ids-of l m.identifiers (omega arith) names h.identifiers ∷ [])
    refl letters known written (rw slots refl) (ids-orderly level m.identifiers)
    (λ item s r. own item) (λ item fault s. unbroken item fault)

pub member-made : LowerLaws → (level : Level) (m : MemberParts) → IsMember m → (p : ℕ) →
    IsAcceptedNormal level class.Member 3 (at_place p (item_member (norm_member level m)))
unfolding BreaksOwn class_named is_keyword
member-made l level m h =
    named-made l level class.Member (codes "MEMBER") m (refl, refl) refl refl refl (λ item. tt) (λ item fault b. b) refl h

pub method-made : LowerLaws → (level : Level) (m : MethodParts) → IsMethod m → (p : ℕ) →
    IsAcceptedNormal level class.Method 3 (at_place p (item_method (norm_method level m)))
unfolding BreaksOwn class_named is_keyword
method-made l level m h =
    named-made l level class.Method (codes "METHOD") m (refl, refl) refl refl refl (λ item. tt) (λ item fault b. b) refl h

pub geoid-model-made : LowerLaws → (level : Level) (m : GeoidModelParts) → IsGeoidModel m → (p : ℕ) →
    IsAcceptedNormal level class.GeoidModel 3 (at_place p (item_geoid_model (norm_geoid_model level m)))
unfolding BreaksOwn class_named is_keyword
geoid-model-made l level m h =
    named-made l level class.GeoidModel (codes "GEOIDMODEL") m (refl, refl) refl refl refl (λ item. tt) (λ item fault b. b) refl h

pub deformation-model-made : LowerLaws → (level : Level) (m : DeformationModelParts) → IsDeformationModel m → (p : ℕ) →
    IsAcceptedNormal level class.DeformationModel 3 (at_place p (item_deformation_model (norm_deformation_model level m)))
unfolding BreaksOwn class_named is_keyword
deformation-model-made l level m h =
    named-made l level class.DeformationModel (codes "MODEL") m (refl, refl) refl refl refl (λ item. tt) (λ item fault b. b) refl h

-- ---- dynamic parts are made, and none is beside an ensemble

pub dynamic-made : LowerLaws → (level : Level) (d : DynamicParts) → IsDynamic d → (p : ℕ) →
    IsAcceptedNormal level class.Dynamic 4 (at_place p (item_dynamic (norm_dynamic level d)))
unfolding BreaksOwn class_named is_keyword
dynamic-made l level d h =
    made-of level 3 class.Dynamic (codes "DYNAMIC") _ _ (one-number class.FrameEpoch (codes "FRAMEEPOCH") (refl, refl)
    refl refl (λ item. tt) (λ item fault b. b) refl (omega arith) l refl d.epoch h.epoch ∷
    may-node class.DeformationModel (norm_deformation_model level) item_deformation_model d.model (omega arith)
    (λ m. refl) h.model (deformation-model-made l level) ∷ []) refl (refl, refl) refl refl refl (none-orderly level)
    (λ item s r. tt) (λ item fault s b. b)

-- ---- dynamic parts as arguments

-- the dynamic part of a CRS or base, if it has one
abbrev pub dynamic_run : Level → Option DynamicParts → Run
dynamic_run level x = record { of = class.Dynamic; items = given item_dynamic (option_map (norm_dynamic level) x) }

abbrev pub dynamic-of : {level : Level} {most : ℕ} {parent : Class} → LowerLaws → (x : Option DynamicParts) (f : Frame) →
    4 ≤ most → class_named parent (codes "DYNAMIC") ≡ Some class.Dynamic → IsDynamicOf x f → Argument level most parent
dynamic-of {level = level} l x f deep named h =
    may-node class.Dynamic (norm_dynamic level) item_dynamic x deep (λ d. named) (dynamics-sound x f h)
    (dynamic-made l level)

-- the classes that the check of dynamic parts looks for
abbrev pub dynamic_classes : List Class
dynamic_classes = class.Dynamic ∷ class.GeodeticEnsemble ∷ class.VerticalEnsemble ∷ []

-- there is no dynamic part, or no ensemble
abbrev pub IsSteady : Class → Item → Type 0
IsSteady c item =
    (those c class.Dynamic (arguments item) ≡ []) ⊎ ((those c class.GeodeticEnsemble (arguments item) ≡ [])
    × (those c class.VerticalEnsemble (arguments item) ≡ []))

none-unsteady : (items : List Item) (fault : RefusedAt) → items ≡ [] → ¬ (AnyOf IsUnsteady items fault)
none-unsteady [] fault none b = b
none-unsteady (item ∷ items) fault none b = absurd (cc)

pub no-bad-dynamic : (c : Class) (item : Item) (fault : RefusedAt) → IsSteady c item → ¬ (BadDynamic c item fault)
no-bad-dynamic c item fault (inl none) b = none-unsteady (those c class.Dynamic (arguments item)) fault none b.1
no-bad-dynamic c item fault (inr none) (inl some, b) = some none.0
no-bad-dynamic c item fault (inr none) (inr some, b) = some none.1

-- ---- units in the nodes that have them, and ellipsoids, are made

-- ---- units

-- a unit of the asked kind as an argument
pub unit-argument : LowerLaws → {level : Level} {most : ℕ} {parent c : Class} (asked : UnitKind) (u : UnitParts) →
    3 ≤ most → class_named parent (unit_word asked) ≡ Some c → IsKindIn c asked → IsUnitOf asked u →
    Made level most parent c (item_unit (norm_unit level asked u))
unit-argument l {level = level} {most = most} {parent = parent} {c = c} asked u deep named k h =
    subst (λ kind. Made level most parent c (item_unit (unit_as level kind u))) (sym (suits-kind asked u.kind h.1))
    (as-argument deep named (unit-made l level c asked u k h.0))

pub given-unit : LowerLaws → (level : Level) {most : ℕ} (parent : Class) {c : Class} (asked : UnitKind) (x : Option UnitParts) →
    3 ≤ most → class_named parent (unit_word asked) ≡ Some c → IsKindIn c asked → IfSome x (IsUnitOf asked) →
    IfSome (norm_units level asked x) (λ u. Made level most parent c (item_unit u))
given-unit l level parent asked None deep named k h = tt
given-unit l level parent asked (Some u) deep named k h = unit-argument l asked u deep named k h

abbrev metre-with : List IdentParts → UnitParts
metre-with identifiers = record { kind = metre.kind; name = metre.name; factor = metre.factor; identifiers = identifiers }

-- a unit of length, which is the metre where none is written
pub length-argument : LowerLaws → {level : Level} {most : ℕ} {parent : Class} (x : Option UnitParts) → 3 ≤ most →
    class_named parent (codes "LENGTHUNIT") ≡ Some class.LengthUnit → IfSome x (IsUnitOf kinds.Length) →
    Made level most parent class.LengthUnit (item_unit (norm_length level x))
length-argument l {level = level} {most = most} {parent = parent} None deep named h =
    subst (λ identifiers. Made level most parent class.LengthUnit (item_unit (metre-with identifiers)))
    (none-form level [] (kept-none level)) (unit-argument l kinds.Length metre deep named refl (metre-is, inl refl))
length-argument l (Some u) deep named h = unit-argument l kinds.Length u deep named refl h

pub placed-some : (items js : List Item) (j : Item) → ArePlaced items (j ∷ js) → items ≢ []
placed-some [] js j h e = h
placed-some (item ∷ items) js j h e = cc

-- ---- ellipsoids

ellipsoid-numbers : LowerLaws → (a f : Value) (numbers : List Item) (fault : RefusedAt) →
    ArePlaced numbers (number_item a ∷ number_item f ∷ []) →
    IsNormal a → IsAboveZero a → IsNormal f → f.negative ≡ false → ¬ (OfEllipsoid numbers fault)
ellipsoid-numbers l a f [] fault h n z m s b = h
ellipsoid-numbers l a f (x ∷ []) fault h n z m s b = h.1
ellipsoid-numbers l a f (x ∷ y ∷ []) fault h n z m s (inl b) = not-below l a (x ∷ []) fault n z (h.0, tt) b
ellipsoid-numbers l a f (x ∷ y ∷ []) fault h n z m s (inr (inl b)) =
    let e : b.1.0 ≡ f = reads-one l f b.1.0 y h.1.0.0 m h.1.0.1 b.1.1.0 in
    let k : true ≡ false = sym b.1.1.1 ∙ ap (λ v. v.negative) e ∙ s in cc
ellipsoid-numbers l a f (x ∷ y ∷ []) fault h n z m s (inr (inr b)) = b
ellipsoid-numbers l a f (x ∷ y ∷ w ∷ others) fault h n z m s b = h.1.1

pub ellipsoid-made : LowerLaws → (level : Level) (e : EllipsoidParts) → IsEllipsoid e → (p : ℕ) →
    IsAcceptedNormal level class.Ellipsoid 4 (at_place p (item_ellipsoid (norm_ellipsoid level e)))
unfolding BreaksOwn class_named is_keyword
ellipsoid-made l level e h =
    made-of level 3 class.Ellipsoid (codes "ELLIPSOID") _ _ (text-of e.name h.name ∷
    number-of l e.semi_major_axis h.semi_major_axis ∷ number-of l e.inverse_flattening h.inverse_flattening ∷
    one-of (length-argument l e.unit (omega arith) refl h.unit) ∷
    ids-of l e.identifiers (omega arith) refl h.identifiers ∷ []) refl (refl, refl) refl refl refl
    (ids-orderly level e.identifiers)
    (λ item s r. placed-some (those class.Ellipsoid class.LengthUnit (arguments item)) []
    (item_unit (norm_length level e.unit)) (s.view class.LengthUnit))
    (λ item fault s b. ellipsoid-numbers l e.semi_major_axis e.inverse_flattening
    (those class.Ellipsoid class.Number (arguments item)) fault (s.view class.Number) h.semi_major_axis h.above_zero
    h.inverse_flattening h.not_negative b)
