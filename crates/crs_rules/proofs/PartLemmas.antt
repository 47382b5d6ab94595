-- Names, units and parts of CRSs that are written by rules are accepted.
use Rattle.std.proofs.Common.{◌≡◌, ℕ, Bool, true, false, Option, Some, None, List, [], ◌∷◌, IfSome, refl, if◌then◌else◌, arith, ◌≢◌, IsSome, IsNone, map, ◌==◌, inl, codes, rules}
use Rattle.crs_shape.specs.declared.class.Class.{Class}
use Rattle.crs_shape.specs.declared.unit_kind.UnitKind.{UnitKind}
use Rattle.crs_value.specs.inner.Prelude.{IsText, IsUnit, IsUnitOf, IsAxisUnit, UnitParts, ConversionParts, ParameterParts, DynamicParts, datum_of, NamedParts, IsNamed, IsConversion, IsParameter, IsDynamic, IsDatum, IsEllipsoid, IsEnsemble, IsMeridian, IsDynamicOf, IsExtent, IsTail, IsUsage, DatumParts, EllipsoidParts, EnsembleParts, ExtentParts, MeridianParts, SaysSome, TailParts, UsageParts, AxisParts, IsAxis, own_or}
use Rattle.std.specs.List.{list_all}
use Rattle.std.specs.Option.{option_map}
use denote.Enum.Bare.{sameb, same_true}
use Rattle.crs_shape.specs.contracts.unit_kind.UnitKind.{the_type}
use Rattle.crs_shape.specs.declared.unit_kind.UnitKind.TheVariants as kinds
use Rattle.crs_value.specs.Sound.{Each}
use Rattle.crs_rules.specs.Rewritten.{counted_name, conversion, counted, counted_frame, datum, dynamic, dynamics, ellipsoid, ensemble, extent, frame_or_ensemble, meridian, named, parameter, stemmed, tail, usage, bare, completed, completed_conversion, completed_meridian, told, first_unit_of, is_same_unit, one_of, shared, unit_of_kind, units_of, unity, with_unit_of}
use Rattle.crs_rules.specs.Rules.{Meaning, NameAliasParts, RulesParts, UnitAliasParts, first_that, is_name_alias, is_unit_alias, meaning, name_for, unit_for, AreRules, IsNameAlias, IsUnitAlias}
use Rattle.crs_value.specs.declared.values.frame.Frame.{Frame}
use Rattle.crs_rules.proofs.StemLemmas.{stem-sound}
use Rattle.crs_value.specs.declared.values.frame.Frame.TheVariants as frames

pub choice : {A : Type 0} (P : A → Type 0) (b : Bool) (x y : A) → P x → P y → P (if b then x else y)
choice P true x y h k = h
choice P false x y h k = k

empty-text : IsText []
empty-text = (([], refl), ([], (refl, refl)))

found-sound : {A : Type 0} (P : A → Type 0) (test : A → Bool) (xs : List A) → Each P xs → IfSome (first_that test xs) P
found-sound P test [] h = search arith
found-sound P test (x ∷ xs) h =
    choice (λ y. IfSome y P) (test x) (Some x) (first_that test xs) h.0 (found-sound P test xs h.1)

name-written : (name : List ℕ) (a : Option NameAliasParts) → IfSome a IsNameAlias → IsText name → IsText (name_for name a)
name-written name None h k = k
name-written name (Some a) h k = h

pub counted-name : (uncounted : Bool) (name : List ℕ) → IsText name → IsText (counted_name uncounted name)
counted-name uncounted name k = choice IsText uncounted [] name empty-text k

-- a unit keeps its kind and is sound
pub record Keeps (old new : UnitParts) : Type 0 where
  pub unit : IsUnit new
  pub kind : new.kind ≡ old.kind

unit-written : (u : UnitParts) (a : Option UnitAliasParts) → IfSome a IsUnitAlias → IsUnit u → Keeps u (unit_for u a)
unit-written u None h k = assumption
unit-written u (Some a) h k = assumption

-- what is written is sound, and a unit keeps its kind
pub record IsSoundMeaning (m : Meaning) : Type 0 where
  pub name : (c : Class) (name : List ℕ) → IsText name → IsText (m.name c name)
  pub unit : (u : UnitParts) → IsUnit u → Keeps u (m.unit u)

pub sound-meaning : (r : RulesParts) → AreRules r → IsSoundMeaning (meaning r)
sound-meaning r h = record {
  name = λ c name k.
      name-written name (first_that (is_name_alias c name) r.names)
      (found-sound IsNameAlias (is_name_alias c name) r.names h.names) k;
  unit = λ u k.
      unit-written u (first_that (is_unit_alias u) r.units)
      (found-sound IsUnitAlias (is_unit_alias u) r.units h.units) k;
}

pub unit-of : (m : Meaning) (asked : UnitKind) → IsSoundMeaning m → (u : UnitParts) → IsUnitOf asked u → IsUnitOf asked (m.unit u)
unit-of m asked h u k = ((h.unit u k.0).unit, rw (h.unit u k.0).kind k.1)

pub unit-sound : (m : Meaning) → IsSoundMeaning m → (u : UnitParts) → IsUnit u → IsUnit (m.unit u)
unit-sound m h u k = (h.unit u k).unit

pub axis-unit : (m : Meaning) → IsSoundMeaning m → (u : UnitParts) → IsAxisUnit u → IsAxisUnit (m.unit u)
axis-unit m h u k = ((h.unit u k.0).unit, rw (h.unit u k.0).kind k.1)

-- ---- parts of CRSs that are rewritten by rules are sound

pub each-map : {A : Type 0} (P : A → Type 0) (f : A → A) (xs : List A) → ((x : A) → P x → P (f x)) → Each P xs → Each P (map f xs)
each-map P f [] h k = tt
each-map P f (x ∷ xs) h k = (h x k.0, each-map P f xs h k.1)

pub some-map : {A : Type 0} (P : A → Type 0) (f : A → A) (x : Option A) → ((x : A) → P x → P (f x)) →
    IfSome x P → IfSome (option_map f x) P
some-map P f None h k = k
some-map P f (Some x) h k = h x k

pub some-stays : {A : Type 0} (f : A → A) (x : Option A) → IsSome x → IsSome (option_map f x)
some-stays f x h = grind arith

pub none-stays : {A : Type 0} (f : A → A) (x : Option A) → IsNone x → IsNone (option_map f x)
none-stays f x h = grind arith

pub counted-sound : {A : Type 0} (P : A → Type 0) (uncounted : Bool) (part : Option A) → IfSome part P →
    IfSome (counted uncounted part) P
counted-sound P uncounted part h = choice (λ x. IfSome x P) uncounted None part (search arith) h

pub named-sound : (r : Meaning) (c : Class) → IsSoundMeaning r → (n : NamedParts) → IsNamed n → IsNamed (named r c n)
named-sound r c h n k = search h.name

-- ---- frames

pub ellipsoid-sound : (r : Meaning) → IsSoundMeaning r → (e : EllipsoidParts) → IsEllipsoid e → IsEllipsoid (ellipsoid r e)
ellipsoid-sound r h e k = search (h.name, some-map, unit-of)

pub meridian-sound : (r : Meaning) → IsSoundMeaning r → (m : MeridianParts) → IsMeridian m → IsMeridian (meridian r m)
meridian-sound r h m k = search (h.name, some-map, unit-of)

pub datum-sound : (r : Meaning) (c : Class) → IsSoundMeaning r → (d : DatumParts) → IsDatum d → IsDatum (datum r c d)
datum-sound r c h d k = search (h.name, some-map, ellipsoid-sound, counted-sound)

map-some : {A B : Type 0} (f : A → B) (xs : List A) → xs ≢ [] → map f xs ≢ []
map-some f [] h e = h refl
map-some f (x ∷ xs) h e = cc

pub ensemble-sound : (r : Meaning) (c : Class) → IsSoundMeaning r → (e : EnsembleParts) → IsEnsemble e → IsEnsemble (ensemble r c e)
ensemble-sound r c h e k = search (h.name, map-some, each-map, named-sound, some-map, ellipsoid-sound)

stem-counted : (e : EnsembleParts) → IsEnsemble e → IsDatum (datum_of (stemmed (frames.Ensemble e)))
stem-counted e k = search (stem-sound, arith)

-- a frame or an ensemble whose ellipsoid has this property
abbrev pub IsFrameWith : (Option EllipsoidParts → Type 0) → Frame → Type 0
IsFrameWith Q (frames.Datum d) = IsDatum d × Q d.ellipsoid
IsFrameWith Q (frames.Ensemble e) = IsEnsemble e × Q e.ellipsoid

pub frame-sound : (Q : Option EllipsoidParts → Type 0) → ((f : EllipsoidParts → EllipsoidParts) (x : Option EllipsoidParts) → Q x → Q (option_map f x)) →
    (r : Meaning) (c d : Class) → IsSoundMeaning r → (x : Frame) → IsFrameWith Q x →
    IsFrameWith Q (frame_or_ensemble r c d (counted_frame r.uncounted.ensembles x))
frame-sound Q stays r c d h (frames.Datum x) k =
    let sound : IsFrameWith Q (frames.Datum (datum r c x)) = (datum-sound r c h x k.0, stays _ _ k.1) in
    choice (λ f. IsFrameWith Q (frame_or_ensemble r c d f)) r.uncounted.ensembles _ _ sound sound
frame-sound Q stays r c d h (frames.Ensemble e) k =
    choice (λ f. IsFrameWith Q (frame_or_ensemble r c d f)) r.uncounted.ensembles _ _
    (datum-sound r c h _ (stem-counted e k.0), stays _ _ k.1) (ensemble-sound r d h e k.0, stays _ _ k.1)

-- ---- dynamic parts

pub dynamic-sound : (r : Meaning) → IsSoundMeaning r → (d : DynamicParts) → IsDynamic d → IsDynamic (dynamic r d)
dynamic-sound r h d k = search (some-map, named-sound)

pub dynamics-sound : (r : Meaning) (c e : Class) → IsSoundMeaning r → (p : Option DynamicParts) (x : Frame) → IsDynamicOf p x →
    IsDynamicOf (dynamics r p) (frame_or_ensemble r c e (counted_frame r.uncounted.ensembles x))
dynamics-sound r c e h None x k =
    choice (λ p. IsDynamicOf p (frame_or_ensemble r c e (counted_frame r.uncounted.ensembles x))) r.uncounted.dynamics None None tt tt
dynamics-sound r c e h (Some p) (frames.Datum x) k =
    let sound = dynamic-sound r h p k in
    choice (λ q. IsDynamicOf q (frame_or_ensemble r c e (counted_frame r.uncounted.ensembles (frames.Datum x)))) r.uncounted.dynamics _ _ tt
    (choice (λ f. IsDynamicOf (Some (dynamic r p)) (frame_or_ensemble r c e f)) r.uncounted.ensembles _ _ sound sound)
dynamics-sound r c e h (Some p) (frames.Ensemble x) k = absurd k

-- ---- ends

pub extent-sound : (r : Meaning) → IsSoundMeaning r → (e : ExtentParts) → IsExtent e → IsExtent (extent r e)
extent-sound r h e k = search (some-map, unit-of)

says-some : (r : Meaning) (u : UsageParts) → SaysSome u → SaysSome (usage r u)
says-some r u k = grind (arith, some-stays)

pub usage-sound : (r : Meaning) → IsSoundMeaning r → (u : UsageParts) → IsUsage u → IsUsage (usage r u)
usage-sound r h u k = search (some-map, extent-sound, says-some)

pub tail-sound : (r : Meaning) → IsSoundMeaning r → (t : TailParts) → IsTail t → IsTail (tail r t)
tail-sound r h t k = search (each-map, some-map, usage-sound)

-- ---- conversions

pub parameter-sound : (r : Meaning) → IsSoundMeaning r → (p : ParameterParts) → IsParameter p → IsParameter (parameter r p)
parameter-sound r h p k = search (h.name, some-map, unit-sound)

-- ---- units that are left out

pub unity-sound : IsUnit unity
unfolding lib.Utf8.encode
unity-sound = record {
  name = ((codes "unity", refl), (codes "unity", (refl, refl)));
  factor = search rules;
  above_zero = search rules;
  identifiers = tt;
}

pub bare-sound : (u : UnitParts) → IsUnit u → IsUnit (bare u)
bare-sound u k = record { name = k.name; factor = k.factor; above_zero = k.above_zero; identifiers = tt }

pub some-bare : (o : Option UnitParts) → IfSome o IsUnit → IfSome (option_map bare o) IsUnit
some-bare o k = some-map IsUnit bare o bare-sound k

pub some-weaker : {A : Type 0} (P Q : A → Type 0) → ((x : A) → P x → Q x) → (o : Option A) → IfSome o P → IfSome o Q
some-weaker P Q f None k = search arith
some-weaker P Q f (Some x) k = f x k

with-sound : (kind : UnitKind) (o : Option UnitParts) (us : List UnitParts) → IfSome o IsUnit → Each (IsUnitOf kind) us →
    Each (IsUnitOf kind) (with_unit_of kind o us)
with-sound kind None us h k = k
with-sound kind (Some u) us h k = by (sameb the_type u.kind kind) refl
  where
    by : (b : Bool) → sameb the_type u.kind kind ≡ b → Each (IsUnitOf kind) (if b then bare u ∷ us else us)
    by true e = ((bare-sound u h, inl (same_true the_type (search rules) u.kind kind e)), k)
    by false e = k

units-of-sound : (kind : UnitKind) (axes : List AxisParts) → Each IsAxis axes → Each (IsUnitOf kind) (units_of kind axes)
units-of-sound kind [] k = tt
units-of-sound kind (a ∷ axes) k =
    with-sound kind a.unit _ (some-weaker IsAxisUnit IsUnit (λ u i. i.0) a.unit k.0.unit) (units-of-sound kind axes k.1)

-- what each of some units has, the one unit has
pub one-has : (P : UnitParts → Type 0) (us : List UnitParts) → Each P us → IfSome (one_of (first_unit_of us) us) P
one-has P [] k = search arith
one-has P (u ∷ us) k =
    choice (λ o. IfSome o P) (list_all (is_same_unit u) (u ∷ us)) (Some u) None k.0 (search arith)

pub shared-sound : (kind : UnitKind) (axes : List AxisParts) → Each IsAxis axes → IfSome (shared kind axes) (IsUnitOf kind)
shared-sound kind axes k = one-has (IsUnitOf kind) (units_of kind axes) (units-of-sound kind axes k)

pub told-sound : (P : UnitParts → Type 0) (is : Bool) (o : Option UnitParts) → IfSome o P → IfSome (told is o) P
told-sound P is o k = choice (λ x. IfSome x P) is o None k (search arith)

pub bare-angle : (o : Option UnitParts) → IfSome o (IsUnitOf kinds.Angle) → IfSome (option_map bare o) (IsUnitOf kinds.Angle)
bare-angle o k = some-map (IsUnitOf kinds.Angle) bare o (λ u i. (bare-sound u i.0, i.1)) k

-- a prime meridian with the unit that it leaves out
pub completed-meridian-sound : (missing : Option UnitParts) → IfSome missing (IsUnitOf kinds.Angle) → (m : MeridianParts) →
    IsMeridian m → IsMeridian (completed_meridian missing m)
completed-meridian-sound missing h m k = record {
  name = k.name;
  longitude = k.longitude;
  unit = choice (λ o. IfSome o (IsUnitOf kinds.Angle)) (m.longitude.digits == 0) m.unit (own_or m.unit missing) k.unit (own m.unit k.unit);
  identifiers = k.identifiers;
}
  where
    own : (o : Option UnitParts) → IfSome o (IsUnitOf kinds.Angle) → IfSome (own_or o missing) (IsUnitOf kinds.Angle)
    own None l = h
    own (Some u) l = l

pub completed-meridians-sound : (missing : Option UnitParts) → IfSome missing (IsUnitOf kinds.Angle) → (o : Option MeridianParts) →
    IfSome o IsMeridian → IfSome (option_map (completed_meridian missing) o) IsMeridian
completed-meridians-sound missing h o k = some-map IsMeridian (completed_meridian missing) o (completed-meridian-sound missing h) k

pub kind-sound : (angle length : Option UnitParts) → IfSome angle IsUnit → IfSome length IsUnit → (k : UnitKind) →
    IfSome (unit_of_kind angle length k) IsUnit
kind-sound angle length a l kinds.Plain = search arith
kind-sound angle length a l kinds.Angle = a
kind-sound angle length a l kinds.Length = l
kind-sound angle length a l kinds.Scale = unity-sound

own-sound : (o s : Option UnitParts) → IfSome o IsUnit → IfSome s IsUnit → IfSome (own_or o s) IsUnit
own-sound None s k l = l
own-sound (Some u) s k l = k

pub completed-sound : (r : Meaning) (missing : UnitKind → Option UnitParts) → ((k : UnitKind) → IfSome (missing k) IsUnit) →
    (p : ParameterParts) → IsParameter p → IsParameter (completed r missing p)
completed-sound r missing m p k = record {
  name = k.name;
  value = k.value;
  unit = own-sound p.unit _ k.unit (m _);
  identifiers = k.identifiers;
}

pub completed-conversion-sound : (r : Meaning) (missing : UnitKind → Option UnitParts) →
    ((k : UnitKind) → IfSome (missing k) IsUnit) →
    (c : ConversionParts) → IsConversion c → IsConversion (completed_conversion r missing c)
completed-conversion-sound r missing m c k = record {
  name = k.name;
  method = k.method;
  parameters = each-map IsParameter (completed r missing) c.parameters (completed-sound r missing m) k.parameters;
  identifiers = k.identifiers;
}

pub conversion-sound : (r : Meaning) → IsSoundMeaning r → (c : ConversionParts) → IsConversion c → IsConversion (conversion r c)
conversion-sound r h c k = search (counted-name, named-sound, each-map, parameter-sound)
