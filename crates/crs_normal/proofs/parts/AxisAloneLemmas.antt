-- An axis by itself, normal but for a unit that is `UNIT`, is the one form of its value.
use Rattle.std.proofs.Common.{◌≡◌, ◌≢◌, IsTrue, Option, List, [], ◌∷◌, codes, inl, inr, refl, sym, ◌∙◌, subst}
use Rattle.crs_text.specs.inner.Prelude.{Item, leaf, node, Siblings, End, More, arguments}
use Rattle.crs_shape.specs.declared.class.Class.{Class}
use Rattle.crs_shape.specs.declared.class.Class.TheVariants as class
use Rattle.crs_shape.specs.declared.unit_kind.UnitKind.TheVariants as kinds
use Rattle.crs_shape.specs.inner.Prelude.{is_keyword, AreShaped, Shaped, class_in, class_named, slots_of}
use Rattle.crs_value.specs.inner.Prelude.{AtClass, ReadsEach, ReadsFirst, those, ReadsAxis, ReadsIdent, ReadsNumber, ReadsText, ReadsUnit, AxisParts, UnitParts}
use Rattle.crs_value.specs.declared.values.level.Level.{Level}
use Rattle.crs_normal.specs.AxisAlone.{AreNormalArguments, IsNormalArgument, IsNormalAxis}
use Rattle.crs_normal.proofs.WithoutPlaces.{without_places}
use Rattle.crs_normal.specs.Normal.{IsNormalIn}
use Rattle.crs_value.specs.Sound.{Each}
use Rattle.crs_normal.specs.inner.Prelude.{norm_axis_alone, item_axis, item_unit, norm_unit}
use Rattle.crs_normal.proofs.normal.UnitLemmas.{axis_meridian-form, direction-form, opt-meridians, idents-found-spelled, in-axis, in-plain, unit-form}
use Rattle.crs_normal.proofs.normal.FormLemmas.{IsGood, node-spelled, one-spelled, optional-spelled, optional-by}
use Rattle.crs_normal.proofs.normal.LeafLemmas.{PlainIsOne, number-node-form, text-form}
use Rattle.crs_normal.proofs.members.MemberLemmas.{opt-units}
use Rattle.crs_normal.proofs.read.ViewLemmas.{each-so, without_places-spread, those-looked, view, those-at}

-- ---- a unit of an axis as a plain unit

named-alike : (i : Item) → class_in class.AxisUnit i ≡ class_in class.PlainUnit i
unfolding class_named
named-alike (leaf kind place raw) = refl
named-alike (node place keyword square first others close) = refl

those-alike : (e : Class) (items : Siblings) → those class.AxisUnit e items ≡ those class.PlainUnit e items
those-alike e End = refl
those-alike e (More i items) = rw (named-alike i, those-alike e items)

shaped-alike : (ds : List Class) (items : Siblings) → AreShaped class.AxisUnit ds items → AreShaped class.PlainUnit ds items
shaped-alike [] End h = tt
shaped-alike [] (More i items) h = h
shaped-alike (d ∷ ds) End h = h
shaped-alike (d ∷ ds) (More i items) h = (sym (named-alike i) ∙ h.0, (h.1.0, shaped-alike ds items h.1.1))

as-plain : (level : Level) (item : Item) → Shaped class.AxisUnit item → IsNormalIn level class.Axis class.PlainUnit item →
    (u : UnitParts) → ReadsUnit class.AxisUnit item u → Shaped class.PlainUnit item
unfolding is_keyword
as-plain level (leaf kind place raw) shaped normal u reads = absurd reads.name
as-plain level (node place keyword square first others close) shaped normal u reads =
    let s = shaped.1 in (
      subst (λ w. IsTrue (is_keyword class.PlainUnit w)) (sym normal.first_keyword) refl,
      (s.0, (s.1.0, (sym (named-alike first) ∙ s.1.1.0, (s.1.1.1.0, (shaped-alike s.1.0 others s.1.1.1.1.0, s.1.1.1.1.1))))),
    )

plain-reads : (item : Item) (u : UnitParts) → ReadsUnit class.AxisUnit item u → ReadsUnit class.PlainUnit item u
plain-reads item u r = record {
  kind = r.kind;
  name = subst (λ xs. ReadsFirst ReadsText xs u.name) (those-alike class.Text (arguments item)) r.name;
  factor = subst (λ xs. ReadsFirst ReadsNumber xs u.factor) (those-alike class.Number (arguments item)) r.factor;
  identifiers = subst (λ xs. ReadsEach (ReadsIdent class.Identifier) xs u.identifiers) (those-alike class.Identifier (arguments item)) r.identifiers;
}

-- ---- the arguments of an axis by itself

record IsFair (level : Level) (d : Class) (item : Item) : Type 0 where
  shaped : Shaped d item
  normal : IsNormalArgument level d item

those-fair : (level : Level) (d : Class) (classes : List Class) (items : Siblings) → AreShaped class.Axis classes items →
    AreNormalArguments level items → Each (IsFair level d) (those class.Axis d items)
those-fair level d =
    those-at class.Axis d (IsFair level) (AreNormalArguments level) (λ item items e named shaped normal. (
      record {
        shaped = shaped;
        normal = subst (λ (o : Option Class). AtClass o (λ x. IsNormalArgument level x item)) named normal.0;
      },
      normal.1,
    ))

good-of : (level : Level) (d : Class) → d ≢ class.AxisUnit → (item : Item) → IsFair level d item →
    IsGood level class.Axis d item
good-of level d other item f = record { shaped = f.shaped; normal = by f.normal }
  where
    by : IsNormalArgument level d item → IsNormalIn level class.Axis d item
    by (inl h) = h
    by (inr h) = absurd (other h.0)

-- ---- its unit

abbrev plain_item : Level → UnitParts → Item
plain_item level u = item_unit (norm_unit level kinds.Plain u)

unit-alone-form : PlainIsOne → (level : Level) (item : Item) (u : UnitParts) → IsFair level class.AxisUnit item →
    ReadsUnit class.AxisUnit item u → without_places item ≡ plain_item level u
unit-alone-form law level item u f reads = by f.normal
  where
    by : IsNormalArgument level class.AxisUnit item → without_places item ≡ plain_item level u
    by (inl h) =
        unit-form law level class.Axis class.AxisUnit kinds.Plain refl (in-axis kinds.Plain) (λ raw p. p) item u
        (record { shaped = f.shaped; normal = h }) reads
    by (inr h) =
        unit-form law level class.Axis class.PlainUnit kinds.Plain refl in-plain (λ raw p. p) item u
        (record { shaped = as-plain level item f.shaped h.1 u reads; normal = h.1 }) (plain-reads item u reads)

-- ---- the axis

pub axis-alone-form : PlainIsOne → (level : Level) (item : Item) (x : AxisParts) → Shaped class.Axis item →
    IsNormalAxis level item → ReadsAxis class.Axis item x → without_places item ≡ item_axis (norm_axis_alone level x)
axis-alone-form law level (leaf kind place raw) x shaped normal reads = absurd normal
axis-alone-form law level (node place keyword square first others close) x shaped normal reads =
    let d = class.Axis in
    let items = More first others in
    let s = shaped.1 in
    let are : AreShaped d (s.0 ∷ s.1.0) items = (s.1.1.0, (s.1.1.1.0, s.1.1.1.1.0)) in
    let v = view d (s.0 ∷ s.1.0) items s.1.1.1.1.1 are in
    let v1 = v.1.1.1.1 in
    let v2 = v1.1.1.1.1 in
    let v3 = v2.1.1.1.1 in
    let v4 = v3.1.1.1.1 in
    let v5 = v4.1.1.1.1 in
    let fair : (e : Class) → Each (IsFair level e) (those d e items) =
    λ e. those-fair level e (s.0 ∷ s.1.0) items are normal.normal_arguments in
    let looked = λ (e : Class). those-looked d e (slots_of d) items v in
    let good : (e : Class) → e ≢ class.AxisUnit → Each (IsGood level d e) (those d e items) =
    λ e other. each-so _ _ (good-of level e other) (those d e items) (fair e) in
    node-spelled place keyword _ square first others close _ normal.first_keyword
    (without_places-spread d (slots_of d) items v
    ∙ one-spelled (text-form level d) _ v.0 (good class.Text (λ e. cc)) (looked class.Text) (v.1.1.0.not_more refl) x.name
    reads.name
    (one-spelled (direction-form level) _ v1.0 (good class.Word (λ e. cc)) (looked class.Word) (v1.1.1.0.not_more refl)
    x.direction reads.direction
    (optional-spelled (axis_meridian-form law level d) _ v2.0 (good class.AxisMeridian (λ e. cc))
    (looked class.AxisMeridian) (v2.1.1.0.not_more refl) x.meridian reads.meridian
    (optional-spelled (number-node-form law level d class.Order (codes "ORDER") refl (λ bytes h. h) (λ raw h. h)) _ v3.0
    (good class.Order (λ e. cc)) (looked class.Order) (v3.1.1.0.not_more refl) x.order reads.order
    (optional-by (IsFair level class.AxisUnit) (unit-alone-form law level) (those d class.AxisUnit items) v4.0
    (fair class.AxisUnit) (looked class.AxisUnit) (v4.1.1.0.not_more refl) x.unit reads.unit
    (idents-found-spelled level d items v5.0 (good class.Identifier (λ e. cc)) (looked class.Identifier)
    normal.ascending_sets.0 normal.at_level.0 x.identifiers reads.identifiers End End refl)
    ∙ opt-units level kinds.Plain x.unit _))
    ∙ opt-meridians level x.meridian _)))
