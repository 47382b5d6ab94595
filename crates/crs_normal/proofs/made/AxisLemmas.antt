-- Axes at their positions are made.
use Rattle.std.proofs.Common.{◌≡◌, ℕ, zero, suc, ◌≤◌, Option, Some, None, List, [], ◌∷◌, codes, IfSome, inl, inr, refl, sym, subst, arith, ap}
use Rattle.crs_decimal.specs.inner.Prelude.{Value, IsNormal}
use Rattle.crs_text.specs.inner.Prelude.{Item, arguments, RefusedAt, at_place, Siblings, More, End, IsWord}
use Rattle.crs_shape.specs.declared.class.Class.TheVariants as class
use Rattle.crs_shape.specs.declared.direction.Direction.{Direction}
use Rattle.crs_shape.specs.declared.direction.Direction.TheVariants as direction
use Rattle.crs_shape.specs.declared.system_type.SystemType.{SystemType}
use Rattle.crs_shape.specs.declared.system_type.SystemType.TheVariants as types
use Rattle.crs_shape.specs.declared.unit_kind.UnitKind.{UnitKind}
use Rattle.crs_shape.specs.declared.unit_kind.UnitKind.TheVariants as kinds
use Rattle.crs_shape.specs.inner.Prelude.{is_keyword, class_named, asked_kind, kind_by_direction, direction_word, unit_word}
use Rattle.crs_value.specs.inner.Prelude.{orders_in, units_in, UnknownDirection, AnyOf, those, IsAxis, IsAxisMeridian, IsUnitOf, AxisMeridianParts, AxisParts, SystemParts, UnitParts, Own as BreaksOwn}
use Rattle.crs_value.specs.declared.values.level.Level.{Level}
use Rattle.crs_same.specs.inner.Prelude.{own_or}
use Rattle.crs_normal.specs.inner.LowerLaws.{LowerLaws}
use Rattle.crs_normal.specs.inner.Prelude.{number_node, word_item, each, opt, text_item, item_unit, norm_unit, whole_value, item_ident, norm_units, set_idents}
use Rattle.crs_normal.specs.inner.SpelledCrs.{item_axis, item_axis_meridian, norm_axis, norm_axis_meridian, norm_axis_meridians}
use Rattle.crs_normal.proofs.made.PartLemmas.{unit-argument}
use Rattle.crs_normal.proofs.made.IdentLemmas.{ids-of, ids-orderly, IsKindIn}
use Rattle.crs_normal.proofs.made.LeafLemmas.{word-made}
use Rattle.crs_normal.proofs.made.NodeLemmas.{IsAcceptedNormal, Made, as-argument, none-orderly}
use Rattle.crs_normal.proofs.made.PlaceLemmas.{ArePlaced, none-of}
use Rattle.crs_normal.proofs.made.ArgumentLemmas.{made-of, number-of, one-of, Argument, arguments-seen, may-of, text-of, a-number, lay}
use Rattle.crs_normal.proofs.read.ViewLemmas.{keyword-names}
use Rattle.crs_normal.proofs.same.UnitLemmas.{suits-kind}

-- ---- positions

pub whole-normal : (k : ℕ) → 1 ≤ k → k ≤ 3 → IsNormal (whole_value k)
whole-normal zero h m = absurd (omega arith)
whole-normal (suc zero) h m = refl
whole-normal (suc (suc zero)) h m = refl
whole-normal (suc (suc (suc zero))) h m = refl
whole-normal (suc (suc (suc (suc k)))) h m = absurd (omega arith)

-- ---- the meridian of an axis

pub axis-meridian-made : LowerLaws → (level : Level) (m : AxisMeridianParts) → IsAxisMeridian m → (p : ℕ) →
    IsAcceptedNormal level class.AxisMeridian 4 (at_place p (item_axis_meridian (norm_axis_meridian level m)))
unfolding BreaksOwn class_named is_keyword
axis-meridian-made l level m h =
    made-of level 3 class.AxisMeridian (codes "MERIDIAN") _ _ (number-of l m.longitude h.longitude ∷
    one-of (unit-argument l kinds.Angle m.unit (omega arith) refl refl h.unit) ∷ []) refl (refl, refl) refl refl refl (none-orderly level) (λ item s r. tt)
    (λ item fault s b. b)

pub axis-meridians-made : LowerLaws → (level : Level) (x : Option AxisMeridianParts) → IfSome x IsAxisMeridian →
    IfSome (norm_axis_meridians level x) (λ m. Made level 4 class.Axis class.AxisMeridian (item_axis_meridian m))
unfolding class_named is_keyword
axis-meridians-made l level None h = tt
axis-meridians-made l level (Some m) h = as-argument (omega arith) refl (axis-meridian-made l level m h)

-- ---- the unit of an axis

vertical-in : (d : Direction) → IsKindIn class.AxisUnit (kind_by_direction d)
vertical-in direction.Up = inl refl
vertical-in direction.Down = inl refl
vertical-in other = inr refl

pub asked-in : (t : SystemType) (d : Direction) → IsKindIn class.AxisUnit (asked_kind t d)
asked-in types.Cartesian d = inl refl
asked-in types.Ellipsoidal d = vertical-in d
asked-in types.Spherical d = vertical-in d
asked-in types.Vertical d = inl refl

pub axis-names : (kind : UnitKind) → IsKindIn class.AxisUnit kind →
    class_named class.Axis (unit_word kind) ≡ Some class.AxisUnit
unfolding class_named is_keyword
axis-names kind (inl e) = subst (λ k. class_named class.Axis (unit_word k) ≡ Some class.AxisUnit) (sym e) refl
axis-names kind (inr e) = subst (λ k. class_named class.Axis (unit_word k) ≡ Some class.AxisUnit) (sym e) refl

-- ---- axes

pub direction-letters : (d : Direction) → IsWord (direction_word d)
direction-letters direction.North = (refl, refl)
direction-letters other = (refl, refl)

-- an axis has a unit of the asked kind, its own or this shared one
pub record Fits (system_type : SystemType) (shared : Option UnitParts) (x : AxisParts) : Type 0 where
  pub axis : IsAxis x
  pub unit : UnitParts
  pub given_unit : own_or x.unit shared ≡ Some unit
  pub suits : IsUnitOf (asked_kind system_type x.direction) unit

abbrev axis_others : Level → UnitKind → ℕ → AxisParts → Option UnitParts → Siblings
axis_others level asked k x w =
    More (word_item (direction_word x.direction)) (opt item_axis_meridian (norm_axis_meridians level x.meridian)
    (More (number_node (codes "ORDER") (whole_value k)) (opt item_unit (norm_units level asked w)
    (each item_ident (set_idents level x.identifiers) End))))

pub known-direction : (d : Direction) (words : List Item) (fault : RefusedAt) →
    ArePlaced words (word_item (direction_word d) ∷ []) →
    ¬ (AnyOf UnknownDirection words fault)
known-direction d words fault h =
    none-of UnknownDirection words (word_item (direction_word d) ∷ []) fault h (λ p b. b.1 d refl, tt)

pub order-argument : LowerLaws → (level : Level) (v : Value) → IsNormal v →
    Made level 4 class.Axis class.Order (number_node (codes "ORDER") v)
unfolding BreaksOwn class_named is_keyword
order-argument l level v h =
    a-number class.Order (codes "ORDER") (refl, refl) refl refl (λ item. tt) (λ item fault b. b) refl (omega arith) l
    refl v h

module _ (l : LowerLaws) (level : Level) (t : SystemType) (shared : Option UnitParts) (k : ℕ) (x : AxisParts) (f : Fits t shared x) (low : 1 ≤ k) (high : k ≤ 3) where
  abbrev kind-asked : UnitKind
  kind-asked = asked_kind t x.direction

  abbrev axis_arguments : List (Argument level 4 class.Axis)
  axis_arguments =
      text-of x.name f.axis.name ∷ one-of (word-made level 4
      class.Axis (direction_word x.direction) (direction-letters x.direction) (x.direction, refl)) ∷
      may-of class.AxisMeridian item_axis_meridian (norm_axis_meridians level x.meridian)
      (axis-meridians-made l level x.meridian f.axis.meridian) ∷
      one-of (order-argument l level (whole_value k) (whole-normal k low high)) ∷
      one-of (unit-argument l kind-asked f.unit (omega arith) (axis-names kind-asked (asked-in t x.direction))
      (asked-in t x.direction) f.suits) ∷
      ids-of l x.identifiers (omega arith) (keyword-names class.Axis (codes "ID")) f.axis.identifiers ∷ []

  axis-laid : More (text_item x.name) (axis_others level kind-asked k x (own_or x.unit shared)) ≡ lay axis_arguments
  axis-laid = ap (λ w. More (text_item x.name) (axis_others level kind-asked k x w)) f.given_unit

pub axis-made : LowerLaws → (level : Level) (s : SystemParts) (k : ℕ) (x : AxisParts) →
    Fits s.system_type s.unit x → 1 ≤ k → k ≤ 3 → (p : ℕ) →
    IsAcceptedNormal level class.Axis 5 (at_place p (item_axis (norm_axis level s k x)))
unfolding BreaksOwn is_keyword norm_axis
axis-made l level s k x f low high =
    made-of level 4 class.Axis (codes "AXIS") _ _ (axis_arguments l level s.system_type s.unit k x f low high)
    (axis-laid l level s.system_type s.unit k x f low high) (refl, refl) refl refl refl
    (ids-orderly level x.identifiers) (λ item v r. tt)
    (λ item fault v. known-direction x.direction (those class.Axis class.Word (arguments item)) fault
    (v.view class.Word))

-- what is in an axis at a position, as the checks of a system see it
pub record IsAxisItem (t : SystemType) (k : ℕ) (item : Item) : Type 0 where
  pub direction_in : Direction
  pub unit_in : UnitParts
  pub words : ArePlaced (those class.Axis class.Word (arguments item)) (word_item (direction_word direction_in) ∷ [])
  pub orders : ArePlaced (orders_in item) (number_node (codes "ORDER") (whole_value k) ∷ [])
  pub units : ArePlaced (units_in item) (item_unit unit_in ∷ [])
  pub kind : unit_in.kind ≡ asked_kind t direction_in

pub axis-seen : LowerLaws → (level : Level) (s : SystemParts) (k : ℕ) (x : AxisParts) →
    Fits s.system_type s.unit x → 1 ≤ k → k ≤ 3 → (p : ℕ) →
    IsAxisItem s.system_type k (at_place p (item_axis (norm_axis level s k x)))
unfolding norm_axis
axis-seen l level s k x f low high p =
    let asked : UnitKind = asked_kind s.system_type x.direction in
    let look = arguments-seen level 4 class.Axis (codes "AXIS") _ _
    (axis_arguments l level s.system_type s.unit k x f low high)
    (axis-laid l level s.system_type s.unit k x f low high) p in
    record {
      direction_in = x.direction;
      unit_in = norm_unit level asked f.unit;
      words = look.view class.Word;
      orders = look.view class.Order;
      units = look.view class.AxisUnit;
      kind = suits-kind asked f.unit.kind f.suits.1;
    }
