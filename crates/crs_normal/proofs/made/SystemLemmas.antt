-- The axes of a system at their positions, and its node `CS`, are made.
use Rattle.std.proofs.Common.{◌≡◌, ℕ, zero, suc, ◌+◌, ◌≤◌, Bool, true, false, Option, Some, None, List, [], ◌∷◌, length, map, codes, decimal, IfSome, if◌then◌else◌, inl, inr, refl, sym, ap, subst, ◌∙◌, arith}
use Rattle.std.specs.Prelude.{IsSomeAnd, ⊤}
use Rattle.std.proofs.lemmas.Bool.Decides.{Decides-eqb}
use Rattle.std.proofs.lemmas.List.{append-nil}
use Rattle.std.proofs.lemmas.Slice.Eq.{bytes_eq-Decides}
use Rattle.crs_decimal.specs.inner.Prelude.{plain, Value, IsNormal}
use Rattle.crs_text.specs.inner.Prelude.{Item, arguments, RefusedAt, at_place, IsWord}
use Rattle.crs_shape.specs.declared.class.Class.{Class}
use Rattle.crs_shape.specs.declared.class.Class.TheVariants as class
use Rattle.crs_shape.specs.declared.system_type.SystemType.{SystemType}
use Rattle.crs_shape.specs.declared.system_type.SystemType.TheVariants as types
use Rattle.crs_shape.specs.inner.Prelude.{is_keyword, class_named, asked_kind, system_word}
use Rattle.crs_value.specs.inner.Prelude.{UnknownType, AnyOf, those, IsAxis, IsAxisUnit, Suits, HasUnits, IsSystem, SuitsAxis, AxisParts, SystemParts, UnitParts, Own as BreaksOwn}
use Rattle.crs_value.specs.declared.values.level.Level.{Level}
use Rattle.crs_value.specs.Sound.{Each}
use Rattle.crs_same.specs.inner.Prelude.{HasAt, IsPositionOf, own_or}
use Rattle.crs_normal.specs.inner.LowerLaws.{LowerLaws}
use Rattle.crs_normal.specs.inner.Prelude.{number_item, word_item, axes_from, axis_at, is_at, item_axis, item_head, norm_axis, norm_system, whole_value}
use Rattle.crs_normal.proofs.made.AxisLemmas.{Fits, IsAxisItem, axis-made, axis-seen, whole-normal}
use Rattle.crs_normal.proofs.made.ArgumentLemmas.{Argument, arguments-seen, made-of, number-of, one-of}
use Rattle.crs_normal.proofs.made.IdentLemmas.{ids-of, ids-orderly}
use Rattle.crs_normal.proofs.made.LeafLemmas.{word-made}
use Rattle.crs_normal.proofs.made.NodeLemmas.{IsAcceptedNormal, Made, as-argument}
use Rattle.crs_normal.proofs.made.PlaceLemmas.{ArePlaced, none-of}
use Rattle.crs_normal.proofs.read.ViewLemmas.{both, keyword-names}

-- ---- each axis has a unit that fits

own-fit : (t : SystemType) (x : AxisParts) → IsAxis x → IsSomeAnd x.unit (SuitsAxis t x) → Fits t None x
own-fit t x a s = by x.unit refl s a.unit
  where
    by : (w : Option UnitParts) → x.unit ≡ w → IsSomeAnd w (SuitsAxis t x) → IfSome w IsAxisUnit → Fits t None x
    by None e s h = absurd s
    by (Some u) e s h = record { axis = a; unit = u; given_unit = ap (λ w. own_or w None) e; suits = (h.0, s) }

fits : (t : SystemType) (xs : List AxisParts) (shared : Option UnitParts) → Each IsAxis xs →
    IfSome shared IsAxisUnit → HasUnits t xs shared →
    Each (Fits t shared) xs
fits t xs None a h u = both (own-fit t) xs a u
fits t xs (Some shared) a h u =
    both (λ x p q. record {
      axis = p;
      unit = shared;
      given_unit = ap (λ w. own_or w (Some shared)) q.0;
      suits = (h.0, subst (λ asked. Suits asked shared.kind) (sym q.1) u.1.1.1);
    }) xs a (both {R = λ x. (x.unit ≡ None) × (asked_kind t x.direction ≡ u.1.0)} (λ x n k. (n, k)) xs u.0 u.1.1.0)

-- ---- the axis at a position

at-true : LowerLaws → (k place : ℕ) (order : Option Value) → IsNormal (whole_value k) → IfSome order IsNormal →
    IsPositionOf k place order →
    is_at k place order ≡ true
at-true l k place None n h e = (Decides-eqb place k).1 e
at-true l k place (Some v) n h e =
    let same : v ≡ whole_value k = (l.normal_is_one v (whole_value k) h n).0 e in
    (bytes_eq-Decides (plain v) (decimal k)).1 (ap plain same ∙ append-nil (decimal k))

found : LowerLaws → (k place : ℕ) (xs : List AxisParts) → IsNormal (whole_value k) → Each IsAxis xs →
    HasAt k (λ axis. ⊤) place xs →
    (x : AxisParts) × (axis_at k place xs ≡ Some x)
found l k place [] n a h = absurd h
found l k place (x ∷ xs) n a (inl h) =
    (x, ap (λ b. if b then Some x else axis_at k (place + 1) xs) (at-true l k place x.order n a.0.order h.0))
found l k place (x ∷ xs) n a (inr h) = by (is_at k place x.order) (found l k (place + 1) xs n a.1 h)
  where
    by : (b : Bool) → ((y : AxisParts) × (axis_at k (place + 1) xs ≡ Some y)) →
        (y : AxisParts) × ((if b then Some x else axis_at k (place + 1) xs) ≡ Some y)
    by true later = (x, refl)
    by false later = later

-- what holds of all axes holds of the one at a position
pub at-all : (P : AxisParts → Type 0) (k place : ℕ) (xs : List AxisParts) → Each P xs → IfSome (axis_at k place xs) P
at-all P k place [] h = tt
at-all P k place (x ∷ xs) h = by (is_at k place x.order) (at-all P k (place + 1) xs h.1)
  where
    by : (b : Bool) → IfSome (axis_at k (place + 1) xs) P → IfSome (if b then Some x else axis_at k (place + 1) xs) P
    by true later = h.0
    by false later = later

-- these are axes of the system at the positions from k on
abbrev pub AreAxes : Level → SystemParts → ℕ → List AxisParts → Type 0
AreAxes level s k [] = Unit {0}
AreAxes level s k (a ∷ rest) = ((x : AxisParts) × (Fits s.system_type s.unit x × (a ≡ norm_axis level s k x)))
    × AreAxes level s (k + 1) rest

-- each position of the system has an axis
abbrev pub HasEach : SystemParts → Type 0
HasEach s = (k : ℕ) → 1 ≤ k → k ≤ length s.axes → HasAt k (λ axis. ⊤) 1 s.axes

-- a system with few axes
pub record IsFew (s : SystemParts) : Type 0 where
  pub system : IsSystem s
  pub each_at : HasEach s
  pub few : length s.axes ≤ 3

module _ (l : LowerLaws) (level : Level) (s : SystemParts) (h : IsFew s) where
  axis-found : (k : ℕ) → 1 ≤ k → k ≤ length s.axes →
      (x : AxisParts) × (Fits s.system_type s.unit x × (axis_at k 1 s.axes ≡ Some x))
  axis-found k low high =
      let all = fits s.system_type s.axes s.unit h.system.axes h.system.unit h.system.units in
      let f = found l k 1 s.axes (whole-normal k low (omega arith)) h.system.axes (h.each_at k low high) in
      let fit = subst (λ o. IfSome o (Fits s.system_type s.unit)) f.1 (at-all (Fits s.system_type s.unit) k 1 s.axes all) in
      (f.0, (fit, f.1))

  axes-are : (m k : ℕ) → 1 ≤ k → k + m ≤ length s.axes + 1 →
      AreAxes level s k (axes_from level s k m) × (length (axes_from level s k m) ≡ m)
  axes-are zero k low high = (tt, refl)
  axes-are (suc m) k low high =
      let f = axis-found k low (omega arith) in
      let rest = axes-are m (k + 1) (omega arith) (omega arith) in
      rw f.1.1 (((f.0, (f.1.0, refl)), rest.0), ap suc rest.1)

  -- all of them, as many as there are positions
  pub all-axes : AreAxes level s 1 (axes_from level s 1 (length s.axes))
      × (length (axes_from level s 1 (length s.axes)) ≡ length s.axes)
  all-axes = axes-are (length s.axes) 1 (omega arith) (omega arith)

pub axes-made : LowerLaws → (level : Level) (s : SystemParts) (most : ℕ) (parent : Class) (k : ℕ)
    (rest : List AxisParts) → 5 ≤ most →
    class_named parent (codes "AXIS") ≡ Some class.Axis → AreAxes level s k rest → 1 ≤ k → k + length rest ≤ 4 →
    Each (Made level most parent class.Axis) (map item_axis rest)
unfolding norm_axis
axes-made l level s most parent k [] deep named h low high = tt
axes-made l level s most parent k (a ∷ rest) deep named h low high = (
  subst (λ b. Made level most parent class.Axis (item_axis b)) (sym h.0.1.1)
      (as-argument deep named (axis-made l level s k h.0.0 h.0.1.0 low (omega arith))),
  axes-made l level s most parent (k + 1) rest deep named h.1 (omega arith) (omega arith),
)

-- these items are axes with the orders from k on
abbrev pub AreAxisItems : SystemType → ℕ → List Item → Type 0
AreAxisItems t k [] = Unit {0}
AreAxisItems t k (item ∷ items) = IsAxisItem t k item × AreAxisItems t (k + 1) items

pub axes-seen : LowerLaws → (level : Level) (s : SystemParts) (k : ℕ) (items : List Item) (rest : List AxisParts) →
    ArePlaced items (map item_axis rest) →
    AreAxes level s k rest → 1 ≤ k → k + length rest ≤ 4 → AreAxisItems s.system_type k items
axes-seen l level s k [] [] p h low high = tt
axes-seen l level s k [] (a ∷ rest) p h low high = tt
axes-seen l level s k (item ∷ items) [] p h low high = absurd p
axes-seen l level s k (item ∷ items) (a ∷ rest) p h low high = (
  subst (IsAxisItem s.system_type k) (sym (p.0.1 ∙ ap (λ b. at_place p.0.0 (item_axis b)) h.0.1.1))
      (axis-seen l level s k h.0.0 h.0.1.0 low (omega arith) p.0.0),
  axes-seen l level s (k + 1) items rest p.1 h.1 (omega arith) (omega arith),
)

-- ---- the node `CS`

system-letters : (t : SystemType) → IsWord (system_word t)
system-letters types.Cartesian = (refl, refl)
system-letters other = (refl, refl)

abbrev head_arguments : LowerLaws → (level : Level) (s : SystemParts) → IsSystem s →
    List (Argument level 2 class.CoordinateSystem)
head_arguments l level s h =
    one-of (word-made level 2 class.CoordinateSystem (system_word s.system_type) (system-letters s.system_type)
    (s.system_type, refl)) ∷
    number-of l s.dimension h.dimension ∷
    ids-of l s.identifiers (omega arith) (keyword-names class.CoordinateSystem (codes "ID")) h.identifiers ∷ []

known-type : (t : SystemType) (words : List Item) (fault : RefusedAt) →
    ArePlaced words (word_item (system_word t) ∷ []) → ¬ (AnyOf UnknownType words fault)
known-type t words fault h =
    none-of UnknownType words (word_item (system_word t) ∷ []) fault h (λ p b. b.1 t refl, tt)

pub head-made : LowerLaws → (level : Level) (s : SystemParts) → IsSystem s → (p : ℕ) →
    IsAcceptedNormal level class.CoordinateSystem 3 (at_place p (item_head (norm_system level s)))
unfolding BreaksOwn is_keyword
head-made l level s h =
    made-of level 2 class.CoordinateSystem (codes "CS") _ _ (head_arguments l level s h) refl (refl, refl) refl refl refl
    (ids-orderly level s.identifiers)
    (λ item v r. tt) (λ item fault v b. known-type s.system_type
    (those class.CoordinateSystem class.Word (arguments item)) fault (v.view class.Word) b)

-- what is in a node `CS`, as the checks of a system see it
pub record IsHeadItem (t : SystemType) (dimension : Value) (item : Item) : Type 0 where
  pub words : ArePlaced (those class.CoordinateSystem class.Word (arguments item)) (word_item (system_word t) ∷ [])
  pub numbers : ArePlaced (those class.CoordinateSystem class.Number (arguments item)) (number_item dimension ∷ [])

pub head-seen : LowerLaws → (level : Level) (s : SystemParts) → IsSystem s → (p : ℕ) →
    IsHeadItem s.system_type s.dimension (at_place p (item_head (norm_system level s)))
head-seen l level s h p =
    let look = arguments-seen level 2 class.CoordinateSystem (codes "CS") _ _ (head_arguments l level s h) refl p in
    record { words = look.view class.Word; numbers = look.view class.Number }
