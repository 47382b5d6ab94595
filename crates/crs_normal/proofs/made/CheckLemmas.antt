-- A system that is made breaks no check, and its axes are normal.
use Rattle.std.proofs.Common.{◌≡◌, ◌⊎◌, ℕ, ◌+◌, ◌<◌, ◌≤◌, ◌++◌, List, [], ◌∷◌, length, map, codes, decimal, inl, inr, refl, sym, ap, subst, ◌∙◌, arith}
use Rattle.std.proofs.Math.Logic.{⊎_elim}
use Rattle.std.proofs.lemmas.List.{append-nil}
use Rattle.crs_decimal.specs.inner.Prelude.{SameNumber, whole_number, Value, IsNormal, exact}
use Rattle.crs_text.specs.inner.Prelude.{Item, arguments, RefusedAt, at_place}
use Rattle.crs_shape.specs.declared.class.Class.{Class}
use Rattle.crs_shape.specs.declared.class.Class.TheVariants as class
use Rattle.crs_shape.specs.declared.direction.Direction.{Direction}
use Rattle.crs_shape.specs.declared.system_type.SystemType.{SystemType}
use Rattle.crs_shape.specs.inner.Prelude.{IsOneOf, asked_kind, direction_word, system_word}
use Rattle.crs_value.specs.inner.Prelude.{BadOrder, BadOrders, IsBadOrder, IsPosition, LacksOrder, OneHas, ReadsOrder, orders_in, BadOwnUnit, Misfits, units_in, AnyOf, BadSystems, OfHead, ReadsFirst, those, SystemParts, ReadsDirection, ReadsKind, ReadsNumber, ReadsType}
use Rattle.crs_value.specs.Sound.{Each}
use Rattle.crs_normal.specs.inner.LowerLaws.{LowerLaws}
use Rattle.crs_normal.specs.Normal.{AreOrdered, Has, HasAxes, numbers_in}
use Rattle.crs_normal.specs.inner.Prelude.{number_item, number_node, word_item, item_unit, whole_value}
use Rattle.crs_normal.proofs.read.ViewLemmas.{each-so}
use Rattle.crs_normal.proofs.made.AxisLemmas.{IsAxisItem, whole-normal}
use Rattle.crs_normal.proofs.made.PartLemmas.{placed-some}
use Rattle.crs_normal.proofs.made.PlaceLemmas.{ArePlaced, none-of, same-of}
use Rattle.crs_normal.proofs.made.SystemLemmas.{AreAxisItems, IsHeadItem}
use Rattle.crs_normal.proofs.made.IdentLemmas.{reads-one}
use Rattle.crs_normal.proofs.texts.WordFormLemmas.{direction-one, type-one}

-- ---- what is read is what was written

pub word-type : (t v : SystemType) (words : List Item) → ArePlaced words (word_item (system_word t) ∷ []) →
    ReadsFirst ReadsType words v → t ≡ v
word-type t v [] p r = absurd p
word-type t v (x ∷ words) p r = type-one t v (subst (λ i. ReadsType i v) p.0.1 r)

word-direction : (d v : Direction) (words : List Item) → ArePlaced words (word_item (direction_word d) ∷ []) →
    ReadsFirst ReadsDirection words v → d ≡ v
word-direction d v [] p r = absurd p
word-direction d v (x ∷ words) p r = direction-one d v (subst (λ i. ReadsDirection i v) p.0.1 r)

pub first-number : LowerLaws → (v value : Value) (numbers : List Item) → IsNormal v →
    ArePlaced numbers (number_item v ∷ []) →
    ReadsFirst ReadsNumber numbers value → value ≡ v
first-number l v value [] n p r = absurd p
first-number l v value (x ∷ numbers) n p r = reads-one l v value x p.0.0 n p.0.1 r

order-number : LowerLaws → (v value : Value) (order : Item) (p : ℕ) → IsNormal v →
    order ≡ at_place p (number_node (codes "ORDER") v) →
    ReadsOrder order value → value ≡ v
order-number l v value order p n e r =
    first-number l v value (those class.Order class.Number (arguments (at_place p (number_node (codes "ORDER") v)))) n
    ((p + length (codes "ORDER") + 1, refl), tt) (subst (λ o. ReadsOrder o value) e r)

first-order : LowerLaws → (v value : Value) (orders : List Item) → IsNormal v →
    ArePlaced orders (number_node (codes "ORDER") v ∷ []) →
    ReadsFirst ReadsOrder orders value → value ≡ v
first-order l v value [] n p r = absurd p
first-order l v value (o ∷ orders) n p r = order-number l v value o p.0.0 n p.0.1 r

-- ---- the node `CS`

no-bad-head : LowerLaws → (dimensions : SystemType →
    List ℕ) (t : SystemType) (d : Value) (axes : List Item) (cs : Item) (fault : RefusedAt) →
    IsNormal d → IsHeadItem t d cs → IsOneOf d (dimensions t) → SameNumber (exact d) (whole_number (length axes)) →
    ¬ (OfHead dimensions axes cs fault)
no-bad-head l dimensions t d axes cs fault n h one same (inl b) =
    let e : t ≡ b.1.0 = word-type t b.1.0 (those class.CoordinateSystem class.Word (arguments cs)) h.words b.1.1.1.0 in
    let f : b.1.1.0 ≡ d = first-number l d b.1.1.0 (those class.CoordinateSystem class.Number (arguments cs))
    n h.numbers b.1.1.1.1 in
    b.1.1.1.2 (subst (λ v. IsOneOf v (dimensions b.1.0)) (sym f) (subst (λ u. IsOneOf d (dimensions u)) e one))
no-bad-head l dimensions t d axes cs fault n h one same (inr b) =
    let f : b.1.0 ≡ d = first-number l d b.1.0 (those class.CoordinateSystem class.Number (arguments cs)) n h.numbers
    b.1.1.0 in
    b.1.1.1 (subst (λ v. SameNumber (exact v) (whole_number (length axes))) (sym f) same)

-- ---- orders

none-lacks : (t : SystemType) (k : ℕ) (axes : List Item) (fault : RefusedAt) → AreAxisItems t k axes →
    ¬ (AnyOf LacksOrder axes fault)
none-lacks t k [] fault h b = b
none-lacks t k (x ∷ axes) fault h (inl b) = placed-some (orders_in x) [] (number_node (codes "ORDER") (whole_value k))
    h.0.orders b.1
none-lacks t k (x ∷ axes) fault h (inr b) = none-lacks t (k + 1) axes fault h.1 b

-- an axis with an order below this
record IsBefore (k : ℕ) (item : Item) : Type 0 where
  order : ℕ
  low : 1 ≤ order
  below : order < k
  orders : ArePlaced (orders_in item) (number_node (codes "ORDER") (whole_value order) ∷ [])

all-before : (k : ℕ) (items : List Item) → Each (IsBefore k) items → Each (IsBefore (k + 1)) items
all-before k =
    each-so (IsBefore k) (IsBefore (k + 1)) (λ x b.
    record { order = b.order; low = b.low; below = omega arith; orders = b.orders })

and-this : (P : Item → Type 0) (items : List Item) (x : Item) → Each P items → P x → Each P (items ++ x ∷ [])
and-this P [] x h p = (p, tt)
and-this P (y ∷ items) x h p = (h.0, and-this P items x h.1 p)

none-has : LowerLaws → (k : ℕ) (before : List Item) → k ≤ 3 → Each (IsBefore k) before →
    ¬ (OneHas (whole_value k) before)
none-has l k [] high h b = b
none-has l k (x ∷ before) high h (inl b) =
    let e : whole_value k ≡ whole_value h.0.order =
    first-order l (whole_value h.0.order) (whole_value k) (orders_in x)
    (whole-normal h.0.order h.0.low (omega arith)) h.0.orders b in
    let f : k ≡ h.0.order = ap (λ v. v.digits) e in
    absurd (omega arith)
none-has l k (x ∷ before) high h (inr b) = none-has l k before high h.1 b

no-wrong-order : LowerLaws → (n k : ℕ) (before orders : List Item) (fault : RefusedAt) → 1 ≤ k → k ≤ n → n ≤ 3 →
    Each (IsBefore k) before →
    ArePlaced orders (number_node (codes "ORDER") (whole_value k) ∷ []) → ¬ (AnyOf (IsBadOrder n before) orders fault)
no-wrong-order l n k before orders fault low high few h placed =
    let small : k ≤ 3 = omega arith in
    none-of (IsBadOrder n before) orders (number_node (codes "ORDER") (whole_value k) ∷ []) fault placed (
      λ p b.
          let e : b.1.0 ≡ whole_value k = order-number l (whole_value k) b.1.0 _ p (whole-normal k low small) refl
          b.1.1.0 in
          ⊎_elim (λ q. q (k, (low, high, (refl, inl refl)))) (none-has l k before small h)
          (subst (λ v. ¬ (IsPosition n v) ⊎ OneHas v before) e b.1.1.1),
      tt,
    )

no-bad-orders : LowerLaws → (t : SystemType) (n k : ℕ) (before axes : List Item) (fault : RefusedAt) →
    AreAxisItems t k axes → Each (IsBefore k) before →
    1 ≤ k → k + length axes ≤ n + 1 → n ≤ 3 → ¬ (BadOrders n before axes fault)
no-bad-orders l t n k before [] fault h g low high few b = b
no-bad-orders l t n k before (x ∷ axes) fault h g low high few (inl b) =
    no-wrong-order l n k before (orders_in x) fault low (omega arith) few g h.0.orders b
no-bad-orders l t n k before (x ∷ axes) fault h g low high few (inr b) =
    no-bad-orders l t n (k + 1) (before ++ x ∷ []) axes fault h.1
    (and-this (IsBefore (k + 1)) before x (all-before k before g)
    (record { order = k; low = low; below = omega arith; orders = h.0.orders }))
    (omega arith) (omega arith) few b

no-bad-order : LowerLaws → (t : SystemType) (axes : List Item) (fault : RefusedAt) → AreAxisItems t 1 axes →
    length axes ≤ 3 → ¬ (BadOrder axes fault)
no-bad-order l t axes fault h few (inl b) = none-lacks t 1 axes fault h b.1
no-bad-order l t axes fault h few (inr b) = no-bad-orders l t (length axes) 1 [] axes fault h tt (omega arith)
    (omega arith) few b.1

-- ---- units

no-misfit : (t : SystemType) (d : Value) (k : ℕ) (cs axis : Item) (units : List Item) (fault : RefusedAt) →
    IsHeadItem t d cs → (a : IsAxisItem t k axis) →
    ArePlaced units (item_unit a.unit_in ∷ []) → ¬ (AnyOf (Misfits cs axis) units fault)
no-misfit t d k cs axis units fault h a placed =
    none-of (Misfits cs axis) units (item_unit a.unit_in ∷ []) fault placed (
      λ p b.
          let asks = b.1.1.0 in
          let e : t ≡ asks.0 = word-type t asks.0 (those class.CoordinateSystem class.Word (arguments cs))
          h.words asks.1.1.0 in
          let f : a.direction_in ≡ asks.1.0 = word-direction a.direction_in asks.1.0 (those class.Axis class.Word
          (arguments axis)) a.words asks.1.1.1 in
          let g : a.unit_in.kind ≡ b.1.0 =
          a.kind ∙ ap (λ v. asked_kind v a.direction_in) e ∙ ap (asked_kind asks.0) f ∙ sym asks.1.1.2 in
          b.1.1.1 (inr (subst (ReadsKind (at_place p (item_unit a.unit_in))) g refl)),
      tt,
    )

no-own-misfit : (t : SystemType) (d : Value) (k : ℕ) (cs : Item) (axes : List Item) (fault : RefusedAt) →
    IsHeadItem t d cs → AreAxisItems t k axes →
    ¬ (AnyOf (BadOwnUnit cs) axes fault)
no-own-misfit t d k cs [] fault h a b = b
no-own-misfit t d k cs (x ∷ axes) fault h a (inl (inl b)) = placed-some (units_in x) [] (item_unit a.0.unit_in)
    a.0.units b.1
no-own-misfit t d k cs (x ∷ axes) fault h a (inl (inr b)) = no-misfit t d k cs x (units_in x) fault h a.0 a.0.units b
no-own-misfit t d k cs (x ∷ axes) fault h a (inr b) = no-own-misfit t d (k + 1) cs axes fault h a.1 b

-- ---- a system

-- the nodes `CS`, the axes and the shared units of a CRS, as the checks see them
pub record IsSystemSeen (t : SystemType) (d : Value) (systems axes units : List Item) : Type 0 where
  pub head : Item
  pub is_head : IsHeadItem t d head
  pub systems_are : systems ≡ head ∷ []
  pub axes_are : AreAxisItems t 1 axes
  pub few : length axes ≤ 3
  pub count : SameNumber (exact d) (whole_number (length axes))
  pub none_shared : units ≡ []

-- those of a CRS of this class, whose system is this
abbrev pub IsSystemIn : SystemParts → Class → Item → Type 0
IsSystemIn s c item =
    IsSystemSeen s.system_type s.dimension (those c class.CoordinateSystem (arguments item))
    (those c class.Axis (arguments item)) (those c class.AxisUnit (arguments item))

pub no-bad-systems : LowerLaws →
    (dimensions : SystemType → List ℕ) (t : SystemType) (d : Value) (systems axes units : List Item) (fault : RefusedAt) →
    IsNormal d → IsOneOf d (dimensions t) → IsSystemSeen t d systems axes units →
    ¬ (BadSystems dimensions systems axes units fault)
no-bad-systems l dimensions t d systems axes units fault n one s b =
    by (rw (s.none_shared, s.systems_are) at b)
  where
    by : ¬ (BadSystems dimensions (s.head ∷ []) axes [] fault)
    by (inl (inl q)) = no-bad-head l dimensions t d axes s.head fault n s.is_head one s.count q
    by (inl (inr q)) = q
    by (inr (inl q)) = no-bad-order l t axes fault s.axes_are s.few q
    by (inr (inr (inl q))) = no-own-misfit t d 1 s.head axes fault s.is_head s.axes_are q
    by (inr (inr (inr q))) = q

-- ---- normal axes

numbers-of : (k : ℕ) (orders : List Item) → ArePlaced orders (number_node (codes "ORDER") (whole_value k) ∷ []) →
    map (numbers_in class.Order) orders ≡ (decimal k ∷ []) ∷ []
numbers-of k orders p =
    same-of (numbers_in class.Order) orders (number_node (codes "ORDER") (whole_value k) ∷ []) p (λ place. refl, tt)
    ∙ ap (λ raw. (raw ∷ []) ∷ []) (append-nil (decimal k))

ordered : (t : SystemType) (k : ℕ) (axes : List Item) → AreAxisItems t k axes → AreOrdered k axes
ordered t k [] h = tt
ordered t k (x ∷ axes) h = (numbers-of k (orders_in x) h.0.orders, ordered t (k + 1) axes h.1)

own-units : (t : SystemType) (k : ℕ) (axes : List Item) → AreAxisItems t k axes →
    Each (Has class.Axis class.AxisUnit) axes
own-units t k [] h = tt
own-units t k (x ∷ axes) h =
    (placed-some (units_in x) [] (item_unit h.0.unit_in) h.0.units, own-units t (k + 1) axes h.1)

pub has-axes : (c : Class) (item : Item) (s : SystemParts) → IsSystemIn s c item → HasAxes c item
has-axes c item s seen = record {
  ordered = ordered s.system_type 1 (those c class.Axis (arguments item)) seen.axes_are;
  own_units = own-units s.system_type 1 (those c class.Axis (arguments item)) seen.axes_are;
  none_shared = seen.none_shared;
}
