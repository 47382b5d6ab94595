-- Boxes, extents, usages, and what CRSs have after their other parts, are made.
use Rattle.std.proofs.Common.{◌≡◌, ◌≢◌, ℕ, suc, Some, List, [], ◌∷◌, codes, refl, arith, IsTrue, true, ◌≤◌, ◌++◌, Option, None, map, drop, IfSome, ap, length, sym, subst, ◌∙◌}
use Rattle.crs_text.specs.inner.Prelude.{Item, Siblings, End, More, arguments, IsNode, at_place, RefusedAt, IsWord, item_text}
use Rattle.crs_shape.specs.declared.class.Class.{Class}
use Rattle.crs_shape.specs.inner.Prelude.{is_keyword, class_in, class_named, slots_of, IsOneOf}
use Rattle.crs_value.specs.declared.values.level.Level.{Level}
use Rattle.crs_value.specs.inner.Prelude.{those, IsBox, IsExtent, IsUsage, BoxParts, ExtentParts, SaysSome, UsageParts, Own as BreaksOwn, once, kept, kept_one, kept-each, kept-if_some, kept-made, kept-made_one, RepeatsAny, IsText, IsTail, TailParts, IsSystem, SystemParts}
use Rattle.crs_normal.specs.inner.LowerLaws.{LowerLaws}
use Rattle.crs_normal.specs.inner.Prelude.{node_from, item_unit, norm_length, item_box, item_extent, item_usage, norm_extent, norm_usage, in_order, text_node, set_usages, axes_from, item_axis, item_head, norm_system}
use Rattle.crs_normal.proofs.made.PartLemmas.{length-argument, placed-some}
use Rattle.crs_normal.proofs.made.NodeLemmas.{IsAcceptedNormal, IsOrderly, as-argument, none-orderly, Made, Run, given, alone, items_in}
use Rattle.crs_normal.proofs.made.ArgumentLemmas.{Argument, as_runs, fit, lay, made-of, may-of, may-text, number-of, one-of, may-node, each-of, a-text, node-of}
use Rattle.crs_normal.specs.Normal.{IsFirstKeyword, HasOwnForm, Ascend, HasTail, Rise, Lacks, bare_classes}
use Rattle.crs_normal.proofs.texts.ItemLemmas.{from-named, from-some}
use Rattle.crs_normal.proofs.members.MemberLemmas.{says-kept, usage-is-node, usage_items}
use Rattle.crs_normal.proofs.texts.SegmentLemmas.{some-imp, placed-none}
use Rattle.crs_value.specs.Sound.{Each}
use Rattle.crs_same.specs.inner.Prelude.{usages_of, with_bare}
use Rattle.crs_normal.proofs.made.AscendLemmas.{set-ascends, set-each}
use Rattle.crs_normal.proofs.made.FrameLemmas.{none-repeats, given-once}
use Rattle.crs_normal.proofs.made.IdentLemmas.{identifiers-ascend, identifiers-left, ids-of, ids_run}
use Rattle.crs_normal.proofs.read.ViewLemmas.{each-so, keyword-names}
use Rattle.std.proofs.lemmas.List.{append-nil, length-map, nil_from_length}
use Rattle.crs_decimal.specs.inner.Prelude.{SameNumber, whole_number, exact}
use Rattle.crs_shape.specs.declared.system_type.SystemType.{SystemType}
use Rattle.crs_normal.proofs.made.CheckLemmas.{IsSystemIn, IsSystemSeen}
use Rattle.crs_normal.proofs.made.PlaceLemmas.{ArePlaced}
use Rattle.crs_normal.proofs.made.SystemLemmas.{IsHeadItem, all-axes, axes-made, axes-seen, head-made, head-seen, IsFew}
use Rattle.crs_normal.proofs.normal.DimensionLemmas.{few-axes}
use Rattle.crs_shape.specs.declared.class.Class.TheVariants as class
use Rattle.crs_value.specs.declared.values.level.Level.TheVariants as levels

-- ---- boxes

pub box-made : LowerLaws → (level : Level) (b : BoxParts) → IsBox b → (p : ℕ) →
    IsAcceptedNormal level class.BoundingBox 1 (at_place p (item_box b))
unfolding BreaksOwn class_named is_keyword
box-made l level b h =
    made-of level 0 class.BoundingBox (codes "BBOX") _ _ (number-of l b.south h.south ∷ number-of l b.west h.west ∷
    number-of l b.north h.north ∷ number-of l b.east h.east ∷ []) refl (refl, refl) refl refl refl
    (none-orderly level) (λ item s r. tt) (λ item fault s k. k)

-- ---- extents

pub extent-made : LowerLaws → (level : Level) (e : ExtentParts) → IsExtent e → (p : ℕ) →
    IsAcceptedNormal level class.VerticalExtent 4 (at_place p (item_extent (norm_extent level e)))
unfolding BreaksOwn class_named is_keyword
extent-made l level e h =
    made-of level 3 class.VerticalExtent (codes "VERTICALEXTENT") _ _ (number-of l e.minimum h.minimum ∷
    number-of l e.maximum h.maximum ∷ one-of (length-argument l e.unit (omega arith) refl h.unit) ∷ []) refl (refl, refl) refl refl
    refl (none-orderly level)
    (λ item s r. placed-some (those class.VerticalExtent class.LengthUnit (arguments item)) []
    (item_unit (norm_length level e.unit)) (s.view class.LengthUnit)) (λ item fault s k. k)

-- ---- usages

-- a node that has an argument, whichever is its first
from-made : (level : Level) (most : ℕ) (c : Class) (keyword : List ℕ) (js : Siblings)
    (all : List (Argument level most c)) → js ≢ End → js ≡ lay all → IsWord keyword → IsTrue (is_keyword c keyword) →
    IsFirstKeyword c keyword → fit (slots_of c) all ≡ true →
    IsOrderly level (as_runs all) →
    ((item : Item) → HasOwnForm c item) → ((item : Item) (fault : RefusedAt) → ¬ (BreaksOwn c item fault)) → (p : ℕ) →
    IsAcceptedNormal level c (suc most) (at_place p (node_from keyword js))
from-made level most c keyword End all some same letters known written fits orderly own unbroken p = absurd (some refl)
from-made level most c keyword (More first others) all some same letters known written fits orderly own unbroken p =
    made-of level most c keyword first others all same letters known written fits orderly (λ item s r. own item)
    (λ item fault s. unbroken item fault) p

usage-node : (u : UsageParts) → SaysSome u → IsNode (item_usage (norm_usage u))
usage-node u s = usage-is-node (norm_usage u) (says-kept u s)

pub usage-made : LowerLaws → (u : UsageParts) → IsUsage u → (p : ℕ) →
    IsAcceptedNormal levels.Full class.Usage 5 (at_place p (item_usage (norm_usage u)))
unfolding BreaksOwn class_named is_keyword
usage-made l u h =
    from-made levels.Full 4 class.Usage (codes "USAGE") (usage_items (norm_usage u)) (may-text class.Scope (codes "SCOPE")
    (refl, refl) refl refl (λ item. tt) (λ item fault b. b) refl (omega arith) refl u.scope h.scope ∷
    may-text class.Area (codes "AREA") (refl, refl) refl refl (λ item. tt) (λ item fault b. b) refl (omega arith) refl
    u.area h.area ∷ may-of class.BoundingBox item_box u.bbox (some-imp IsBox _ (λ b q. as-argument (omega arith) refl
    (box-made l levels.Full b q)) u.bbox h.bbox) ∷
    may-node class.VerticalExtent (norm_extent levels.Full) item_extent u.extent (omega arith) (λ e. refl) h.extent
    (extent-made l levels.Full) ∷ []) (from-some (codes "USAGE") (usage_items (norm_usage u)) (usage-node u h.some)) refl
    (refl, refl) refl refl refl (none-orderly levels.Full) (λ item. tt)
    (λ item fault b. b)

-- a usage that says something is named as one
pub usage-named : (c : Class) (u : UsageParts) → SaysSome u → class_named c (codes "USAGE") ≡ Some class.Usage →
    class_in c (item_usage (norm_usage u)) ≡ Some class.Usage
usage-named c u some named =
    from-named c class.Usage (codes "USAGE") (usage_items (norm_usage u))
    (usage-node u some) named

-- ---- the ends of CRSs are made

-- ---- the usages, the bare parts being one more

pub usages-sound : (t : TailParts) → IsTail t → Each IsUsage (usages_of t)
usages-sound t h = by t.bare_parts h.bare_parts
  where
    by : (bare : Option UsageParts) → IfSome bare IsUsage → Each IsUsage (with_bare bare t.usages)
    by None u = h.usages
    by (Some bare) u = (u, h.usages)

pub usages-made : LowerLaws → (level : Level) (most : ℕ) (parent : Class) (us : List UsageParts) → 5 ≤ most →
    class_named parent (codes "USAGE") ≡ Some class.Usage → Each IsUsage us → Each (Made level most parent class.Usage)
    (map item_usage (set_usages level us))
unfolding set_usages
usages-made l level most parent us deep named h =
    set-each norm_usage item_usage (IsArgument level) (Made level most parent class.Usage) (kept level us)
    (kept-each IsArgument level us (each-so IsUsage (IsArgument levels.Full) argument us h))
    (λ u q. q)
  where
    IsArgument : Level → UsageParts → Type 0
    IsArgument l u = Made l most parent class.Usage (item_usage (norm_usage u))

    argument : (u : UsageParts) → IsUsage u → IsArgument levels.Full u
    argument u q =
        as-argument deep (usage-named parent u q.some named) (usage-made l u q)

usages-ascend : (level : Level) (us : List UsageParts) → Ascend (map item_usage (set_usages level us) ++ [])
unfolding set_usages
usages-ascend level us = set-ascends item_usage (map norm_usage (kept level us))

-- ---- the end of a CRS

abbrev pub remark_items : Level → TailParts → List Item
remark_items level t = given (text_node (codes "REMARK")) (kept_one level t.remark)

abbrev pub tail_runs : Level → TailParts → List Run
tail_runs level t =
    record { of = class.Usage; items = map item_usage (set_usages level (usages_of t)) } ∷ ids_run level t.identifiers ∷
    record { of = class.Remark; items = remark_items level t } ∷ []

-- a class of CRS names the nodes of its end
pub record NamesTail (c : Class) : Type 0 where
  pub usage : class_named c (codes "USAGE") ≡ Some class.Usage
  pub ident : class_named c (codes "ID") ≡ Some class.Identifier
  pub remark : class_named c (codes "REMARK") ≡ Some class.Remark

pub compound-names : NamesTail class.CompoundCrs
compound-names = search keyword-names

pub two-of : (most : ℕ) → 5 ≤ most → 2 ≤ most
two-of most deep = omega arith

pub remarks-made : (level : Level) (most : ℕ) (c : Class) (t : TailParts) → 5 ≤ most → NamesTail c → IsTail t →
    IfSome (kept_one level t.remark) (λ raw. Made level most c class.Remark (text_node (codes "REMARK") raw))
unfolding is_keyword BreaksOwn
remarks-made level most c t deep n h =
    let one : 1 ≤ most = omega arith in
    some-imp IsText _
    (a-text class.Remark (codes "REMARK") (refl, refl) refl refl (λ item. tt) (λ item fault b. b) n.remark one refl)
    (kept_one level t.remark) (kept-if_some (λ l. IsText) level t.remark h.remark)

abbrev pub tail_arguments : LowerLaws → (level : Level) (most : ℕ) (c : Class) (t : TailParts) → 5 ≤ most →
    NamesTail c → IsTail t → List (Argument level most c)
tail_arguments l level most c t deep n h =
    each-of class.Usage item_usage (set_usages level (usages_of t)) None
    (usages-made l level most c (usages_of t) deep n.usage (usages-sound t h)) ∷
    ids-of l t.identifiers (two-of most deep) n.ident h.identifiers ∷
    may-of class.Remark (text_node (codes "REMARK")) (kept_one level t.remark) (remarks-made level most c t deep n h) ∷ []

-- the end is in order, and the level keeps all of it
pub tail-orderly : (level : Level) (t : TailParts) → IsOrderly level (tail_runs level t)
unfolding set_usages
tail-orderly level t =
    let usages = kept-made (λ us. map item_usage (in_order (λ u. item_text (item_usage u)) (map norm_usage us)) ++ []) refl
    level (usages_of t) in
    let remarks = kept-made_one (λ remark. given (text_node (codes "REMARK")) remark ++ []) refl level t.remark in (
      (identifiers-ascend level t.identifiers, (usages-ascend level (usages_of t), (tt, (tt, (tt, tt))))),
      ((identifiers-left level t.identifiers, (usages, (remarks, tt))), refl),
    )

-- ---- what the checks see of the end

-- no part of a usage is bare, and there is one remark at most
pub record IsTailSeen (c : Class) (item : Item) : Type 0 where
  pub none_bare : Each (λ d. Lacks c d item) bare_classes
  pub one_remark : drop 1 (those c class.Remark (arguments item)) ≡ []

pub no-repeats : (c : Class) (item : Item) (fault : RefusedAt) → IsTailSeen c item →
    ¬ (RepeatsAny c (arguments item) once fault)
no-repeats c item fault s =
    let b = s.none_bare in
    none-repeats c (arguments item) fault once
    (ap (drop 1) b.0, (ap (drop 1) b.1.0, (ap (drop 1) b.1.1.0, (ap (drop 1) b.1.1.1.0, (s.one_remark, tt)))))

pub has-tail : (c : Class) (item : Item) → Rise c 0 (arguments item) → IsTailSeen c item → HasTail c item
has-tail c item r t = record { in_order = r; none_bare = t.none_bare }

-- ---- what CRSs with a coordinate system have after their other parts is made: the system and the end

pub few-system : LowerLaws → (dimensions : SystemType → List ℕ) →
    ((t : SystemType) → Each (λ m. m ≤ 3) (dimensions t)) →
    (s : SystemParts) → IsSystem s → IsOneOf s.dimension (dimensions s.system_type) → IsFew s
few-system l dimensions small s h one = record {
  system = h;
  each_at = l.some_axis s h;
  few = few-axes l.symmetric l.transitive s.dimension (length s.axes) (dimensions s.system_type) (small s.system_type) one h.count;
}

abbrev pub axis_items : Level → SystemParts → List Item
axis_items level s = map item_axis (axes_from level s 1 (length s.axes))

abbrev pub axes_run : Level → SystemParts → Run
axes_run level s = record { of = class.Axis; items = axis_items level s }

-- the system of a CRS and its end
abbrev pub behind : Level → SystemParts → TailParts → List Run
behind level s t = alone class.CoordinateSystem (item_head (norm_system level s)) ∷ axes_run level s ∷
    tail_runs level t

-- a class of CRS names the nodes of its system
pub record NamesSystem (c : Class) : Type 0 where
  pub head : class_named c (codes "CS") ≡ Some class.CoordinateSystem
  pub axis : class_named c (codes "AXIS") ≡ Some class.Axis

-- what keywords name at the end of a CRS, and of its system
pub record EndNames (c : Class) : Type 0 where
  pub systems : NamesSystem c
  pub tails : NamesTail c

pub projected-names : EndNames class.ProjectedCrs
projected-names = search keyword-names

pub vertical-names : EndNames class.VerticalCrs
vertical-names = search keyword-names

pub axes-argument : LowerLaws → (level : Level) (most : ℕ) (c : Class) (s : SystemParts) → 5 ≤ most →
    NamesSystem c → IsFew s →
    Each (Made level most c class.Axis) (axis_items level s)
axes-argument l level most c s deep n h =
    let all = all-axes l level s h in
    axes-made l level s most c 1 (axes_from level s 1 (length s.axes)) deep n.axis all.0 (omega arith) (omega arith)

pub axes-some : LowerLaws → (level : Level) (s : SystemParts) → IsFew s → axis_items level s ≢ []
axes-some l level s h none =
    h.system.some (nil_from_length s.axes (sym (all-axes l level s h).1
    ∙ sym (length-map (axes_from level s 1 (length s.axes)) item_axis) ∙ ap length none))

pub three-of : (most : ℕ) → 5 ≤ most → 3 ≤ most
three-of most deep = omega arith

abbrev pub behind_arguments : LowerLaws → (level : Level) (most : ℕ) (c : Class) (s : SystemParts)
    (rest : List (Argument level most c)) → 5 ≤ most → NamesSystem c → IsFew s → List (Argument level most c)
behind_arguments l level most c s rest deep n h =
    node-of (item_head (norm_system level s)) (three-of most deep) n.head
    (head-made l level s h.system) ∷
    each-of class.Axis item_axis (axes_from level s 1 (length s.axes)) (Some (axes-some l level s h))
    (axes-argument l level most c s deep n h) ∷ rest

-- ---- what the checks see

-- the classes that the checks of a CRS look for
abbrev pub tail_classes : List Class
tail_classes = class.Scope ∷ class.Area ∷ class.BoundingBox ∷ class.VerticalExtent ∷ class.Remark ∷ []

abbrev pub crs_classes : List Class
crs_classes = class.CoordinateSystem ∷ class.Axis ∷ class.AxisUnit ∷ tail_classes

-- the arguments of a class are those of these runs
abbrev pub Shows : Class → Item → List Run → Class → Type 0
Shows c item runs e = ArePlaced (those c e (arguments item)) (items_in e runs)

pub tail-seen : (level : Level) (c : Class) (item : Item) (t : TailParts) →
    Each (Shows c item (tail_runs level t)) tail_classes → IsTailSeen c item
tail-seen level c item t v = record {
  none_bare = each-so (Shows c item []) (λ e. Lacks c e item) (λ e. placed-none (those c e (arguments item))) bare_classes
      (v.0, (v.1.0, (v.1.1.0, (v.1.1.1.0, tt))));
  one_remark = given-once (text_node (codes "REMARK")) (kept_one level t.remark) (those c class.Remark (arguments item))
      v.1.1.1.1.0;
}

placed-length : (items js : List Item) → ArePlaced items js → length items ≡ length js
placed-length [] [] h = refl
placed-length [] (j ∷ js) h = absurd h
placed-length (x ∷ items) [] h = absurd h
placed-length (x ∷ items) (j ∷ js) h = ap suc (placed-length items js h.1)

system-of : LowerLaws → (level : Level) (s : SystemParts) (systems axes units : List Item) → IsFew s →
    ArePlaced systems (item_head (norm_system level s) ∷ []) → ArePlaced axes (axis_items level s) → units ≡ [] →
    IsSystemSeen s.system_type s.dimension systems axes units
system-of l level s [] axes units h p q none = absurd p
system-of l level s (x ∷ y ∷ systems) axes units h p q none = absurd p.1
system-of l level s (x ∷ []) axes units h p q none =
    let all = all-axes l level s h in
    let e : length (axes_from level s 1 (length s.axes)) ≡ length s.axes = all.1 in
    let n : length axes ≡ length s.axes =
    placed-length axes (axis_items level s) q ∙ length-map (axes_from level s 1 (length s.axes)) item_axis ∙ e in
    record {
      head = x;
      is_head = subst (IsHeadItem s.system_type s.dimension) (sym p.0.1) (head-seen l level s h.system p.0.0);
      systems_are = refl;
      axes_are = axes-seen l level s 1 axes (axes_from level s 1 (length s.axes)) q all.0
          (omega arith) (omega arith);
      few = omega arith;
      count = subst (λ m. SameNumber (exact s.dimension) (whole_number m)) (sym n) h.system.count;
      none_shared = none;
    }

pub system-seen : LowerLaws → (level : Level) (c : Class) (item : Item) (s : SystemParts) (t : TailParts) → IsFew s →
    Each (Shows c item (behind level s t)) crs_classes → IsSystemIn s c item
system-seen l level c item s t h v =
    system-of l level s (those c class.CoordinateSystem (arguments item)) (those c class.Axis (arguments item))
    (those c class.AxisUnit (arguments item)) h v.0
    (subst (ArePlaced (those c class.Axis (arguments item))) (append-nil (axis_items level s)) v.1.0)
    (placed-none (those c class.AxisUnit (arguments item)) v.1.1.0)
