-- Normal units, lists of identifiers, axes and named nodes are the one form of their values.
use Rattle.std.proofs.Common.{◌≡◌, ℕ, inl, inr, List, refl, sym, ◌∙◌, ap, subst, map-id, map, true, Option, Some, None, [], ◌∷◌, append-nil, codes, decimal, arith, ◌≤◌, length}
use Rattle.crs_text.specs.inner.Prelude.{Item, Siblings, arguments, item_text, raw_of, leaf, node, End, More, number, word, RefusedAt}
use Rattle.crs_shape.specs.declared.class.Class.{Class}
use Rattle.crs_shape.specs.declared.unit_kind.UnitKind.{UnitKind}
use Rattle.crs_shape.specs.inner.Prelude.{SlotParts, slots_of, unit_slots, SpellsWord, unit_word, asked_kind, direction_word, system_word, named_slots, anchor_slot}
use Rattle.crs_value.specs.inner.Prelude.{those, ReadsEach, ReadsIdent, ReadsUnit, kept, ReadsOptional, ReadsAxis, ReadsAxisMeridian, ReadsDirection, ReadsNumberOf, ReadsType, AxisMeridianParts, AxisParts, SystemParts, ReadsElse, ReadsMember, ReadsNamed, parameter_units, ReadsAsUnit, ReadsConversion, ReadsGeoidModel, ReadsMethod, ReadsParameter, ReadsUnitOf, ReadsDeformationModel, UnitParts, RepeatsAny, anchors, ReadsTextOf}
use Rattle.crs_value.specs.Values.{IdentParts}
use Rattle.crs_value.specs.declared.values.level.Level.{Level}
use Rattle.crs_same.specs.inner.Prelude.{kind_as, own_or}
use Rattle.crs_normal.specs.Normal.{IsFirstKeyword, Ascend, Has, HasOneOrder, numbers_in, Rise}
use Rattle.crs_value.specs.Sound.{Each}
use Rattle.crs_normal.specs.inner.SpelledItems.{in_order, each, item_ident, item_unit, norm_unit, set_idents, number_node, opt, word_item, norm_units, whole_value, node_of, text_item, text_node}
use Rattle.crs_normal.proofs.normal.FormLemmas.{Form, IsGood, Looked, Opened, by-slots, found-in, front_in, good-in, one-in, reads-kept, set-spelled, spelled-by, opened, optional-in, raws-in, there-in, front-in, set-in, optional-spelled}
use Rattle.crs_normal.proofs.normal.IdentLemmas.{ident-form, IsOneOf, in-slot, of-others, by-rank, rise-at}
use Rattle.crs_normal.proofs.normal.LeafLemmas.{ArePlain, PlainIsOne, number-form, text-form, number-node-form, single-form, text-node-form}
use Rattle.crs_normal.proofs.read.ViewLemmas.{without_places_onto, each-so, slot_at, onto, InSlot}
use Rattle.crs_normal.proofs.texts.WordFormLemmas.{kind-one, direction-one, type-one}
use Rattle.crs_decimal.specs.inner.Prelude.{plain, Value}
use Rattle.crs_normal.proofs.WithoutPlaces.{without_places}
use Rattle.crs_normal.specs.inner.SpelledCrs.{item_axis, item_axis_meridian, norm_axis, norm_axis_meridian, norm_axis_meridians, item_conversion, item_geoid_model, item_method, item_parameter, norm_conversion, norm_geoid_model, norm_method, norm_parameter, set_parameters, item_deformation_model, norm_deformation_model}
use Rattle.crs_normal.specs.inner.SpelledFrames.{item_member, norm_member}
use Rattle.crs_normal.proofs.normal.CheckedLemmas.{by-class, once-only}
use Rattle.crs_shape.specs.declared.class.Class.TheVariants as class
use Rattle.crs_shape.specs.declared.unit_kind.UnitKind.TheVariants as kinds

-- the identifiers in a slot
pub idents-found-spelled : (level : Level) (c : Class) (items : Siblings) (front : List Item) →
    Each (IsGood level c class.Identifier) (those c class.Identifier items) →
    those c class.Identifier items ≡ front →
    Ascend (those c class.Identifier items) →
    kept level (those c class.Identifier items) ≡ those c class.Identifier items → (identifiers : List IdentParts) →
    ReadsEach (ReadsIdent class.Identifier) (those c class.Identifier items) identifiers →
    (rest after : Siblings) → rest ≡ after → without_places_onto front rest ≡ each item_ident (set_idents level identifiers) after
unfolding set_idents
idents-found-spelled level c items front good e up left identifiers reads rest after f =
    set-spelled item_ident (λ x. x) (ident-form level c) (those c class.Identifier items) front good e up identifiers
    reads f
    ∙ ap (λ xs. each item_ident (in_order (λ i. item_text (item_ident i)) xs) after) (map-id identifiers
    ∙ sym (reads-kept level (ReadsIdent class.Identifier) (those c class.Identifier items) identifiers reads left))

pub idents-in : {level : Level} {c : Class} {slots : List SlotParts} {item : Item} {keyword : List ℕ}
    (o : Opened level c slots item keyword) (k : ℕ) → Looked o class.Identifier (front_in o k) →
    (identifiers : List IdentParts) →
    ReadsEach (ReadsIdent class.Identifier) (those c class.Identifier (arguments item)) identifiers →
    {rest after : Siblings} → rest ≡ after →
    without_places_onto (front_in o k) rest ≡ each item_ident (set_idents level identifiers) after
idents-in {level = level} {c = c} {item = item} o k same identifiers reads f =
    idents-found-spelled level c (arguments item) (front_in o k) (good-in o class.Identifier)
    (found-in o class.Identifier same) o.sets.0 o.kept.left.0 identifiers reads _ _ f

-- ---- units

-- a keyword of the class is a kind's word, and that kind is unchanged where this one is asked
abbrev pub KindIn : UnitKind → Class → Type 0
KindIn asked d = (keyword : List ℕ) → IsFirstKeyword d keyword →
    (k : UnitKind) × ((keyword ≡ unit_word k) × (kind_as asked k ≡ k))

pub in-length : (asked : UnitKind) → KindIn asked class.LengthUnit
in-length asked keyword e = (kinds.Length, (e, refl))

pub in-angle : (asked : UnitKind) → KindIn asked class.AngleUnit
in-angle asked keyword e = (kinds.Angle, (e, refl))

pub in-scale : (asked : UnitKind) → KindIn asked class.ScaleUnit
in-scale asked keyword e = (kinds.Scale, (e, refl))

pub in-plain : KindIn kinds.Plain class.PlainUnit
in-plain keyword e = (kinds.Plain, (e, refl))

pub in-axis : (asked : UnitKind) → KindIn asked class.AxisUnit
in-axis asked keyword (inl e) = (kinds.Length, (e, refl))
in-axis asked keyword (inr e) = (kinds.Angle, (e, refl))

keyword-of : (asked kind : UnitKind) (raw keyword : List ℕ) → raw ≡ keyword →
    (k : UnitKind) × ((keyword ≡ unit_word k) × (kind_as asked k ≡ k)) → SpellsWord raw (unit_word kind) →
    keyword ≡ unit_word (kind_as asked kind)
keyword-of asked kind raw keyword same (k, (e, itself)) spells =
    let one = kind-one k kind (subst (λ (w : List ℕ). SpellsWord w (unit_word kind)) (same ∙ e) spells) in
    e ∙ ap unit_word (sym itself ∙ ap (kind_as asked) one)

pub unit-form : PlainIsOne → (level : Level) (c d : Class) (asked : UnitKind) → slots_of d ≡ unit_slots →
    KindIn asked d → ArePlain d →
    Form level c d (ReadsUnit d) (λ u. item_unit (norm_unit level asked u))
unit-form law level c d asked slots kind_in plains =
    by-slots slots (λ item keyword x o reads. spelled-by o
    (keyword-of asked x.kind (raw_of item) keyword o.raw (kind_in keyword o.written) reads.kind)
    (one-in o 0 (text-form level d) refl refl x.name reads.name
    (one-in o 1 (number-form law level d plains) refl refl x.factor reads.factor
    (idents-in o 2 refl x.identifiers reads.identifiers refl))))

-- ---- a normal axis is the one form of its value at its position

-- ---- directions and types in their own letters

pub direction-form : (level : Level) →
    Form level class.Axis class.Word ReadsDirection (λ d. word_item (direction_word d))
direction-form level =
    single-form word ReadsDirection (λ place raw value w reads. ap word_item (w.1 ∙ ap direction_word
    (direction-one w.0 value (subst (λ (bytes : List ℕ). SpellsWord bytes (direction_word value)) w.1 reads))))

pub type-form : (level : Level) →
    Form level class.CoordinateSystem class.Word ReadsType (λ t. word_item (system_word t))
type-form level =
    single-form word ReadsType (λ place raw value w reads. ap word_item (w.1 ∙ ap system_word
    (type-one w.0 value (subst (λ (bytes : List ℕ). SpellsWord bytes (system_word value)) w.1 reads))))

-- ---- the meridian of an axis

pub axis_meridian-form : PlainIsOne → (level : Level) (c : Class) →
    Form level c class.AxisMeridian (ReadsAxisMeridian class.AxisMeridian)
    (λ m. item_axis_meridian (norm_axis_meridian level m))
axis_meridian-form law level c =
    let d = class.AxisMeridian in
    by-slots refl (λ item keyword x o reads. spelled-by o o.written
    (one-in o 0 (number-form law level d (λ raw h. h)) refl refl x.longitude reads.longitude
    (one-in o 1 (unit-form law level d class.AngleUnit kinds.Angle refl (in-angle kinds.Angle) (λ raw h. h)) refl refl
    x.unit reads.unit refl)))

pub opt-meridians : (level : Level) (m : Option AxisMeridianParts) (rest : Siblings) →
    opt (λ x. item_axis_meridian (norm_axis_meridian level x)) m rest ≡ opt item_axis_meridian
    (norm_axis_meridians level m) rest
opt-meridians level m rest = grind arith

-- ---- orders

-- an order that is this number
pub record IsNumbered (k : ℕ) (order : Option Value) : Type 0 where
  pub value : Value
  pub is : order ≡ Some value
  pub spelled : plain value ≡ decimal k

order-known : PlainIsOne → (level : Level) (k : ℕ) (found : List Item) (order : Option Value) →
    Each (IsGood level class.Axis class.Order) found →
    map (numbers_in class.Order) found ≡ (decimal k ∷ []) ∷ [] → ReadsOptional (ReadsNumberOf class.Order) found order →
    IsNumbered k order
order-known law level k [] order goods are reads =
    let h : ◌≡◌ {A = List (List (List ℕ))} [] ((decimal k ∷ []) ∷ []) = are in absurd (cc)
order-known law level k (i ∷ is) None goods are reads = absurd reads
order-known law level k (i ∷ is) (Some v) goods are reads =
    let o = (opened i refl goods.0).1 in
    let raws : numbers_in class.Order i ≡ plain v ∷ [] =
    raws-in o 0 (number-form law level class.Order (λ raw h. h)) refl refl refl v reads in
    let this : numbers_in class.Order i ∷ map (numbers_in class.Order) is ≡ (decimal k ∷ []) ∷ [] = are in
    record { value = v; is = refl; spelled = cc }

opt-order : (k : ℕ) (order : Option Value) → IsNumbered k order → (rest : Siblings) →
    opt (number_node (codes "ORDER")) order rest ≡ opt (number_node (codes "ORDER")) (Some (whole_value k)) rest
opt-order k order n rest =
    ap (λ x. opt (number_node (codes "ORDER")) x rest) n.is
    ∙ ap (λ raw. More (node 0 (codes "ORDER") true (leaf number 0 raw) End 0) rest)
    (n.spelled ∙ sym (append-nil (decimal k)))

-- ---- axes

pub axis-form : PlainIsOne → (level : Level) (c : Class) (system : SystemParts) (k : ℕ) (item : Item) (x : AxisParts) →
    IsGood level c class.Axis item →
    HasOneOrder k item → Has class.Axis class.AxisUnit item → ReadsAxis class.Axis item x →
    (without_places item ≡ item_axis (norm_axis level system k x)) × IsNumbered k x.order
unfolding norm_axis
axis-form law level c system k item x good ordered own reads =
    let d = class.Axis in
    let asked = asked_kind system.system_type x.direction in
    let o = (opened item refl good).1 in
    let known = order-known law level k _ x.order (good-in o class.Order) ordered reads.order in (
      spelled-by o o.written
          (one-in o 0 (text-form level d) refl refl x.name
          reads.name
          (one-in o 1 (direction-form level) refl refl x.direction reads.direction
          (optional-in o 2 (axis_meridian-form law level d) refl refl x.meridian reads.meridian
          (optional-in o 3 (number-node-form law level d class.Order (codes "ORDER") refl (λ bytes h. h) (λ raw h. h)) refl refl x.order reads.order
          (there-in o item_unit (norm_unit level asked) (unit-form law level d class.AxisUnit asked refl (in-axis asked) (λ raw h. h))
          (λ unit. norm_units level asked (own_or unit system.unit)) (λ u. refl) 4 refl refl own x.unit reads.unit
          (idents-in o 5 refl x.identifiers reads.identifiers refl))
          ∙ opt-order k x.order known _)
          ∙ opt-meridians level x.meridian _))),
      known,
    )

-- ---- normal members, methods, geoid models, deformation models, parameters and conversions are the one form of their values

-- a node of a name and identifiers
named-form : (level : Level) (c d : Class) (keyword : List ℕ) → slots_of d ≡ named_slots →
    ((bytes : List ℕ) → IsFirstKeyword d bytes → bytes ≡ keyword) →
    Form level c d (ReadsNamed d) (λ m. node_of keyword (text_item m.name) (each item_ident (set_idents level m.identifiers) End))
named-form level c d keyword slots its =
    by-slots slots (λ item bytes x o reads. spelled-by o (its bytes o.written)
    (one-in o 0 (text-form level d) refl refl x.name reads.name
    (idents-in o 1 refl x.identifiers reads.identifiers refl)))

pub member-form : (level : Level) (c : Class) →
    Form level c class.Member (ReadsMember class.Member) (λ m. item_member (norm_member level m))
member-form level c = named-form level c class.Member (codes "MEMBER") refl (λ bytes h. h)

pub method-form : (level : Level) (c : Class) →
    Form level c class.Method (ReadsMethod class.Method) (λ m. item_method (norm_method level m))
method-form level c = named-form level c class.Method (codes "METHOD") refl (λ bytes h. h)

pub geoid_model-form : (level : Level) (c : Class) →
    Form level c class.GeoidModel (ReadsGeoidModel class.GeoidModel) (λ g. item_geoid_model (norm_geoid_model level g))
geoid_model-form level c = named-form level c class.GeoidModel (codes "GEOIDMODEL") refl (λ bytes h. h)

pub deformation_model-form : (level : Level) (c : Class) →
    Form level c class.DeformationModel (ReadsDeformationModel class.DeformationModel)
    (λ m. item_deformation_model (norm_deformation_model level m))
deformation_model-form level c = named-form level c class.DeformationModel (codes "MODEL") refl (λ bytes h. h)

-- ---- the unit of a parameter, of one of several classes

abbrev UnitForm : Level → Class → Class → Type 0
UnitForm level c d = Form level c d (ReadsUnit d) (λ u. item_unit (norm_unit level kinds.Plain u))

unit-as : {level : Level} {c : Class} (d : Class) → UnitForm level c d → (item : Item) → IsGood level c d item →
    (unit : Option UnitParts) → ReadsAsUnit d item unit → (rest : Siblings) →
    More (without_places item) rest ≡ opt item_unit (norm_units level kinds.Plain unit) rest
unit-as d form item good None reads rest = absurd reads
unit-as d form item good (Some u) reads rest = ap (λ i. More i rest) (form item u good reads)

unit-of : {level : Level} {c : Class} {slots : List SlotParts} {item : Item} {keyword : List ℕ}
    (o : Opened level c slots item keyword) (front : List Item) → length front ≤ 1 → (ds : List Class) →
    Each (UnitForm level c) ds → Each (λ d. Looked o d (those c d (onto front End))) ds → Each (IsOneOf c ds) front →
    (unit : Option UnitParts) → ReadsUnitOf ds c item unit → (rest : Siblings) →
    without_places_onto front rest ≡ opt item_unit (norm_units level kinds.Plain unit) rest
unit-of o (i ∷ j ∷ more) few ds forms same ones unit reads rest = absurd (omega arith)
unit-of o (i ∷ []) few [] forms same ones unit reads rest = absurd ones.0
unit-of o [] few [] forms same ones None reads rest = refl
unit-of o [] few [] forms same ones (Some u) reads rest = absurd reads
unit-of {c = c} {item = item} o [] few (d ∷ ds) forms same ones unit reads rest =
    unit-of o [] few ds forms.1 same.1 tt unit
    (subst (λ (xs : List Item). ReadsElse (ReadsAsUnit d) xs (ReadsUnitOf ds c item) unit) (found-in o d same.0) reads) rest
unit-of {level = level} {c = c} {item = item} o (i ∷ []) few (d ∷ ds) forms same ones unit reads rest =
    by-class o (ReadsAsUnit d) (ReadsUnitOf ds c item) d (i, refl) same.0 reads
    (λ has read. unit-as d forms.0 i (has (IsGood level c d) (good-in o d)) unit read rest)
    (λ not other. unit-of o (i ∷ []) few ds forms.1 same.1 (of-others c i (d ∷ []) ds (not, tt) ones.0, tt) unit other rest)

-- ---- parameters and conversions

pub parameter-form : PlainIsOne → (level : Level) (c : Class) →
    Form level c class.Parameter (ReadsParameter class.Parameter) (λ p. item_parameter (norm_parameter level p))
parameter-form law level c =
    let d = class.Parameter in
    by-slots refl (λ item keyword x o reads. spelled-by o o.written
    (one-in o 0 (text-form level d) refl refl x.name reads.name
    (one-in o 1 (number-form law level d (λ raw h. h)) refl refl x.value reads.value
    (ap (without_places_onto (front_in o 2))
    (idents-in o 3 refl x.identifiers reads.identifiers refl)
    ∙ unit-of o (front_in o 2) ((front-in o 2).not_more refl) parameter_units (
      unit-form law level d class.PlainUnit kinds.Plain refl in-plain (λ raw h. h),
      (
        unit-form law level d class.LengthUnit kinds.Plain refl (in-length kinds.Plain) (λ raw h. h),
        (
          unit-form law level d class.AngleUnit kinds.Plain refl (in-angle kinds.Plain) (λ raw h. h),
          (unit-form law level d class.ScaleUnit kinds.Plain refl (in-scale kinds.Plain) (λ raw h. h), tt),
        ),
      ),
    ) (refl, (refl, (refl, (refl, tt)))) (each-so _ _ (in-slot d (slot_at (slots_of d) 2)) (front_in o 2) (front-in o 2).inside)
    x.unit reads.unit _))))

pub conversion-form : PlainIsOne → (level : Level) (c : Class) →
    Form level c class.Conversion (ReadsConversion class.Conversion) (λ p. item_conversion (norm_conversion level p))
unfolding set_parameters
conversion-form law level c =
    let d = class.Conversion in
    by-slots refl (λ item keyword x o reads. spelled-by o o.written
    (one-in o 0 (text-form level d) refl refl x.name reads.name
    (one-in o 1 (method-form level d) refl refl x.method reads.method
    (set-in o item_parameter (norm_parameter level) (parameter-form law level d) 2 refl o.sets.1.1.1.0 x.parameters
    reads.parameters
    (idents-in o 3 refl x.identifiers reads.identifiers refl)))))

-- ---- the anchor of a normal reference frame and its epoch are the one form of their values: by their ranks the anchor comes first

-- a node has at most one of each in the slot, and nothing else
pub anchors-in : PlainIsOne → {level : Level} {c : Class} {slots : List SlotParts} {item : Item} {keyword : List ℕ}
    (o : Opened level c slots item keyword) → Rise c 0 (arguments item) → (k : ℕ) → Each (InSlot c anchor_slot) (front_in o k) →
    Looked o class.Anchor (those c class.Anchor (onto (front_in o k) End)) →
    Looked o class.AnchorEpoch (those c class.AnchorEpoch (onto (front_in o k) End)) →
    ((fault : RefusedAt) → ¬ (RepeatsAny c (arguments item) anchors fault)) →
    (anchor : Option (List ℕ)) (epoch : Option Value) →
    ReadsOptional (ReadsTextOf class.Anchor) (those c class.Anchor (arguments item)) anchor →
    ReadsOptional (ReadsNumberOf class.AnchorEpoch) (those c class.AnchorEpoch (arguments item)) epoch →
    {rest after : Siblings} → rest ≡ after →
    without_places_onto (front_in o k) rest ≡ opt (text_node (codes "ANCHOR")) anchor
    (opt (number_node (codes "ANCHOREPOCH")) epoch
    after)
anchors-in law {level = level} {c = c} {slots = slots} {item = item} o own k inside same same_epoch free anchor epoch reads
    reads_epoch f =
    let rise = rise-at c slots (arguments item) o.slots 0 own k in
    let first = found-in o class.Anchor same in
    let second = found-in o class.AnchorEpoch same_epoch in
    by-rank c anchors ((omega arith, tt), (tt, tt)) rise.0 (front_in o k) rise.1.0 rise.1.1
    (each-so _ _ (in-slot c anchor_slot) (front_in o k) inside) _
    ∙ optional-spelled (text-node-form level c class.Anchor (codes "ANCHOR") refl (λ bytes h. h)) _ _
    (good-in o class.Anchor) first (once-only _ first (λ fault b. free fault (inl b))) anchor reads
    (optional-spelled
    (number-node-form law level c class.AnchorEpoch (codes "ANCHOREPOCH") refl (λ bytes h. h) (λ raw h. h)) _ _
    (good-in o class.AnchorEpoch) second (once-only _ second (λ fault b. free fault (inr (inl b)))) epoch reads_epoch f)
