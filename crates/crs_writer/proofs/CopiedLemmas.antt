-- Nodes of the commonest forms, where they are canonical as they stand, are what is written of all that is read from them.
use Rattle.std.proofs.Common.{arith, ◌≡◌, ℕ, false, if◌then◌else◌, List, [], ◌∷◌, ◌++◌, Option, Some, None, codes, refl, sym, ap, ◌∙◌, ◌≢◌}
use denote.Enum.Bare.{sameb}
use Rattle.crs_decimal.specs.inner.Prelude.{plain, Value}
use Rattle.crs_text.specs.inner.Prelude.{Item, Siblings, leaf, End, More, arguments, kind_of_item, place_of, raw_of, Kind, number, text, item_text, others_text, word}
use Rattle.crs_shape.specs.inner.Prelude.{class_named, class_in, class_of_kind, is_keyword, kind_as, unit_word, asked_kind, direction_word}
use Rattle.crs_shape.specs.contracts.class.Class.{the_type}
use Rattle.crs_shape.specs.declared.class.Class.{Class}
use Rattle.crs_shape.specs.declared.unit_kind.UnitKind.{UnitKind}
use Rattle.crs_value.specs.inner.Prelude.{MethodParts, ParameterParts, those, ReadsEach, ReadsOptional, ReadsIdent, ReadsNumber, ReadsText, ReadsTextOf, ReadsUnit, ReadsAsUnit, ReadsMethod, ReadsParameter, ReadsUnitOf, parameter_units, UnitParts, ReadsAxis, ReadsAxisMeridian, AxisParts, SystemParts}
use Rattle.crs_value.specs.Values.{IdentParts}
use Rattle.crs_value.specs.declared.values.level.Level.{Level}
use Rattle.crs_normal.specs.inner.Prelude.{method_text, parameter_text, each, is_short, item_ident, item_unit, norm_unit, set_idents, item_axis, norm_axis, number_node, whole_value}
use Rattle.crs_writer.specs.inner.Copied.{IsEnd, IsPlainNumber, IsSaidUnit, IsShortIdent, IsText, SaysKind, IsDirectionWord, IsPlainOrder, IsSaidKind}
use Rattle.crs_shape.specs.declared.class.Class.TheVariants as class
use Rattle.crs_shape.specs.declared.unit_kind.UnitKind.TheVariants as kinds
use Rattle.crs_value.specs.declared.values.level.Level.TheVariants as levels
use Rattle.crs_text.specs.declared.items.ItemKind.TheVariants as items

-- ---- items that are no nodes

-- such an item is the leaf of its kind
pub leaf-of : (kind : Kind) (item : Item) → kind_of_item item ≡ kind_of_item (leaf kind 0 []) → item ≡ leaf kind (place_of item) (raw_of item)
leaf-of kind item k = grind arith

pub leaf-text : (kind : Kind) (item : Item) (raw : List ℕ) → kind_of_item item ≡ kind_of_item (leaf kind 0 []) → raw_of item ≡ raw →
    item_text item ≡ item_text (leaf kind 0 raw)
leaf-text kind item raw k e = ap item_text (leaf-of kind item k) ∙ ap (λ z. item_text (leaf kind 0 z)) e

pub number-said : (item : Item) (value : Value) → IsPlainNumber item → ReadsNumber item value → item_text item ≡ plain value
number-said item value n r = leaf-text number item (plain value) n.kind (n.plain value r)

-- ---- the arguments of a node

pub node-in : (c d : Class) (item : Item) {first : Item} {others : Siblings} {letters : List ℕ} → arguments item ≡ More first others → raw_of item ≡ letters →
    class_named c letters ≡ Some d → class_in c item ≡ Some d
node-in c d item a r named = grind arith

pub node-text : (item : Item) {first : Item} {others : Siblings} {letters : List ℕ} → arguments item ≡ More first others → raw_of item ≡ letters →
    item_text item ≡ letters ++ 91 ∷ (item_text first ++ (others_text others ++ 93 ∷ []))
node-text item a r = grind arith

-- an item and its class in a parent
pub record Argument (c : Class) : Type 0 where
  pub item : Item
  pub of : Class
  pub is : class_in c item ≡ Some of

abbrev pub leaf-at : (kind : Kind) (c : Class) (item : Item) → kind_of_item item ≡ kind_of_item (leaf kind 0 []) → Argument c
leaf-at kind c item k = record { item = item; of = class_of_kind kind; is = ap (class_in c) (leaf-of kind item k) }

abbrev pub node-at : (c d : Class) (item : Item) {first : Item} {others : Siblings} {letters : List ℕ} → arguments item ≡ More first others → raw_of item ≡ letters →
    class_named c letters ≡ Some d → Argument c
node-at c d item a r named = record { item = item; of = d; is = node-in c d item a r named }

-- these items, and others behind them
abbrev pub onto : {c : Class} → List (Argument c) → Siblings → Siblings
onto [] rest = rest
onto (x ∷ front) rest = More x.item (onto front rest)

-- those of a class in front of these
abbrev pub picked : {c : Class} → Class → List (Argument c) → List Item → List Item
picked d [] behind = behind
picked d (x ∷ front) behind = if sameb the_type x.of d then x.item ∷ picked d front behind else picked d front behind

those-onto : (c d : Class) (front : List (Argument c)) (rest : Siblings) → those c d (onto front rest) ≡ picked d front (those c d rest)
those-onto c d [] rest = refl
those-onto c d (x ∷ front) rest = rw (x.is, those-onto c d front rest)

-- the arguments of a class, of which those in front are known
pub those-in : (c : Class) (item : Item) (front : List (Argument c)) (rest : Siblings) → arguments item ≡ onto front rest → (d : Class) →
    those c d (arguments item) ≡ picked d front (those c d rest)
those-in c item front rest is d = ap (those c d) is ∙ those-onto c d front rest

-- ---- optional parts

pub none-read : {V : Type 0} (R : Item → V → Type 0) (value : Option V) → ReadsOptional R [] value → value ≡ None
none-read R value h = grind arith

-- what is read from the first of these
pub record IsSome {V : Type 0} (R : Item → V → Type 0) (item : Item) (value : Option V) : Type 0 where
  pub it : V
  pub is : value ≡ Some it
  pub reads : R item it

pub some-read : {V : Type 0} (R : Item → V → Type 0) (item : Item) (others : List Item) (value : Option V) → ReadsOptional R (item ∷ others) value →
    IsSome R item value
some-read R item others None h = absurd h
some-read R item others (Some v) h = record { it = v; is = refl; reads = h }

-- ---- identifiers

pub ident-copied : (c : Class) (item : Item) (i : IdentParts) → IsShortIdent item → ReadsIdent c item i → item_text item ≡ item_text (item_ident i)
ident-copied c item i f r =
    let of = those-in c item (leaf-at text c f.authority f.is_authority ∷ leaf-at number c f.code f.is_code ∷ []) End f.are in
    let code : raw_of f.code ≡ i.code = rw (f.are, leaf-of number f.code f.is_code) at r.code in
    let version = none-read ReadsText i.version (rw f.are at r.version) in
    let citation = none-read (ReadsTextOf class.Citation) i.citation (rw (of class.Citation) at r.citation) in
    let uri = none-read (ReadsTextOf class.Uri) i.uri (rw (of class.Uri) at r.uri) in
    rw (
      node-text item f.are f.keyword,
      leaf-text text f.authority i.authority f.is_authority (rw (of class.Text) at r.authority),
      leaf-text number f.code i.code f.is_code code,
      version,
      citation,
      uri,
      ap is_short (sym code) ∙ f.short,
    )

-- ---- the identifiers at the end of a node

-- the class takes identifiers
abbrev pub Identifies : Class → Type 0
Identifies c = class_named c (codes "ID") ≡ Some class.Identifier

ident-in : (c : Class) (item : Item) → Identifies c → IsShortIdent item → class_in c item ≡ Some class.Identifier
ident-in c item named f = node-in c class.Identifier item f.are f.keyword named

-- no others are at the end
pub end-none : (level : Level) (c d : Class) (rest : Siblings) → Identifies c → IsEnd level rest → sameb the_type class.Identifier d ≡ false → those c d rest ≡ []
end-none level c d End named e other = refl
end-none level c d (More item others) named e other = rw (ident-in c item named e.1, other, e.2)

one-kept : (level : Level) (i : IdentParts) → level ≡ levels.Full → set_idents level (i ∷ []) ≡ i ∷ []
unfolding set_idents
one-kept level i e = rw e

pub none-kept : (level : Level) → set_idents level [] ≡ []
unfolding set_idents
none-kept levels.Full = refl
none-kept levels.Definition = refl

pub end-copied : (level : Level) (c : Class) (rest : Siblings) (is : List IdentParts) → Identifies c → IsEnd level rest →
    ReadsEach (ReadsIdent class.Identifier) (those c class.Identifier rest) is →
    others_text rest ≡ others_text (each item_ident (set_idents level is) End)
end-copied level c End [] named e r = rw (none-kept level)
end-copied level c End (i ∷ is) named e r = absurd r
end-copied level c (More item (More other others)) is named e r = absurd cc
end-copied level c (More item End) is named e r = one is (rw (ident-in c item named e.1) at r)
  where
    one : (is : List IdentParts) → ReadsEach (ReadsIdent class.Identifier) (item ∷ []) is →
        others_text (More item End) ≡ others_text (each item_ident (set_idents level is) End)
    one [] r = absurd r
    one (i ∷ []) r = rw (ident-copied class.Identifier item i e.1 r.0, one-kept level i e.0)
    one (i ∷ j ∷ js) r = absurd r.1

-- ---- methods

-- a method
pub record IsPlainMethod (level : Level) (item : Item) : Type 0 where
  pub name : Item
  pub rest : Siblings
  pub keyword : raw_of item ≡ codes "METHOD"
  pub are : arguments item ≡ More name rest
  pub is_name : IsText name
  pub is_end : IsEnd level rest

pub method-copied : (level : Level) (item : Item) (m : MethodParts) → IsPlainMethod level item → ReadsMethod class.Method item m →
    item_text item ≡ method_text level m
unfolding class_named is_keyword
method-copied level item m f r =
    let c = class.Method in
    let of = those-in c item (leaf-at text c f.name f.is_name ∷ []) f.rest f.are in
    rw (
      node-text item f.are f.keyword,
      leaf-text text f.name m.name f.is_name (rw (of class.Text) at r.name),
      end-copied level c f.rest m.identifiers refl f.is_end (rw (of class.Identifier) at r.identifiers),
    )

-- ---- units

as-said : (asked kind : UnitKind) → SaysKind kind → kind_as asked kind ≡ kind
as-said asked kind says = grind arith

pub unit-copied : (level : Level) (asked : UnitKind) (c : Class) (item : Item) (u : UnitParts) → Identifies c → IsSaidUnit level item →
    ReadsUnit c item u → item_text item ≡ item_text (item_unit (norm_unit level asked u))
unit-copied level asked c item u named f r =
    let of = those-in c item (leaf-at text c f.name f.is_name ∷ leaf-at number c f.factor f.is_factor.kind ∷ []) f.rest f.are in
    let k = f.keyword.0 in
    rw (
      node-text item f.are f.keyword.2.is,
      f.keyword.2.only u.kind r.kind,
      as-said asked k f.keyword.1,
      leaf-text text f.name u.name f.is_name (rw (of class.Text) at r.name),
      number-said f.factor u.factor f.is_factor (rw (of class.Number) at r.factor),
      end-copied level c f.rest u.identifiers named f.is_end (rw (of class.Identifier) at r.identifiers),
    )

-- ---- parameters

-- the class that a parameter's unit of this kind has
abbrev unit_class : UnitKind → Class
unit_class kinds.Length = class.LengthUnit
unit_class kinds.Angle = class.AngleUnit
unit_class kinds.Scale = class.ScaleUnit
unit_class kinds.Plain = class.PlainUnit

unit-names : (k : UnitKind) →
    (class_named class.Parameter (unit_word k) ≡ Some (unit_class k)) × Identifies (unit_class k) × (sameb the_type (unit_class k) class.Identifier ≡ false)
unfolding class_named is_keyword
unit-names kinds.Length = (refl, refl, refl)
unit-names kinds.Angle = (refl, refl, refl)
unit-names kinds.Scale = (refl, refl, refl)
unit-names kinds.Plain = (refl, refl, refl)

as-unit : (d : Class) (unit : Item) (o : Option UnitParts) → ReadsAsUnit d unit o → IsSome (ReadsUnit d) unit o
as-unit d unit None r = absurd r
as-unit d unit (Some u) r = record { it = u; is = refl; reads = r }

unit-read : (k : UnitKind) (item unit : Item) (rest : Siblings) (o : Option UnitParts) →
    ((d : Class) → sameb the_type class.Text d ≡ false → sameb the_type class.Number d ≡ false → those class.Parameter d (arguments item)
    ≡ (if sameb the_type (unit_class k) d then unit ∷ those class.Parameter d rest else those class.Parameter d rest)) →
    ((d : Class) → sameb the_type class.Identifier d ≡ false → those class.Parameter d rest ≡ []) →
    ReadsUnitOf parameter_units class.Parameter item o → ReadsAsUnit (unit_class k) unit o
unit-read kinds.Plain item unit rest o of none r = rw (of class.PlainUnit refl refl) at r
unit-read kinds.Length item unit rest o of none r = rw (of class.PlainUnit refl refl, none class.PlainUnit refl, of class.LengthUnit refl refl) at r
unit-read kinds.Angle item unit rest o of none r =
    rw (of class.PlainUnit refl refl, none class.PlainUnit refl, of class.LengthUnit refl refl, none class.LengthUnit refl, of class.AngleUnit refl refl) at r
unit-read kinds.Scale item unit rest o of none r =
    rw (
      of class.PlainUnit refl refl,
      none class.PlainUnit refl,
      of class.LengthUnit refl refl,
      none class.LengthUnit refl,
      of class.AngleUnit refl refl,
      none class.AngleUnit refl,
      of class.ScaleUnit refl refl,
    ) at r

-- a parameter that has a unit
pub record IsPlainParameter (level : Level) (item : Item) : Type 0 where
  pub name : Item
  pub value : Item
  pub unit : Item
  pub rest : Siblings
  pub keyword : raw_of item ≡ codes "PARAMETER"
  pub are : arguments item ≡ More name (More value (More unit rest))
  pub is_name : IsText name
  pub is_value : IsPlainNumber value
  pub is_unit : IsSaidUnit level unit
  pub is_end : IsEnd level rest

pub parameter-copied : (level : Level) (item : Item) (p : ParameterParts) → IsPlainParameter level item → ReadsParameter class.Parameter item p →
    item_text item ≡ parameter_text level p
unfolding class_named is_keyword
parameter-copied level item p f r =
    let c = class.Parameter in
    let idents : Identifies c = refl in
    let g = f.is_unit in
    let k = g.keyword.0 in
    let names = unit-names k in
    let unit = node-at c (unit_class k) f.unit g.are g.keyword.2.is names.0 in
    let of = those-in c item (leaf-at text c f.name f.is_name ∷ leaf-at number c f.value f.is_value.kind ∷ unit ∷ []) f.rest f.are in
    let u = as-unit (unit_class k) f.unit p.unit
    (unit-read k item f.unit f.rest p.unit (λ d t n. rw (of d, t, n)) (λ d. end-none level c d f.rest idents f.is_end) r.unit) in
    rw (
      u.is,
      node-text item f.are f.keyword,
      leaf-text text f.name p.name f.is_name (rw (of class.Text) at r.name),
      number-said f.value p.value f.is_value (rw (of class.Number) at r.value),
      unit-copied level kinds.Plain (unit_class k) f.unit u.it names.1 g u.reads,
      end-copied level c f.rest p.identifiers idents f.is_end (rw (of class.Identifier, names.2) at r.identifiers),
    )

-- ---- axes that are canonical as they stand are what is written of all that is read from them

-- units of length and of angle are those of axes
unit-named : (raw : List ℕ) (k : IsSaidKind raw) → raw ≢ codes "SCALEUNIT" → class_named class.Axis (unit_word k.0) ≡ Some class.AxisUnit
unfolding class_named is_keyword
unit-named raw (kinds.Length, s, w) other = refl
unit-named raw (kinds.Angle, s, w) other = refl
unit-named raw (kinds.Scale, s, w) other = absurd (other w.is)
unit-named raw (kinds.Plain, s, w) other = absurd s

order-said : (position : ℕ) (item : Item) → IsPlainOrder position item → item_text item ≡ item_text (number_node (codes "ORDER") (whole_value position))
order-said position item f =
    rw (node-text item f.are f.keyword, leaf-text number f.inner (plain (whole_value position)) f.kind f.is)

-- an axis of this position that has its order and its own unit of length or angle
pub record IsPlainAxis (level : Level) (position : ℕ) (item : Item) : Type 0 where
  pub name : Item
  pub direction : Item
  pub order : Item
  pub unit : Item
  pub rest : Siblings
  pub keyword : raw_of item ≡ codes "AXIS"
  pub are : arguments item ≡ More name (More direction (More order (More unit rest)))
  pub is_name : IsText name
  pub is_word : kind_of_item direction ≡ items.Word
  pub is_direction : IsDirectionWord (raw_of direction)
  pub is_order : IsPlainOrder position order
  pub is_unit : IsSaidUnit level unit
  pub is_not_scale : raw_of unit ≢ codes "SCALEUNIT"
  pub is_end : IsEnd level rest

pub axis-copied : (level : Level) (s : SystemParts) (position : ℕ) (item : Item) (a : AxisParts) → IsPlainAxis level position item → ReadsAxis class.Axis item a →
    item_text item ≡ item_text (item_axis (norm_axis level s position a))
unfolding norm_axis class_named is_keyword
axis-copied level s position item a f r =
    let c = class.Axis in
    let idents : Identifies c = refl in
    let o = f.is_order in
    let g = f.is_unit in
    let k = g.keyword in
    let order = node-at c class.Order f.order o.are o.keyword refl in
    let unit = node-at c class.AxisUnit f.unit g.are k.2.is (unit-named (raw_of f.unit) k f.is_not_scale) in
    let of = those-in c item (leaf-at text c f.name f.is_name ∷ leaf-at word c f.direction f.is_word ∷ order ∷ unit ∷ []) f.rest f.are in
    let same = f.is_direction.1.only a.direction (rw (of class.Word) at r.direction) in
    let meridian = none-read (ReadsAxisMeridian class.AxisMeridian) a.meridian
    (rw (of class.AxisMeridian, end-none level c class.AxisMeridian f.rest idents f.is_end refl) at r.meridian) in
    let u = some-read (ReadsUnit class.AxisUnit) f.unit (those c class.AxisUnit f.rest) a.unit (rw (of class.AxisUnit) at r.unit) in
    rw (
      u.is,
      meridian,
      node-text item f.are f.keyword,
      leaf-text text f.name a.name f.is_name (rw (of class.Text) at r.name),
      leaf-text word f.direction (direction_word a.direction) f.is_word (f.is_direction.1.is ∙ ap direction_word (sym same)),
      order-said position f.order o,
      unit-copied level (asked_kind s.system_type a.direction) class.AxisUnit f.unit u.it refl g u.reads,
      end-copied level c f.rest a.identifiers idents f.is_end (rw (of class.Identifier) at r.identifiers),
    )
