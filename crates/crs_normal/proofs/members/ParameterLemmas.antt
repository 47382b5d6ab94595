-- Parameters: the item of one reads as it wherever it is, with a unit of the class that its keyword
-- names.
use Rattle.std.proofs.Common.{rules, ◌≡◌, ◌⊎◌, inl, inr, ℕ, ◌+◌, codes, IfSome, Option, Some, None, List, [], ◌∷◌, refl, map, ◌++◌}
use Rattle.crs_decimal.specs.inner.Prelude.{Value}
use Rattle.crs_text.specs.inner.Prelude.{Item, End, More, at_place}
use Rattle.crs_shape.specs.declared.class.Class.{Class}
use Rattle.crs_shape.specs.declared.class.Class.TheVariants as class
use Rattle.crs_shape.specs.declared.unit_kind.UnitKind.{UnitKind}
use Rattle.crs_shape.specs.declared.unit_kind.UnitKind.TheVariants as kinds
use Rattle.crs_shape.specs.inner.Prelude.{is_keyword, class_named, unit_word}
use Rattle.crs_value.specs.inner.Prelude.{ParameterParts, ReadsElse, ReadsIds, ReadsAsUnit, ReadsParameter, ReadsUnitOf, parameter_units, IsIdent, IsUnit, IsParameter, UnitParts}
use Rattle.crs_value.specs.declared.values.level.Level.{Level}
use Rattle.crs_value.specs.Sound.{Each}
use Rattle.crs_value.specs.Values.{IdentParts}
use Rattle.crs_normal.specs.inner.Prelude.{unit_class, item_parameter, norm_parameter, each, node_of, number_item, opt, text_item, item_ident, item_unit, norm_units}
use Rattle.crs_normal.specs.inner.LowerLaws.{LowerLaws}
use Rattle.crs_normal.proofs.texts.SegmentLemmas.{IsIn, MayIn, Seen, Segment, a-number, a-text, if-any, items_of, lacks, placed-at, seen}
use Rattle.crs_normal.proofs.members.MemberLemmas.{NamesId, identifiers-back, identifiers-of, number-read, unit-kept, unit-read}
use Rattle.crs_normal.proofs.read.ViewLemmas.{keyword-names}
use Rattle.crs_normal.proofs.made.IdentLemmas.{idents-sound}

-- the class of a unit in a parameter is that of its keyword
pub named-as : (k : UnitKind) → class_named class.Parameter (unit_word k) ≡ Some (unit_class k)
unfolding class_named is_keyword
named-as kinds.Length = refl
named-as other = refl

module _ {c : Class} {ss : List (Segment c)} {item : Item} (look : Seen c ss item) where
  -- the unit, if there is one, is the first item of these classes
  abbrev Stands : Option UnitParts → List Class → Type 0
  Stands None [] = Unit {0}
  Stands (Some u) [] = ⊥
  Stands None (d ∷ ds) = (items_of d ss ≡ []) × Stands None ds
  Stands (Some u) (d ∷ ds) =
      NamesId d × (items_of d ss ≡ item_unit u ∷ []) ⊎ (items_of d ss ≡ []) × Stands (Some u) ds

  unit-found : LowerLaws → (o : Option UnitParts) → IfSome o IsUnit → (ds : List Class) → Stands o ds →
      ReadsUnitOf ds c item o
  unit-found laws None s [] h = tt
  unit-found laws (Some u) s [] h = absurd h
  unit-found laws None s (d ∷ ds) h = rw (lacks look d h.0) (unit-found laws None s ds h.1)
  unit-found laws (Some u) s (d ∷ ds) (inr h) = rw (lacks look d h.0) (unit-found laws (Some u) s ds h.1)
  unit-found laws (Some u) s (d ∷ ds) (inl h) =
      placed-at look d (λ l. ReadsElse (ReadsAsUnit d) l (ReadsUnitOf ds c item) (Some u)) (item_unit u) h.1
      (unit-read laws d h.0 u s)

module _ (laws : LowerLaws) (name : List ℕ) (value : Value) (identifiers : List IdentParts) (s : Each IsIdent identifiers) where
  abbrev whole : Option UnitParts → ℕ → Item
  whole o place =
      at_place place
      (node_of (codes "PARAMETER") (text_item name)
      (More (number_item value) (opt item_unit o (each item_ident identifiers End))))

  -- its arguments, where a unit is of class k
  abbrev of-parameter : (k : Class) (o : Option UnitParts) → MayIn class.Parameter k item_unit o →
      List (Segment class.Parameter)
  of-parameter k o e =
      a-text name ∷ a-number value ∷ if-any k item_unit o e ∷ identifiers-of (keyword-names _ _) identifiers ∷ []

  look : (k : Class) (o : Option UnitParts) (e : MayIn class.Parameter k item_unit o) (place : ℕ) →
      Seen class.Parameter (of-parameter k o e) (whole o place)
  look k o e place = seen class.Parameter (of-parameter k o e) (whole o place) (place + 9) refl

  abbrev Reads : Option UnitParts → ℕ → Type 0
  Reads o place =
      ReadsUnitOf parameter_units class.Parameter (whole o place) o × ReadsIds class.Parameter (whole o place) identifiers

  unit-as : (k : Class) (o : Option UnitParts) (e : MayIn class.Parameter k item_unit o) (place : ℕ) → IfSome o IsUnit →
      Stands (look k o e place) o parameter_units →
      items_of class.Identifier (of-parameter k o e) ≡ map item_ident identifiers ++ [] → Reads o place
  unit-as k o e place q h same =
      let at = look k o e place in (unit-found at laws o q parameter_units h, identifiers-back at identifiers same s)

  some-read : (u : UnitParts) → IsUnit u → (place : ℕ) (k : UnitKind) →
      IsIn class.Parameter (unit_class k) (item_unit u) → Reads (Some u) place
  some-read u q place kinds.Plain e = unit-as class.PlainUnit (Some u) e place q (search (rules, keyword-names)) refl
  some-read u q place other e = unit-as (unit_class other) (Some u) e place q (search (rules, keyword-names)) refl

  both-read : (o : Option UnitParts) → IfSome o IsUnit → (place : ℕ) → Reads o place
  both-read None q place = unit-as class.PlainUnit None tt place q (refl, (refl, (refl, (refl, tt)))) refl
  both-read (Some u) q place = some-read u q place u.kind (named-as u.kind)

-- ---- a parameter

pub parameter-read : LowerLaws → (p : ParameterParts) → IsParameter p → (place : ℕ) →
    ReadsParameter class.Parameter (at_place place (item_parameter p)) p
parameter-read laws p s place =
    let both = both-read laws p.name p.value p.identifiers s.identifiers p.unit s.unit place in record {
      name = refl;
      value = number-read laws p.value s.value 0;
      unit = both.0;
      identifiers = both.1;
    }

pub units-kept : (level : Level) (asked : UnitKind) (o : Option UnitParts) → IfSome o IsUnit →
    IfSome (norm_units level asked o) IsUnit
units-kept level asked None s = s
units-kept level asked (Some u) s = unit-kept level asked u s

pub parameter-kept : (level : Level) (p : ParameterParts) → IsParameter p → IsParameter (norm_parameter level p)
parameter-kept level p s = record {
  name = s.name;
  value = s.value;
  unit = units-kept level kinds.Plain p.unit s.unit;
  identifiers = idents-sound level p.identifiers s.identifiers;
}
