-- The written form of a CRS is an accepted text; by which keyword it is written, and which class that names at the root.
use Rattle.std.proofs.Common.{◌≡◌, ℕ, Some, refl, ◌↔◌, ◌∙◌, None, sym, subst, arith, inl, inr}
use Rattle.crs_text.specs.inner.Prelude.{at_place, Item, RefusedAt, SpellsNode, WrittenSpells, item_text}
use Rattle.crs_shape.specs.declared.class.Class.{Class}
use Rattle.crs_shape.specs.declared.system_type.SystemType.{SystemType}
use Rattle.crs_shape.specs.inner.Prelude.{is_keyword, root_named, class_of_root, AtRoot, Inside, IsFree, Shaped}
use Rattle.crs_value.specs.inner.Prelude.{IsGeodeticClass, ReadsCrs, SpellsCrs, Spells}
use Rattle.crs_value.specs.declared.values.crs.Crs.{Crs}
use Rattle.crs_value.specs.declared.values.level.Level.{Level}
use Rattle.crs_normal.specs.PartSpellings.{geodetic_class}
use Rattle.crs_normal.specs.inner.SpelledCrs.{geodetic_keyword, item_crs, norm_crs}
use Rattle.crs_normal.proofs.made.PlaceLemmas.{text-at, placed-twice}
use Rattle.crs_normal.proofs.texts.ItemLemmas.{IsWritable}
use Rattle.crs_normal.proofs.made.NodeLemmas.{IsAcceptedNormal}
use Rattle.crs_shape.specs.declared.class.Class.TheVariants as class
use Rattle.crs_shape.specs.declared.system_type.SystemType.TheVariants as types
use Rattle.crs_value.specs.declared.values.crs.Crs.TheVariants as crs

-- a CRS is written as a node of its kind
abbrev pub crs_class : Crs → Class
crs_class (crs.Geodetic g) = geodetic_class g.system.system_type
crs_class (crs.Projected p) = class.ProjectedCrs
crs_class (crs.Vertical v) = class.VerticalCrs
crs_class (crs.Compound c) = class.CompoundCrs

pub is-geodetic : (t : SystemType) → IsGeodeticClass (geodetic_class t)
is-geodetic types.Ellipsoidal = tt
is-geodetic other = tt

-- the keyword names the class
keyword-named : (t : SystemType) → root_named (geodetic_keyword t) ≡ Some (geodetic_class t)
unfolding root_named is_keyword
keyword-named types.Ellipsoidal = refl
keyword-named other = refl

pub crs-rooted : (level : Level) (x : Crs) (place : ℕ) →
    class_of_root (at_place place (item_crs (norm_crs level x))) ≡ Some (crs_class x)
unfolding root_named is_keyword
crs-rooted level (crs.Geodetic g) place = keyword-named g.system.system_type
crs-rooted level other place = refl

-- ---- the written form of a CRS is an accepted text, which spells the CRS's one form

abbrev pub NoFaultIsShape : Type 0
NoFaultIsShape = (c : Class) (item : Item) → IsFree (Inside c item) ↔ Shaped c item

-- an item of the shape of its root's class has no fault at its root
free-at-root : NoFaultIsShape → (c : Class) (item : Item) → class_of_root item ≡ Some c → Shaped c item →
    (fault : RefusedAt) → AtRoot item fault → ⊥
free-at-root law c item root shaped fault (inl (none, misplaced)) = let e : None ≡ Some c = sym none ∙ root in cc
free-at-root law c item root shaped fault (inr (d, (named, inside))) =
    let e : Some c ≡ Some d = sym root ∙ named in
    let same : c ≡ d = cc in
    (law d item).1 (subst (λ k. Shaped k item) same shaped) fault inside

made-spells : NoFaultIsShape → (level : Level) (c : Class) (most : ℕ) (item : Item) (value : Crs) →
    class_of_root item ≡ Some c → IsAcceptedNormal level c most item → ReadsCrs c item value → SpellsCrs item value
made-spells law level c most item value root made reads = record {
  class_read = c;
  root = root;
  shaped = free-at-root law c item root made.1.shaped;
  unbroken = made.1.unbroken;
  reads = reads;
}

-- the text of an item spells it, at the text's places
pub written-at : WrittenSpells → (item : Item) → IsWritable (at_place 0 item) → SpellsNode (item_text item) (at_place 0 item)
written-at written item w =
    rw (text-at 0 item, placed-twice 0 0 item) at (written (at_place 0 item) w.formed w.is_node w.within)

pub made-stands : WrittenSpells → {level : Level} {c : Class} (item : Item) →
    IsAcceptedNormal level c 8 (at_place 0 item) → SpellsNode (item_text item) (at_place 0 item)
made-stands written item made =
    written-at written item (record { formed = made.1.formed; is_node = made.0; within = omega arith })

pub form-spells : NoFaultIsShape → WrittenSpells → (level : Level) (c : Crs) →
    IsAcceptedNormal level (crs_class c) 8 (at_place 0 (item_crs (norm_crs level c))) →
    ReadsCrs (crs_class c) (at_place 0 (item_crs (norm_crs level c))) (norm_crs level c) →
    Spells (item_text (item_crs (norm_crs level c))) (norm_crs level c)
form-spells law written level c made reads =
    let i : Item = item_crs (norm_crs level c) in (
      at_place 0 i,
      (
        made-stands written i made,
        made-spells law level (crs_class c) 8 (at_place 0 i) (norm_crs level c) (crs-rooted level c 0) made reads,
      ),
    )
