-- What the keyword that an item was read with says of a node, whose word it is.
use Rattle.std.proofs.Common.{◌≡◌, ℕ, Bool, true, false, List, [], ◌∷◌, Some, if◌then◌else◌, refl}
use Rattle.std.specs.List.{find}
use Rattle.std.proofs.lemmas.Bool.{or_parts}
use denote.Enum.Bare.{sameb}
use Rattle.crs_text.specs.inner.Prelude.{number, text, word, Item, leaf, node, Siblings, kind_of_item, raw_of, keyword_in, AreSpelled}
use Rattle.crs_text.specs.declared.items.ItemKind.TheVariants.{Node}
use Rattle.crs_shape.specs.contracts.class.Class.{the_type}
use Rattle.crs_shape.specs.declared.class.Class.{Class}
use Rattle.crs_shape.specs.Keywords.{is_known}
use Rattle.crs_shape.specs.inner.KeywordTable.{classes_by, is_among, is_part, is_root}
use Rattle.crs_shape.specs.Shape.{has_class, is_class}
use Rattle.crs_shape.specs.ShapeFault.{class_in, class_of_root, is_of}
use Rattle.crs_shape.proofs.naming.KeywordLemmas.{class_named-table, root_named-table, is_known-table, is_keyword-table}

-- what holds of nodes holds of an item that is one
pub of-nodes : (P : Item → Type 0) → ((place : ℕ) (keyword : List ℕ) (square : Bool) (first : Item) (others : Siblings) (close : ℕ) → P (node place keyword square first others close)) →
    (item : Item) → Node ≡ kind_of_item item → P item
of-nodes P h (leaf number place raw) e = cc
of-nodes P h (leaf text place raw) e = cc
of-nodes P h (leaf word place raw) e = cc
of-nodes P h (node place keyword square first others close) e = h place keyword square first others close

pub class_in-node : AreSpelled → (parent : Class) (item : Item) → Node ≡ kind_of_item item →
    find (is_part parent) (classes_by (keyword_in item)) ≡ class_in parent item
class_in-node law parent = of-nodes _ (λ place keyword square first others close. class_named-table law parent keyword)

pub class_of_root-node : AreSpelled → (item : Item) → Node ≡ kind_of_item item → find is_root (classes_by (keyword_in item)) ≡ class_of_root item
class_of_root-node law = of-nodes _ (λ place keyword square first others close. root_named-table law keyword)

pub is_of-node : AreSpelled → (c : Class) (item : Item) → Node ≡ kind_of_item item → is_among c (classes_by (keyword_in item)) ≡ is_of c item
is_of-node law c = of-nodes _ (λ place keyword square first others close. is_keyword-table law c keyword)

pub is_known-node : AreSpelled → (item : Item) → Node ≡ kind_of_item item → has_class (classes_by (keyword_in item)) ≡ is_known (raw_of item)
is_known-node law = of-nodes _ (λ place keyword square first others close. is_known-table law keyword)

-- a class that isn't among some isn't the first of them that passes
pub not-among : (c : Class) (test : Class → Bool) (cs : List Class) → is_among c cs ≡ false → is_class c (find test cs) ≡ false
not-among c test [] e = refl
not-among c test (d ∷ ds) e =
    elim (test d) as (λ b. is_class c (if b then Some d else find test ds) ≡ false) [
      | true ↦ (or_parts (sameb the_type d c) (is_among c ds) e).0
      | false ↦ not-among c test ds (or_parts (sameb the_type d c) (is_among c ds) e).1
    ]
