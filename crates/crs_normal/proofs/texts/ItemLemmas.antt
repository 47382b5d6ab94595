-- Written items: numbers, nodes that may have no arguments, and nodes that can be written.
use Rattle.std.proofs.Common.{◌≡◌, ◌≤◌, ℕ, ◌+◌, Some, List, [], ◌∷◌, length, refl, sym, subst, ◌≢◌}
use Rattle.crs_decimal.specs.inner.Prelude.{IsInBounds, IsRun}
use Rattle.crs_text.specs.inner.Prelude.{Item, Siblings, End, More, arguments, depth, IsNode, SpellsNode, number, IsSingle, AreFormed, at_place, at_places, item_text}
use Rattle.crs_normal.specs.inner.SpelledItems.{node_from}
use Rattle.crs_normal.specs.inner.LowerLaws.{LowerLaws}
use Rattle.crs_shape.specs.inner.Prelude.{class_in, class_named}
use Rattle.crs_shape.specs.declared.class.Class.{Class}

-- ---- numbers

pub run-single : (raw : List ℕ) → IsRun raw → IsInBounds raw → IsSingle number raw
run-single [] r b = absurd r
run-single (c ∷ cs) r b = (r.0, r.1, b)

-- the arguments of a node that may have none
pub from-arguments : (keyword : List ℕ) (items : Siblings) (place : ℕ) →
    arguments (at_place place (node_from keyword items)) ≡ at_places (place + length keyword) items
from-arguments keyword End place = refl
from-arguments keyword (More first others) place = refl

pub from-some : (keyword : List ℕ) (items : Siblings) → IsNode (node_from keyword items) → items ≢ End
from-some keyword End n e = n
from-some keyword (More first others) n e = cc

pub from-named : (c d : Class) (keyword : List ℕ) (items : Siblings) → IsNode (node_from keyword items) →
    class_named c keyword ≡ Some d → class_in c (node_from keyword items) ≡ Some d
from-named c d keyword End n named = absurd n
from-named c d keyword (More first others) n named = named

-- ---- equal texts

-- a node that can be written
pub record IsWritable (item : Item) : Type 0 where
  pub formed : AreFormed item
  pub is_node : IsNode item
  pub within : depth item ≤ 12

-- writable items with the same text are equal but for places and delimiters
pub one-by-text : LowerLaws → (i j : Item) → IsWritable i → IsWritable j → item_text i ≡ item_text j →
    at_place 0 i ≡ at_place 0 j
one-by-text laws i j a b e =
    laws.one_node (item_text i) (at_place 0 i) (at_place 0 j) (laws.spells i a.formed a.is_node a.within)
    (subst (λ t. SpellsNode t (at_place 0 j)) (sym e) (laws.spells j b.formed b.is_node b.within))
