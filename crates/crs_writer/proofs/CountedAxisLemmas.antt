-- Axes that are looked for, and counted, among items.
use Rattle.std.proofs.Common.{◌≡◌, ℕ, suc, ◌+◌, ◌≤◌, Bool, true, false, List, [], ◌∷◌, Option, Some, None, if◌then◌else◌, length, refl, ap, arith}
use Rattle.crs_text.specs.inner.Prelude.{Item, Siblings, End, More, count, rest_of, here}
use Rattle.crs_shape.specs.declared.class.Class.{Class}
use Rattle.crs_value.specs.inner.Prelude.{from_found, is_a, item_at, those, Holds, ReadsEach, AxisParts}
use Rattle.crs_normal.specs.inner.Prelude.{axis_at, is_at}

-- so many were seen before
pub record Counting (tree : Item) (parent c : Class) (whole : List Item) (index : ℕ) (at : Option ℕ) : Type 0 where
  pub holds : Holds tree at
  pub counted : index + length (from_found tree parent c at) ≡ length whole

pub counting-first : (tree : Item) (parent c : Class) (whole : List Item) (at : Option ℕ) → Holds tree at → from_found tree parent c at ≡ whole →
    Counting tree parent c whole 0 at
counting-first tree parent c whole at holds all = record { holds = holds; counted = omega (arith, ap length all) }

pub counting-on : (tree : Item) (parent c : Class) (whole : List Item) (index id : ℕ) (at : Option ℕ) → Counting tree parent c whole index (Some id) →
    Holds tree at → from_found tree parent c at ≡ those parent c (rest_of (here tree id)) → Counting tree parent c whole (index + 1) at
counting-on tree parent c whole index id at so holds all = record { holds = holds; counted = omega (arith, so.counted, ap length all) }

few : (parent c : Class) (items : Siblings) → length (those parent c items) ≤ count items
few parent c End = omega arith
few parent c (More item items) = by (is_a parent c item) (few parent c items)
  where
    by : (b : Bool) → length (those parent c items) ≤ count items →
        length (if b then item ∷ those parent c items else those parent c items) ≤ suc (count items)
    by true e = omega (arith, e)
    by false e = omega (arith, e)

-- one more is no more than there are arguments
pub counting-less : (tree : Item) (parent c : Class) (all : Siblings) (index id : ℕ) → Counting tree parent c (those parent c all) index (Some id) →
    index + 1 ≤ count all
counting-less tree parent c all index id so = omega (arith, few parent c all)

pub counting-end : (tree : Item) (parent c : Class) (whole : List Item) (index : ℕ) → Counting tree parent c whole index None → index ≡ length whole
counting-end tree parent c whole index so = omega arith

-- ---- the axis at a position

-- the axis at the position is among those that are left
pub record Seeking (R : Class → Item → AxisParts → Type 0) (position : ℕ) (tree : Item) (parent c : Class) (whole : List Item) (index : ℕ)
    (at : Option ℕ) : Type 0 where
  pub counting : Counting tree parent c whole index at
  pub left : (axes : List AxisParts) → ReadsEach (R c) whole axes → (rest : List AxisParts) × ReadsEach (R c) (from_found tree parent c at) rest
      × (axis_at position (index + 1) rest ≡ axis_at position 1 axes)

pub seeking-first : (R : Class → Item → AxisParts → Type 0) (position : ℕ) (tree : Item) (parent c : Class) (whole : List Item) (at : Option ℕ) →
    Holds tree at → from_found tree parent c at ≡ whole → Seeking R position tree parent c whole 0 at
seeking-first R position tree parent c whole at holds all = record {
  counting = counting-first tree parent c whole at holds all;
  left = λ axes h. (axes, rw (← all) at h, refl);
}

passed : (R : Class → Item → AxisParts → Type 0) (position : ℕ) (tree : Item) (parent c : Class) (place id : ℕ) (at : Option ℕ) (there : Option AxisParts) →
    ((axis : AxisParts) → R c (item_at tree id) axis → false ≡ is_at position place axis.order) →
    from_found tree parent c at ≡ those parent c (rest_of (here tree id)) → (rest : List AxisParts) →
    ReadsEach (R c) (from_found tree parent c (Some id)) rest → axis_at position place rest ≡ there →
    (left : List AxisParts) × ReadsEach (R c) (from_found tree parent c at) left × (axis_at position (place + 1) left ≡ there)
passed R position tree parent c place id at there wrong all [] h e = absurd h
passed R position tree parent c place id at there wrong all (axis ∷ axes) h e =
    (axes, rw (← all) at h.1, rw (← wrong axis h.0) at e)

pub seeking-on : (R : Class → Item → AxisParts → Type 0) (position : ℕ) (tree : Item) (parent c : Class) (whole : List Item) (index id : ℕ) (at : Option ℕ) →
    Seeking R position tree parent c whole index (Some id) →
    ((axis : AxisParts) → R c (item_at tree id) axis → false ≡ is_at position (index + 1) axis.order) →
    Holds tree at → from_found tree parent c at ≡ those parent c (rest_of (here tree id)) → Seeking R position tree parent c whole (index + 1) at
seeking-on R position tree parent c whole index id at so wrong holds all = record {
  counting = counting-on tree parent c whole index id at so.counting holds all;
  left = λ axes h.
      let (rest, reads, same) = so.left axes h in
      passed R position tree parent c (index + 1) id at (axis_at position 1 axes) wrong all rest reads same;
}
