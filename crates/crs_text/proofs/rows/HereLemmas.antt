-- The rows of a tree, one by one: what an item's row says, and where its arguments and the argument
-- after it are.
use Rattle.std.proofs.Common.{◌≡◌, ℕ, zero, suc, ◌≤◌, ◌<◌, List, [], ◌∷◌, ◌++◌, length, drop, map, refl, ap, append_assoc, length-append, arith}
use Rattle.std.proofs.Math.Seq.{drop-append_seam}
use Rattle.std.proofs.lemmas.List.{append-nil, map-append}
use Rattle.crs_text.specs.Tokens.{number, text, word}
use Rattle.crs_text.specs.Items.{Item, leaf, node, Siblings, End, More, arguments, size_of, sizes, inside, inside_items}
use Rattle.crs_text.specs.inner.Table.{rows, rows_of_items, row_of}
use Rattle.crs_text.specs.declared.table.Row.{Row}

-- an item, how many delimiters are open around it, and the later arguments of its node
pub record Here : Type 0 where
  pub depth : ℕ
  pub item : Item
  pub later : Siblings

abbrev pub items_at : Here → Siblings
items_at h = More h.item h.later

abbrev pub row_at : Here → Row
row_at h = row_of h.depth h.item

abbrev mutual
  pub heres_in : ℕ → Item → List Here
  heres_in depth (leaf kind place raw) = []
  heres_in depth (node place keyword square first others close) =
      record { depth = suc depth; item = first; later = others } ∷ (heres_in (suc depth) first ++ heres_of (suc depth) others)

  pub heres_of : ℕ → Siblings → List Here
  heres_of depth End = []
  heres_of depth (More item items) = record { depth = depth; item = item; later = items } ∷ (heres_in depth item ++ heres_of depth items)

abbrev pub heres : Item → List Here
heres tree = record { depth = 0; item = tree; later = End } ∷ heres_in 0 tree

mutual
  items-heres_in : (item : Item) (depth : ℕ) → map items_at (heres_in depth item) ≡ inside item
  items-heres_in (leaf kind place raw) depth = refl
  items-heres_in (node place keyword square first others close) depth =
      simp (map-append, items-heres_in first (suc depth), items-heres_of others (suc depth))

  items-heres_of : (items : Siblings) (depth : ℕ) → map items_at (heres_of depth items) ≡ inside_items items
  items-heres_of End depth = refl
  items-heres_of (More item items) depth =
      simp (map-append, items-heres_in item depth, items-heres_of items depth)

mutual
  pub length-rows : (item : Item) (depth : ℕ) → length (rows depth item) ≡ size_of item
  length-rows (leaf kind place raw) depth = refl
  length-rows (node place keyword square first others close) depth =
      simp (length-append, length-rows first (suc depth), length-rows_of_items others (suc depth))

  length-rows_of_items : (items : Siblings) (depth : ℕ) → length (rows_of_items depth items) ≡ sizes items
  length-rows_of_items End depth = refl
  length-rows_of_items (More item items) depth =
      simp (length-append, length-rows item depth, length-rows_of_items items depth)

mutual
  pub rows-heres_in : (item : Item) (depth : ℕ) → rows depth item ≡ row_of depth item ∷ map row_at (heres_in depth item)
  rows-heres_in (leaf number place raw) depth = refl
  rows-heres_in (leaf text place raw) depth = refl
  rows-heres_in (leaf word place raw) depth = refl
  rows-heres_in (node place keyword square first others close) depth =
      rw (length-rows (node place keyword square first others close) depth) (simp (map-append, rows-heres_in first (suc depth), rows-heres_of others (suc depth)))

  rows-heres_of : (items : Siblings) (depth : ℕ) → rows_of_items depth items ≡ map row_at (heres_of depth items)
  rows-heres_of End depth = refl
  rows-heres_of (More item items) depth =
      simp (map-append, rows-heres_in item depth, rows-heres_of items depth)

pub rows-heres : (tree : Item) → rows 0 tree ≡ map row_at (heres tree)
rows-heres tree = rows-heres_in tree 0

pub items-heres : (tree : Item) → map items_at (heres tree) ≡ More tree End ∷ inside tree
items-heres tree = ap (λ l. More tree End ∷ l) (items-heres_in tree 0)

-- the first of these items is first in the list
abbrev pub Begins : Siblings → List Here → Type 0
Begins End hs = Unit {0}
Begins (More item items) [] = ⊥
Begins (More item items) (h ∷ hs) = items_at h ≡ More item items

-- what follows an item and all in it: the next argument, as deep, or something less deep
abbrev pub Continues : ℕ → Siblings → List Here → Type 0
Continues depth End [] = Unit {0}
Continues depth End (h ∷ hs) = h.depth < depth
Continues depth (More item items) [] = ⊥
Continues depth (More item items) (h ∷ hs) = (h.depth ≡ depth) × (items_at h ≡ More item items)

-- what follows an item begins with what is in it
pub record IsFollowed (h : Here) (hs : List Here) : Type 0 where
  pub behind : List Here
  pub is : hs ≡ heres_in h.depth h.item ++ behind

pub record IsLinked (h : Here) (hs : List Here) : Type 0 where
  pub inside : IsFollowed h hs
  pub within : size_of h.item ≤ suc (length hs)
  pub first : Begins (arguments h.item) hs
  pub next : Continues h.depth h.later (drop (size_of h.item) (h ∷ hs))

abbrev pub AreLinked : List Here → Type 0
AreLinked [] = Unit {0}
AreLinked (h ∷ hs) = IsLinked h hs × AreLinked hs

abbrev pub IsLessDeep : ℕ → List Here → Type 0
IsLessDeep depth [] = Unit {0}
IsLessDeep depth (h ∷ hs) = h.depth < depth

mutual
  pub length-heres_in : (item : Item) (depth : ℕ) → suc (length (heres_in depth item)) ≡ size_of item
  length-heres_in (leaf kind place raw) depth = refl
  length-heres_in (node place keyword square first others close) depth =
      simp length-append (omega (arith, length-heres_in first (suc depth), length-heres_of others (suc depth)))

  pub length-heres_of : (items : Siblings) (depth : ℕ) → length (heres_of depth items) ≡ sizes items
  length-heres_of End depth = refl
  length-heres_of (More item items) depth =
      simp length-append (omega (arith, length-heres_in item depth, length-heres_of items depth))

continues-heres_of : (items : Siblings) (depth : ℕ) (hs : List Here) → IsLessDeep depth hs → Continues depth items (heres_of depth items ++ hs)
continues-heres_of End depth [] h = tt
continues-heres_of End depth (x ∷ hs) h = h
continues-heres_of (More item items) depth hs h = (refl, refl)

less_deep-heres_of : (items : Siblings) (depth : ℕ) (hs : List Here) → IsLessDeep depth hs → IsLessDeep (suc depth) (heres_of depth items ++ hs)
less_deep-heres_of End depth [] h = tt
less_deep-heres_of End depth (x ∷ hs) h = omega arith
less_deep-heres_of (More item items) depth hs h = omega arith

begins-heres_in : (item : Item) (depth : ℕ) (hs : List Here) → Begins (arguments item) (heres_in depth item ++ hs)
begins-heres_in (leaf kind place raw) depth hs = tt
begins-heres_in (node place keyword square first others close) depth hs = refl

-- an item in front of what is linked
linked-item : (item : Item) (later : Siblings) (depth : ℕ) (hs : List Here) → IsLessDeep depth hs →
    AreLinked (heres_in depth item ++ (heres_of depth later ++ hs)) →
    AreLinked (record { depth = depth; item = item; later = later } ∷ ((heres_in depth item ++ heres_of depth later) ++ hs))
linked-item item later depth hs less linked =
    let size = length-heres_in item depth in
    rw append_assoc (
      record {
        inside = record { behind = heres_of depth later ++ hs; is = refl };
        within = simp length-append (omega (arith, size));
        first = begins-heres_in item depth (heres_of depth later ++ hs);
        next = rw (← size, drop-append_seam (heres_in depth item) (heres_of depth later ++ hs)) (continues-heres_of later depth hs less);
      },
      linked,
    )

mutual
  linked-heres_in : (item : Item) (depth : ℕ) (hs : List Here) → IsLessDeep (suc depth) hs → AreLinked hs → AreLinked (heres_in depth item ++ hs)
  linked-heres_in (leaf kind place raw) depth hs less linked = linked
  linked-heres_in (node place keyword square first others close) depth hs less linked =
      linked-item first others (suc depth) hs less
      (linked-heres_in first (suc depth) (heres_of (suc depth) others ++ hs) (less_deep-heres_of others (suc depth) hs less) (linked-heres_of others (suc depth) hs less linked))

  linked-heres_of : (items : Siblings) (depth : ℕ) (hs : List Here) → IsLessDeep depth hs → AreLinked hs → AreLinked (heres_of depth items ++ hs)
  linked-heres_of End depth hs less linked = linked
  linked-heres_of (More item items) depth hs less linked =
      linked-item item items depth hs less
      (linked-heres_in item depth (heres_of depth items ++ hs) (less_deep-heres_of items depth hs less) (linked-heres_of items depth hs less linked))

pub linked-heres : (tree : Item) → AreLinked (heres tree)
linked-heres tree = simp append-nil at (linked-item tree End 0 [] tt (linked-heres_in tree 0 [] tt tt))

pub linked-drop : (n : ℕ) (hs : List Here) → AreLinked hs → AreLinked (drop n hs)
linked-drop zero hs h = h
linked-drop (suc n) [] h = tt
linked-drop (suc n) (x ∷ hs) h = linked-drop n hs h.1
