-- What the row at an item's number says of the tree.
use Rattle.std.proofs.Common.{◌≡◌, ◌≢◌, ℕ, zero, suc, ◌+◌, ◌≤◌, ◌<◌, Option, Some, List, [], ◌∷◌, ◌++◌, length, get_or, take, drop, map, refl, sym, ◌∙◌, ap, subst, arith, length-drop, inl, inr}
use Rattle.std.proofs.Math.ListN.{drop_of_length-le}
use Rattle.std.proofs.Math.Seq.{drop-cons, take-append_seam}
use Rattle.std.proofs.lemmas.Bool.{cases_lt}
use Rattle.std.proofs.lemmas.List.{length-map, map-append, get_or-map, get_or_past, drop-drop, drop-map}
use Rattle.crs_text.specs.Items.{Item, Siblings, End, More, arguments, count, first_of, rest_of, skip, size_of, here, HasId, IsAt}
use Rattle.crs_text.specs.inner.Table.{rows, row_of}
use Rattle.crs_text.specs.declared.table.Row.{Row}
use Rattle.crs_text.proofs.rows.HereLemmas.{Here, items_at, row_at, heres, Begins, Continues, IsLinked, AreLinked, length-rows, linked-heres, linked-drop, rows-heres, rows-heres_in, items-heres}

-- the item of a number, and what follows it in the order in which the items begin
record Spot (tree : Item) (id : ℕ) : Type 0 where
  it : Here
  behind : List Here
  is : drop id (heres tree) ≡ it ∷ behind
  items : here tree id ≡ items_at it
  row : (d : Row) → get_or (rows 0 tree) id d ≡ row_at it

pub length-heres : (tree : Item) → length (rows 0 tree) ≡ length (heres tree)
length-heres tree = ap (λ l. length l) (rows-heres tree) ∙ length-map (heres tree) row_at

pub items-at : (tree : Item) (id : ℕ) → here tree id ≡ get_or (map items_at (heres tree)) id End
unfolding here
items-at tree id = ap (λ l. get_or l id End) (sym (items-heres tree))

spot : (tree : Item) (id : ℕ) → id < length (rows 0 tree) → Spot tree id
spot tree id lt =
    let none : Here = record { depth = 0; item = tree; later = End } in
    let inner : id < length (heres tree) = omega (arith, length-heres tree) in
    record {
      it = get_or (heres tree) id none;
      behind = drop (suc id) (heres tree);
      is = drop-cons (heres tree) id none inner;
      items = items-at tree id ∙ get_or-map items_at (heres tree) id none End inner;
      row = λ d. ap (λ l. get_or l id d) (rows-heres tree) ∙ get_or-map row_at (heres tree) id none d inner;
    }

linked : (tree : Item) (id : ℕ) (s : Spot tree id) → IsLinked s.it s.behind
linked tree id s = (subst AreLinked s.is (linked-drop id (heres tree) (linked-heres tree))).0

-- the rows of an item come one after another from its number on
pub rows_here : (tree : Item) (id : ℕ) → id < length (rows 0 tree) →
    (depth : ℕ) × (take (size_of (first_of (here tree id))) (drop id (rows 0 tree)) ≡ rows depth (first_of (here tree id)))
rows_here tree id lt =
    let s = spot tree id lt in
    let inside = (linked tree id s).inside in
    let own = rows s.it.depth s.it.item in
    let later = map row_at inside.behind in
    let from : drop id (rows 0 tree) ≡ own ++ later =
    rw (rows-heres tree, drop-map, s.is) (ap (λ hs. row_at s.it ∷ map row_at hs) inside.is ∙ rw (map-append, rows-heres_in s.it.item s.it.depth)) in
    (s.it.depth, rw (s.items, from, ← length-rows s.it.item s.it.depth) (take-append_seam own later))

pub has_from_lt : (tree : Item) (id : ℕ) → id < length (rows 0 tree) → HasId tree id
has_from_lt tree id lt = let s = spot tree id lt in λ e. let k : items_at s.it ≡ End = sym s.items ∙ e in cc

pub lt_from_has : (tree : Item) (id : ℕ) → HasId tree id → id < length (rows 0 tree)
lt_from_has tree id h = elim (cases_lt id (length (rows 0 tree))) [
  | inl lt ↦ lt
  | inr le ↦ absurd (h (items-at tree id ∙ get_or_past (map items_at (heres tree)) id End (omega (arith, length-heres tree, length-map (heres tree) items_at))))
]

-- the row says what the item is
pub row_is : (tree : Item) (id : ℕ) (d : Row) → id < length (rows 0 tree) →
    get_or (rows 0 tree) id d ≡ row_of (get_or (rows 0 tree) id d).depth (first_of (here tree id))
row_is tree id d lt = let s = spot tree id lt in rw (s.row d, s.items)

-- an item and all in it end within the rows
pub size_within : (tree : Item) (id : ℕ) → id < length (rows 0 tree) → id + size_of (first_of (here tree id)) ≤ length (rows 0 tree)
size_within tree id lt =
    let s = spot tree id lt in
    rw s.items (omega (arith, (linked tree id s).within, length-heres tree, ap length s.is, length-drop id (heres tree)))

-- what follows a number is a spot of its own
spot_behind : (tree : Item) (at : ℕ) (h : Here) (hs : List Here) → drop at (heres tree) ≡ h ∷ hs → (here tree at ≡ items_at h) × ((d : Row) → get_or (rows 0 tree) at d ≡ row_at h)
spot_behind tree at h hs e =
    let s = spot tree at (omega (arith, length-heres tree, ap length e, length-drop at (heres tree))) in
    let same : s.it ∷ s.behind ≡ h ∷ hs = sym s.is ∙ e in
    let it : s.it ≡ h = cc in
    (s.items ∙ ap items_at it, λ d. s.row d ∙ ap row_at it)

at_from_begins : (tree : Item) (at : ℕ) (items : Siblings) (hs : List Here) → drop at (heres tree) ≡ hs → items ≢ End → Begins items hs → IsAt tree items (Some at)
at_from_begins tree at End hs e some h = absurd (some refl)
at_from_begins tree at (More item items) [] e some h = absurd h
at_from_begins tree at (More item items) (x ∷ hs) e some h =
    let is = (spot_behind tree at x hs e).0 ∙ h in
    (is, λ no. let k : More item items ≡ End = sym is ∙ no in cc)

-- the first argument comes directly after its node
pub first_at : (tree : Item) (id : ℕ) → id < length (rows 0 tree) → arguments (first_of (here tree id)) ≢ End →
    IsAt tree (arguments (first_of (here tree id))) (Some (id + 1))
first_at tree id lt some =
    let s = spot tree id lt in
    at_from_begins tree (id + 1) _ s.behind (sym (drop-drop 1 id (heres tree)) ∙ ap (drop 1) s.is) some (rw s.items (linked tree id s).first)

none_from_continues : (depth : ℕ) (items : Siblings) → Continues depth items [] → items ≡ End
none_from_continues depth End h = refl
none_from_continues depth (More item items) h = absurd h

continues_at : (tree : Item) (id : ℕ) → id < length (rows 0 tree) → (d : Row) →
    Continues (get_or (rows 0 tree) id d).depth (rest_of (here tree id)) (drop (id + size_of (first_of (here tree id))) (heres tree))
continues_at tree id lt d =
    let s = spot tree id lt in
    rw (s.items, s.row d, ← drop-drop (size_of s.it.item) id (heres tree), s.is) (linked tree id s).next

-- no item follows
pub next_none : (tree : Item) (id : ℕ) → id < length (rows 0 tree) → length (rows 0 tree) ≤ id + size_of (first_of (here tree id)) → rest_of (here tree id) ≡ End
next_none tree id lt end =
    let nil : drop (id + size_of (first_of (here tree id))) (heres tree) ≡ [] = drop_of_length-le (heres tree) (omega (arith, length-heres tree)) in
    none_from_continues _ _ (rw nil at (continues_at tree id lt (row_of 0 tree)))

-- an item follows: as deep it is the next argument, else there is none
next_by_depth : (tree : Item) (at depth : ℕ) (items : Siblings) (hs : List Here) (d : Row) → drop at (heres tree) ≡ hs → at < length (rows 0 tree) → Continues depth items hs →
    ((get_or (rows 0 tree) at d).depth ≡ depth → IsAt tree items (Some at)) × ((get_or (rows 0 tree) at d).depth ≢ depth → items ≡ End)
next_by_depth tree at depth items [] d e lt h = absurd (omega (arith, length-heres tree, ap length e, length-drop at (heres tree)))
next_by_depth tree at depth End (x ∷ hs) d e lt h =
    let r : (get_or (rows 0 tree) at d).depth ≡ x.depth = ap (λ r. r.depth) ((spot_behind tree at x hs e).1 d) in
    (λ same. absurd (omega arith), λ other. refl)
next_by_depth tree at depth (More item items) (x ∷ hs) d e lt h =
    let r : (get_or (rows 0 tree) at d).depth ≡ x.depth = ap (λ r. r.depth) ((spot_behind tree at x hs e).1 d) in
    (λ same. at_from_begins tree at (More item items) (x ∷ hs) e (λ no. cc) h.1, λ other. absurd (other (r ∙ h.0)))

pub here_root : (tree : Item) → here tree 0 ≡ More tree End
unfolding here
here_root tree = refl

pub has_root : (tree : Item) → HasId tree 0
has_root tree = λ e. let k : More tree End ≡ End = sym (here_root tree) ∙ e in cc

pub ruleset id_rules = (has_from_lt, lt_from_has, row_is, here_root, has_root)

some_from_count : (items : Siblings) → count items ≢ 0 → items ≢ End
some_from_count End h = absurd (h refl)
some_from_count (More item items) h = λ e. cc

-- the same facts of a row that is the one at the number
module _ (tree : Item) (id : ℕ) (row : Row) (has : HasId tree id) (is : row ≡ row_of row.depth (first_of (here tree id))) where
  size : row.size ≡ size_of (first_of (here tree id))
  size = ap (λ r. r.size) is

  pub row-within : id + row.size ≤ length (rows 0 tree)
  row-within = let e = size in let w = size_within tree id (lt_from_has tree id has) in omega arith

  pub row-first : row.count ≢ 0 → IsAt tree (arguments (first_of (here tree id))) (Some (id + 1))
  row-first h = first_at tree id (lt_from_has tree id has) (some_from_count (arguments (first_of (here tree id))) (λ e. h (ap (λ r. r.count) is ∙ e)))

  pub row-end : length (rows 0 tree) ≤ id + row.size → rest_of (here tree id) ≡ End
  row-end le = let e = size in next_none tree id (lt_from_has tree id has) (omega arith)

  -- what the row behind an item tells of the argument after it
  pub row-beside : (none next : Row) → row ≡ get_or (rows 0 tree) id none → id + row.size < length (rows 0 tree) → next ≡ get_or (rows 0 tree) (id + row.size) none →
      (next.depth ≡ row.depth → IsAt tree (rest_of (here tree id)) (Some (id + row.size))) × (next.depth ≢ row.depth → rest_of (here tree id) ≡ End)
  row-beside none next at more behind =
      let on : ℕ → Type 0 = λ n. Continues (get_or (rows 0 tree) id none).depth (rest_of (here tree id)) (drop (id + n) (heres tree)) in
      let r = next_by_depth tree (id + row.size) (get_or (rows 0 tree) id none).depth (rest_of (here tree id)) _ none refl more (subst on (sym size) (continues_at tree id (lt_from_has tree id has) none)) in
      (λ same. r.0 (sym (ap (λ r. r.depth) behind) ∙ same ∙ ap (λ r. r.depth) at), λ other. r.1 (λ e. other (ap (λ r. r.depth) behind ∙ e ∙ sym (ap (λ r. r.depth) at))))

pub within_table : (tree : Item) (id : ℕ) (table : List Row) (row : Row) → table ≡ rows 0 tree → HasId tree id → row ≡ get_or table id row → id + row.size ≤ length table
within_table tree id table row t has e =
    let lt = lt_from_has tree id has in
    let at : row ≡ get_or (rows 0 tree) id row = e ∙ ap (λ rs. get_or rs id row) t in
    rw t (row-within tree id row has (subst (λ r. r ≡ row_of r.depth (first_of (here tree id))) (sym at) (row_is tree id row lt)))

pub skip-more : (n : ℕ) (items : Siblings) → skip (n + 1) items ≡ rest_of (skip n items)
skip-more zero items = refl
skip-more (suc n) items = let e : suc n + 1 ≡ suc (n + 1) = omega arith in rw e (skip-more n (rest_of items))

skip-none : (n : ℕ) → skip n End ≡ End
skip-none zero = refl
skip-none (suc n) = skip-none n

pub skip-past : (n m : ℕ) (items : Siblings) → skip n items ≡ End → n ≤ m → skip m items ≡ End
skip-past zero m items e le = ap (λ is. skip m is) e ∙ skip-none m
skip-past (suc n) zero items e le = absurd (omega arith)
skip-past (suc n) (suc m) items e le = skip-past n m (rest_of items) e (omega arith)

-- from one argument to the next
pub at_next : (tree : Item) (items : Siblings) (n id : ℕ) (at : Option ℕ) → IsAt tree (skip n items) (Some id) → IsAt tree (rest_of (here tree id)) at → IsAt tree (skip (n + 1) items) at
at_next tree items n id at h next = rw skip-more (subst (λ is. IsAt tree (rest_of is) at) h.0 next)
