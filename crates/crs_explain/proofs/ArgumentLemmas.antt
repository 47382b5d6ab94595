-- Arguments one after another, by their numbers in the tree.
use Rattle.std.proofs.Common.{◌≡◌, ◌≢◌, ◌≤◌, ◌<◌, ◌+◌, ℕ, Option, Some, None, refl, subst, sym, ap, ◌∙◌, arith, if◌then◌else◌, nat_le}
use Rattle.crs_text.specs.declared.keyword.Keyword.TheVariants as keyword
use Rattle.crs_text.specs.inner.Prelude.{Item, Siblings, End, More, HasId, IsAt, count, first_of, here, place_of, rest_of}
use Rattle.crs_value.specs.inner.Prelude.{Holds, ahead, item_at}
use Rattle.crs_explain.specs.Around.{is_called, last_at}
use Rattle.crs_explain.specs.Expected.{axes_among}

-- the items from an argument on
pub ahead_is : (tree : Item) (items : Siblings) (at : Option ℕ) → IsAt tree items at → ahead tree at ≡ items
ahead_is tree items None is = sym is
ahead_is tree items (Some id) is = is.0

pub holds : (tree : Item) (items : Siblings) (at : Option ℕ) → IsAt tree items at → Holds tree at
holds tree items None is = tt
holds tree items (Some id) is = is.1

-- the first of some items counts
axes_first : (items : Siblings) → items ≢ End →
    axes_among items ≡ (if is_called keyword.Axis (first_of items) then 1 else 0) + axes_among (rest_of items)
axes_first End some = absurd (some refl)
axes_first (More item items) some = refl

count_first : (items : Siblings) → items ≢ End → count items ≡ 1 + count (rest_of items)
count_first End some = absurd (some refl)
count_first (More item items) some = omega arith

-- fewer arguments are ahead of the next
pub fewer : (tree : Item) (now next : Option ℕ) (id : ℕ) → now ≡ Some id → Holds tree now →
    IsAt tree (rest_of (here tree id)) next → count (ahead tree next) < count (ahead tree now)
fewer tree now next id is has follows =
    let there : HasId tree id = subst (Holds tree) is has in
    let more : count (ahead tree now) ≡ count (here tree id) = ap (λ o. count (ahead tree o)) is in
    omega (arith, more, count_first (here tree id) there, ap count (ahead_is tree _ next follows))

last_first : (place : ℕ) (other : Item) (items : Siblings) → items ≢ End →
    last_at place other items
    ≡ last_at place (if nat_le (place_of (first_of items)) place then first_of items else other) (rest_of items)
last_first place other End some = absurd (some refl)
last_first place other (More item items) some = refl

-- so many axes were counted before an argument, of all that there are; there are no more than arguments
pub record Counted (tree : Item) (all : Siblings) (counted : ℕ) (at : Option ℕ) : Type 0 where
  pub has : Holds tree at
  pub same : counted + axes_among (ahead tree at) ≡ axes_among all
  pub few : counted + count (ahead tree at) ≤ count all

pub counted_none : (tree : Item) (all : Siblings) (at : Option ℕ) → IsAt tree all at → Counted tree all 0 at
counted_none tree all at is = record {
  has = holds tree all at is;
  same = omega (arith, ap axes_among (ahead_is tree all at is));
  few = omega (arith, ap count (ahead_is tree all at is));
}

pub counted_more : (tree : Item) (all : Siblings) (counted one id : ℕ) (at : Option ℕ) →
    Counted tree all counted (Some id) →
    one ≡ (if is_called keyword.Axis (item_at tree id) then 1 else 0) → one ≤ 1 →
    IsAt tree (rest_of (here tree id)) at → Counted tree all (counted + one) at
counted_more tree all counted one id at so_far is small follows =
    let e : ahead tree at ≡ rest_of (here tree id) = ahead_is tree _ at follows in
    let h : axes_among (here tree id) ≡ one + axes_among (rest_of (here tree id)) = rw is (axes_first (here tree id) so_far.has) in
    record {
      has = holds tree _ at follows;
      same = omega (arith, ap axes_among e, h, so_far.same);
      few = omega (arith, ap count e, count_first (here tree id) so_far.has, small, so_far.few);
    }

-- one more is counted within what a number holds
pub counted_fits : (tree : Item) (all : Siblings) (counted one id most : ℕ) → Counted tree all counted (Some id) → one ≤ 1 →
    most ≡ count all → counted + one ≤ most
counted_fits tree all counted one id most so_far small is =
    omega (arith, so_far.few, count_first (here tree id) so_far.has, small, is)

-- no argument is left
pub counted_all : (tree : Item) (all : Siblings) (counted : ℕ) → Counted tree all counted None → counted ≡ axes_among all
counted_all tree all counted so_far = omega (arith, so_far.same)

-- the last argument at a place or before it, among those before this one
pub record Found (tree : Item) (all : Siblings) (place : ℕ) (other : Item) (found : ℕ) (at : Option ℕ) : Type 0 where
  pub is_there : HasId tree found
  pub has : Holds tree at
  pub same : last_at place (item_at tree found) (ahead tree at) ≡ last_at place other all

pub found_none : (tree : Item) (all : Siblings) (place found : ℕ) (at : Option ℕ) → HasId tree found → IsAt tree all at →
    Found tree all place (item_at tree found) found at
found_none tree all place found at there is = record {
  is_there = there;
  has = holds tree all at is;
  same = ap (last_at place (item_at tree found)) (ahead_is tree all at is);
}

pub found_more : (tree : Item) (all : Siblings) (place : ℕ) (other : Item) (found next id : ℕ) (at : Option ℕ) →
    Found tree all place other found (Some id) → HasId tree next →
    item_at tree next ≡ (if nat_le (place_of (item_at tree id)) place then item_at tree id else item_at tree found) →
    IsAt tree (rest_of (here tree id)) at → Found tree all place other next at
found_more tree all place other found next id at so_far there is follows = record {
  is_there = there;
  has = holds tree _ at follows;
  same = ap (last_at place (item_at tree next)) (ahead_is tree _ at follows)
      ∙ ap (λ item. last_at place item (rest_of (here tree id))) is
      ∙ sym (last_first place (item_at tree found) (here tree id) so_far.has)
      ∙ so_far.same;
}
