-- What is remembered of texts stays known as groups grow, and what is known of a text is how it is put.
use Rattle.std.proofs.Common.{◌≡◌, ◌<◌, ◌≤◌, ◌+◌, ◌-◌, ◌++◌, ◌∷◌, [], ℕ, zero, suc, List, Option, Some, None, Result, Ok, Err, length, get_or, slice_get, slice_set, inl, inr, refl, arith, add-one, All, IfOk, IfSome}
use Rattle.std.specs.List.{HoldsAt}
use Rattle.std.specs.declared.alloc.AllocError.{AllocError}
use Rattle.std.proofs.lemmas.List.{length-map, map-append}
use Rattle.std.proofs.lemmas.List.Elements.{All-nil, All-same, All-set}
use Rattle.std.proofs.lemmas.Option.{slice_get-map, slice_get_within}
use Rattle.crs_value.specs.declared.values.level.Level.{Level}
use Rattle.crs_writer.specs.inner.Prelude.{CanonicalText, IsCanonicalOf}
use Rattle.crs_group.specs.Catalogue.{GroupParts, canons}
use Rattle.crs_group.specs.inner.Putting.{IsJoined, IsPut, group_of, with_line}
use Rattle.crs_group.specs.declared.placed.Placed.{Placed}
use Rattle.crs_group.specs.declared.placed.Placed.TheVariants.{Group}
use Rattle.crs_group.specs.GroupTexts.{IsUnder}
use Rattle.crs_group.specs.inner.Known.{AreKnown, HasGroup, IsKnown, KnownText}
use Rattle.crs_group.proofs.ListLemmas.{get-front, get-last, map-changed}

-- nothing is known where nothing is remembered
pub none-known : (level : Level) (texts : List CanonicalText) (recent : List KnownText) → recent ≡ []
    → AreKnown level texts recent
none-known level texts recent is =
    All-same (IsKnown level texts) recent [] is (All-nil (IsKnown level texts))

if-none : (level : Level) (texts : List CanonicalText) (text : List ℕ) (group : Option ℕ) → group ≡ None
    → IfSome group (HasGroup level texts text)
if-none level texts text None is = tt
if-none level texts text (Some at) is = absurd cc

pub unfilled-known : (level : Level) (texts : List CanonicalText) (recent : List KnownText)
    → All (λ known. known.group ≡ None) recent → AreKnown level texts recent
unfilled-known level texts recent none k d within =
    if-none level texts (get_or recent k d).text (get_or recent k d).group (none k d within)

-- further groups
group-kept : (level : Level) (texts more : List CanonicalText) (text : List ℕ) (group : Option ℕ)
    → IfSome group (HasGroup level texts text) → IfSome group (HasGroup level (texts ++ more) text)
group-kept level texts more text None has = tt
group-kept level texts more text (Some at) has = let found = get-front texts more at has.canon has.found in search found

more-known : (level : Level) (texts more : List CanonicalText) (recent : List KnownText)
    → AreKnown level texts recent → AreKnown level (texts ++ more) recent
more-known level texts more recent known k d within =
    group-kept level texts more (get_or recent k d).text (get_or recent k d).group (known k d within)

pub opened-known : (level : Level) (canon : CanonicalText) (line : ℕ) (before behind : List GroupParts)
    (recent : List KnownText) → behind ≡ before ++ group_of canon line ∷ []
    → AreKnown level (canons before) recent → AreKnown level (canons behind) recent
opened-known level canon line before behind recent longer known =
    rw (longer, map-append) (more-known level (canons before) (canon ∷ []) recent known)

-- a further line leaves the texts of the groups
joined-canons : (at line : ℕ) (before behind : List GroupParts) → IsJoined at line before behind
    → canons behind ≡ canons before
joined-canons at line before behind joined =
    rw joined.changed (map-changed (λ g. g.canon) before at joined.group (with_line line joined.group) joined.found refl)

pub joined-known : (level : Level) (at line : ℕ) (before behind : List GroupParts) (recent : List KnownText)
    → IsJoined at line before behind → AreKnown level (canons before) recent
    → AreKnown level (canons behind) recent
joined-known level at line before behind recent joined known = rw (joined-canons at line before behind joined) known

-- a text that is put among the groups is remembered with its group
pub put-under : (level : Level) (text : List ℕ) (canon : CanonicalText) (line : ℕ)
    (before behind : List GroupParts) (place : Placed) → IsCanonicalOf level text canon.bytes
    → canon.level ≡ level → IsPut canon line before behind place
    → IsUnder IsCanonicalOf level (canons behind) text place
put-under level text canon line before behind place canonical of (inl (at, is, found, joined)) =
    rw (is, add-one) (canon, rw (joined-canons at line before behind joined) found, of, canonical)
put-under level text canon line before behind place canonical of (inr (new, is, longer)) =
    rw (is, add-one) (canon, last, of, canonical)
  where
    last : slice_get (canons behind) (length before) ≡ Some canon
    last = rw (longer, slice_get-map, get-last) refl

-- the place of a group that is counted from 1
pub under-has : (level : Level) (texts : List CanonicalText) (text : List ℕ) (number : ℕ)
    → IsUnder IsCanonicalOf level texts text (Group number)
    → (1 ≤ number) × HasGroup level texts text (number - 1)
under-has level texts text zero under = cc (under.1)
under-has level texts text (suc at) under =
    let one : suc at - 1 ≡ at = omega arith in
    let has : HasGroup level texts text at =
    record { canon = under.0; found = under.1; is_at_level = under.2; is_canonical = under.3 } in
    (omega arith, rw one has)

-- the group that is found is one of the groups
has-within : (level : Level) (groups : List GroupParts) (text : List ℕ) (at : ℕ)
    → HasGroup level (canons groups) text at → at < length groups
has-within level groups text at has =
    let within : at < length (canons groups) = slice_get_within (canons groups) at has.canon has.found in
    omega (arith, length-map groups (λ (g : GroupParts). g.canon))

pub all-within : (level : Level) (groups : List GroupParts) (text : List ℕ) (found : Option ℕ)
    → IfSome found (HasGroup level (canons groups) text) → IfSome found (λ at. at < length groups)
all-within level groups text None has = tt
all-within level groups text (Some at) has = has-within level groups text at has

-- what is found among what is remembered
pub found-known : (level : Level) (texts : List CanonicalText) (recent : List KnownText) (text : List ℕ)
    (found : Option ℕ)
    → IfSome found (λ at. (l : Level) (ts : List CanonicalText) → AreKnown l ts recent → HasGroup l ts text at)
    → AreKnown level texts recent → IfSome found (HasGroup level texts text)
found-known level texts recent text None of known = tt
found-known level texts recent text (Some at) of known = of level texts known

pub found-at : (recent : List KnownText) (k : ℕ) (line : KnownText) (text : List ℕ) (found : Option ℕ)
    → k < length recent → HoldsAt (λ known. line ≡ known) recent k
    → IfSome found (λ at. (line.text ≡ text) × (line.group ≡ Some at))
    → IfSome found (λ at. (level : Level) (texts : List CanonicalText) → AreKnown level texts recent
    → HasGroup level texts text at)
found-at recent k line text None within here is = tt
found-at recent k line text (Some at) within here is = λ level texts known.
    let this : IsKnown level texts line = rw (here line) (known k line within) in rw is.0 at (rw is.1 at this)

-- a line takes the place of another
line-known : (level : Level) (texts : List CanonicalText) (text own : List ℕ) (group : ℕ) (found : Option ℕ)
    → IfSome found (λ at. (at ≡ group) × (own ≡ text)) → HasGroup level texts text group
    → IfSome found (HasGroup level texts own)
line-known level texts text own group None is has = tt
line-known level texts text own group (Some at) is has = rw (is.0, is.1) has

pub changed-known : (level : Level) (texts : List CanonicalText) (recent : List KnownText) (k : ℕ)
    (line : KnownText) (text : List ℕ) (group : ℕ) → IfSome line.group (λ at. (at ≡ group) × (line.text ≡ text))
    → HasGroup level texts text group → AreKnown level texts recent
    → AreKnown level texts (slice_set recent k line)
changed-known level texts recent k line text group is has known =
    All-set (IsKnown level texts) recent k line
    (line-known level texts text line.text group line.group is has) known

-- a line joins the group of its text
pub joined-put : (canon : CanonicalText) (line at : ℕ) (before behind : List GroupParts)
    (r : Result Placed AllocError) → slice_get (canons before) at ≡ Some canon
    → IfOk r (λ place. (place ≡ Group (at + 1)) × IsJoined at line before behind)
    → IfOk r (IsPut canon line before behind)
joined-put canon line at before behind (Ok place) found joined = inl (at, joined.0, found, joined.1)
joined-put canon line at before behind (Err error) found joined = tt
