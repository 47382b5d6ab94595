-- What becomes of a catalogue when a further line is placed.
use Rattle.std.proofs.Common.{◌≡◌, ◌↔◌, ◌⊎◌, ◌<◌, ◌≤◌, ◌++◌, Bool, false, ◌∷◌, [], ℕ, zero, suc, List, Some, length, slice_get, slice_set, inl, inr, ap, sym, refl, ◌∙◌, arith, add-one, length-append, Result, Ok, Err, IfOk, OnOk}
use Rattle.std.proofs.lemmas.Option.{slice_get-map, slice_get_within}
use Rattle.std.specs.Option.{option_map}
use Rattle.std.proofs.lemmas.List.{append-nil, length-set, map-append}
use Rattle.crs_text.specs.inner.Prelude.{RefusedAt, IsWhite, is_white}
use Rattle.crs_text.specs.declared.fault.Fault.{Fault}
use Rattle.std.specs.List.{list_all}
use Rattle.std.specs.declared.alloc.AllocError.{AllocError}
use Rattle.crs_value.specs.inner.Prelude.{Refuses, IsFaultOfText}
use Rattle.crs_value.specs.declared.values.level.Level.{Level}
use Rattle.crs_writer.specs.inner.Prelude.{CanonicalText, IsCanonicalOf}
use Rattle.crs_canon.specs.MainTheorem.{IsAccepted, MainTheorem}
use Rattle.crs_rules.specs.Rules.{RulesParts}
use Rattle.crs_rules.specs.Rewritten.{IsForm}
use Rattle.crs_group.specs.Catalogue.{CatalogueParts, GroupParts, Line, canons, line_of, nth}
use Rattle.crs_group.specs.GroupTexts.{IsCatalogueBy, IsCatalogueOfBy, IsUnder, then_line, Counts, IsPlacedAs, PlacedLine, ShareWhereSame, if_refused, in_group, lines_in}
use Rattle.crs_group.specs.UnderRules.{ShareWhereSameUnder}
use Rattle.crs_value.specs.Sound.{Each}
use Rattle.crs_group.specs.inner.Putting.{IsJoined, IsNew, IsPut, IsRefused, group_of, with_line}
use Rattle.crs_group.specs.declared.placed.Placed.{Placed}
use Rattle.crs_group.specs.declared.placed.Placed.TheVariants.{Blank, Refused, Group}
use Rattle.crs_group.proofs.ListLemmas.{each-append, each-by, get-last, if-equal, if-other, map-changed, nth-changed, nth-either, nth-front}
use Rattle.crs_group.proofs.PartitionLemmas.{lines-append, lines-none, numbered-append, refused-append}

-- the place of a member is within the list
get-within : {A : Type 0} (xs : List A) (at : ℕ) (x : A) → slice_get xs at ≡ Some x → suc at ≤ length xs
get-within xs at x e = let h = slice_get_within xs at x e in omega arith

past-end : {A : Type 0} (xs : List A) (n : ℕ) (x : A) → nth n xs ≡ Some x → suc (length xs) ≡ n → ⊥
past-end xs zero x e h = cc
past-end xs (suc at) x e h = let k : at < length xs = slice_get_within xs at x e in absurd (omega arith)

-- no canonical text is there twice
abbrev pub AreApart : List CanonicalText → Type 0
AreApart texts = (m n : ℕ) (canon : CanonicalText) → nth m texts ≡ Some canon → nth n texts ≡ Some canon → m ≡ n

same-parts : (a b : CanonicalText) → a.bytes ≡ b.bytes → a.level ≡ b.level → a ≡ b
same-parts a b bytes level = λ i. record { bytes = bytes i; level = level i }

-- groups whose texts have the same bytes are one
one-group : (Form : Level → List ℕ → List ℕ → Type 0) (level : Level) (texts : List CanonicalText) → AreApart texts
    → (a b : List ℕ) (m n : ℕ) (up : IsUnder Form level texts a (Group m)) (uq : IsUnder Form level texts b (Group n))
    → (m ≡ n) ↔ (up.0.bytes ≡ uq.0.bytes)
one-group Form level texts apart a b m n up uq = (
  λ e. let same : up.0 ≡ uq.0 = cc in ap (λ (canon : CanonicalText). canon.bytes) same,
  λ e. apart m n up.0 up.1 (rw (same-parts up.0 uq.0 e (up.2 ∙ sym uq.2)) uq.1),
)

-- two lines share a group as their canonical texts say
under-share : (level : Level) (texts : List CanonicalText) → MainTheorem level → AreApart texts → (p q : PlacedLine)
    → IsUnder IsCanonicalOf level texts p.line.text p.place → IsUnder IsCanonicalOf level texts q.line.text q.place → ShareWhereSame level p q
under-share level texts main apart p q hp hq m n a b pm qn sa sb =
    let up : IsUnder IsCanonicalOf level texts p.line.text (Group m) = rw pm at hp in
    let uq : IsUnder IsCanonicalOf level texts q.line.text (Group n) = rw qn at hq in
    let one = one-group IsCanonicalOf level texts apart p.line.text q.line.text m n up uq in
    let equal = main.equal p.line.text q.line.text up.0.bytes uq.0.bytes a b sa sb up.3 uq.3 in
    (λ e. equal.0 (one.0 e), λ same. one.1 (equal.1 same))

-- what is asked of forms by which lines are grouped: a text that has one is accepted, and lines that are grouped by
-- theirs share a group as `Share` says
pub record AreForms (Form : Level → List ℕ → List ℕ → Type 0) (Share : Level → PlacedLine → PlacedLine → Type 0)
    (level : Level) : Type 0 where
  pub accepted : (text bytes : List ℕ) → Form level text bytes → IsAccepted text
  pub share : (texts : List CanonicalText) → AreApart texts → (p q : PlacedLine)
      → IsUnder Form level texts p.line.text p.place → IsUnder Form level texts q.line.text q.place → Share level p q

-- canonical texts are such forms
pub canonical-forms : (level : Level) → MainTheorem level → AreForms IsCanonicalOf ShareWhereSame level
canonical-forms level main = record {
  accepted = λ text bytes canonical. (canonical.0, canonical.1);
  share = λ texts apart p q. under-share level texts main apart p q;
}

-- of two lines, by their forms under rules
forms-share : (rules : RulesParts) (level : Level)
    → ((text a b : List ℕ) → IsForm rules level text a → IsForm rules level text b → a ≡ b)
    → (texts : List CanonicalText) → AreApart texts → (p q : PlacedLine)
    → IsUnder (IsForm rules) level texts p.line.text p.place → IsUnder (IsForm rules) level texts q.line.text q.place
    → ShareWhereSameUnder rules level p q
forms-share rules level one texts apart p q hp hq m n pm qn =
    let up : IsUnder (IsForm rules) level texts p.line.text (Group m) = rw pm at hp in
    let uq : IsUnder (IsForm rules) level texts q.line.text (Group n) = rw qn at hq in
    let shared = one-group (IsForm rules) level texts apart p.line.text q.line.text m n up uq in (
      λ e. (up.0.bytes, up.3, rw (shared.0 e) uq.3),
      λ same. shared.1 (one p.line.text up.0.bytes same.0 up.3 same.1 ∙ one q.line.text same.0 uq.0.bytes same.2 uq.3),
    )

-- forms under rules are such forms
pub rules-forms : (rules : RulesParts)
    → ((level : Level) (text a b : List ℕ) → IsForm rules level text a → IsForm rules level text b → a ≡ b)
    → (level : Level) → AreForms (IsForm rules) (ShareWhereSameUnder rules) level
rules-forms rules one level = record {
  accepted = λ text bytes form. (form.is_canonical.0, form.is_canonical.1);
  share = λ texts apart p q. forms-share rules level (one level) texts apart p q;
}

next-is-new : (texts : List CanonicalText) (canon : CanonicalText) → ((at : ℕ) → ¬ (slice_get texts at ≡ Some canon))
    → (n : ℕ) → ¬ (nth n texts ≡ Some canon)
next-is-new texts canon none zero e = cc
next-is-new texts canon none (suc at) e = none at e

apart-more : (texts : List CanonicalText) (canon : CanonicalText) → AreApart texts
    → ((at : ℕ) → ¬ (slice_get texts at ≡ Some canon)) → AreApart (texts ++ canon ∷ [])
apart-more texts canon apart none m n some first second =
    let new = next-is-new texts canon none in
    grind (arith, nth-either texts canon m some first, nth-either texts canon n some second, apart m n some, new m, new n)

abbrev pub placed_at : ℕ → List ℕ → Placed → PlacedLine
placed_at number text place = record { line = line_of number text; place = place }

abbrev pub parts_of : Level → List GroupParts → List (ℕ × RefusedAt) → CatalogueParts
parts_of level groups refused = record { level = level; groups = groups; refused = refused }

nth-none : {A : Type 0} (n : ℕ) (x : A) → nth n [] ≡ Some x → ⊥
nth-none zero x e = cc
nth-none (suc n) x e = cc

-- a line that is in no group
no-line : (n number : ℕ) (place : Placed) (placed : List PlacedLine) (lines : List ℕ) → in_group n number place ≡ []
    → lines ≡ lines_in n placed → lines ≡ lines_in n placed ++ in_group n number place
no-line n number place placed lines none is = simp (none, append-nil) is

pub is-black : (text : List ℕ) (white : Bool) → white ≡ false → white ≡ list_all is_white text → ¬ (IsWhite text)
is-black text white other is blank = cc

module _ (Form : Level → List ℕ → List ℕ → Type 0) (Share : Level → PlacedLine → PlacedLine → Type 0) where
  -- the catalogue of no lines
  pub none-added : (level : Level) → IsCatalogueBy Form Share [] (parts_of level [] [])
  none-added level = (
    record {
      each = tt;
      same = tt;
      numbered = refl;
      lines = λ n group found. absurd (nth-none n group found);
      refused = refl;
    },
    record { texts = tt; apart = λ m n canon first second. absurd (nth-none m canon first) },
  )

  -- a catalogue with these parts
  pub by-parts : (placed : List PlacedLine) (level : Level) (groups : List GroupParts)
      (refused : List (ℕ × RefusedAt)) (c : CatalogueParts)
      → c.level ≡ level → c.groups ≡ groups → c.refused ≡ refused → IsCatalogueBy Form Share placed (parts_of level groups refused)
      → IsCatalogueBy Form Share placed c
  by-parts placed level groups refused c l g r whole =
      let same : c ≡ parts_of level groups refused = λ i. record { level = l i; groups = g i; refused = r i } in rw same whole

module _ (Form : Level → List ℕ → List ℕ → Type 0) (Share : Level → PlacedLine → PlacedLine → Type 0)
    (laws : (level : Level) → AreForms Form Share level) where
  -- lines that are grouped by their forms share a group as is said
  pub all-share : (level : Level) (texts : List CanonicalText) → AreApart texts
      → (placed : List PlacedLine)
      → Each (λ p. IsUnder Form level texts p.line.text p.place) placed
      → Each (λ p. Each (Share level p) placed) placed
  all-share level texts apart placed under =
      each-by (λ p. IsUnder Form level texts p.line.text p.place) (λ p. Each (Share level p) placed)
      (λ p hp. each-by (λ q. IsUnder Form level texts q.line.text q.place) (Share level p)
      (λ q hq. (laws level).share texts apart p q hp hq) placed under) placed under

  -- the texts of a longer list are those of the shorter, and one more
  under-more : (level : Level) (texts more : List CanonicalText) (text : List ℕ) (place : Placed)
      → IsUnder Form level texts text place → IsUnder Form level (texts ++ more) text place
  under-more level texts more text Blank under = tt
  under-more level texts more text (Refused refusal) under = tt
  under-more level texts more text (Group n) under = (under.0, nth-front texts more n under.0 under.1, under.2, under.3)

  -- a catalogue is that of a further line where its groups and refusals say so
  then-catalogue : (level : Level) (placed : List PlacedLine) (c : CatalogueParts) → c.level ≡ level
      → IsCatalogueBy Form Share placed c → (number : ℕ) (text : List ℕ) (place : Placed) (groups : List GroupParts)
      (refused : List (ℕ × RefusedAt))
      → IsPlacedAs text place → Counts (length c.groups) place (length groups)
      → ((n : ℕ) (group : GroupParts) → nth n groups ≡ Some group
      → group.lines ≡ lines_in n placed ++ in_group n number place)
      → refused ≡ c.refused ++ if_refused number place
      → Each (λ p. IsUnder Form level (canons groups) p.line.text p.place) placed
      → IsUnder Form level (canons groups) text place → AreApart (canons groups)
      → IsCatalogueBy Form Share (then_line placed number text place) (parts_of level groups refused)
  then-catalogue level placed c is
      (partition, old) number text place groups refused here counts lines refusals texts under apart =
      let all : Each (λ p. IsUnder Form level (canons groups) p.line.text p.place) (then_line placed number text place) =
      each-append (λ p. IsUnder Form level (canons groups) p.line.text p.place) placed
      (placed_at number text place) texts under in (
        record {
          each = each-append (λ p. IsPlacedAs p.line.text p.place) placed
              (placed_at number text place) partition.each here;
          same = all-share level (canons groups) apart (then_line placed number text place) all;
          numbered = numbered-append 0 placed (length c.groups) (placed_at number text place)
              (length groups) partition.numbered counts;
          lines = λ n group found. lines n group found ∙ sym (lines-append n placed (placed_at number text place));
          refused = rw (refusals, partition.refused, refused-append) refl;
        },
        record { texts = all; apart = apart },
      )

  pub blank-added : (placed : List PlacedLine) (c : CatalogueParts) → IsCatalogueBy Form Share placed c
      → (number : ℕ) (text : List ℕ) → IsWhite text → IsCatalogueBy Form Share (then_line placed number text Blank) c
  blank-added placed c whole number text white =
      then-catalogue c.level placed c refl whole number text Blank c.groups c.refused white refl
      (λ n group found. no-line n number Blank placed group.lines refl (whole.0.lines n group found))
      (sym (append-nil c.refused)) whole.1.texts tt whole.1.apart

  pub refused-added : (placed : List PlacedLine) (c : CatalogueParts) → IsCatalogueBy Form Share placed c
      → (number : ℕ) (text : List ℕ) (refusal : RefusedAt) → ¬ (IsWhite text) → Refuses text refusal
      → IsCatalogueBy Form Share (then_line placed number text (Refused refusal))
      (parts_of c.level c.groups (c.refused ++ (number, refusal) ∷ []))
  refused-added placed c whole number text refusal black refuses =
      then-catalogue c.level placed c refl whole number text (Refused refusal) c.groups
      (c.refused ++ (number, refusal) ∷ [])
      (black, refuses) refl
      (λ n group found. no-line n number (Refused refusal) placed group.lines refl (whole.0.lines n group found))
      refl whole.1.texts tt whole.1.apart

  -- the group of a text has a further line
  pub joined-added : (placed : List PlacedLine) (c : CatalogueParts) → IsCatalogueBy Form Share placed c
      → (number : ℕ) (text : List ℕ) (canon : CanonicalText) (at : ℕ) (groups : List GroupParts) → ¬ (IsWhite text)
      → Form c.level text canon.bytes → canon.level ≡ c.level → slice_get (canons c.groups) at ≡ Some canon
      → IsJoined at number c.groups groups
      → IsCatalogueBy Form Share (then_line placed number text (Group (suc at))) (parts_of c.level groups c.refused)
  joined-added placed c whole number text canon at groups black canonical level has joined =
      let longer : List GroupParts = slice_set c.groups at (with_line number joined.group) in
      let same : canons longer ≡ canons c.groups =
      map-changed (λ g. g.canon) c.groups at joined.group (with_line number joined.group) joined.found refl in
      rw joined.changed
      (then-catalogue c.level placed c refl whole number text (Group (suc at)) longer c.refused
      (black, (laws c.level).accepted text canon.bytes canonical)
      (inl (omega arith, get-within c.groups at joined.group joined.found, length-set c.groups at (with_line number joined.group)))
      (λ n group found. lines n group (nth-changed c.groups at (with_line number joined.group) n group found))
      (sym (append-nil c.refused))
      (rw same whole.1.texts) (canon, rw same has, level, canonical) (rw same whole.1.apart))
    where
      lines : (n : ℕ) (group : GroupParts)
          → (((n ≡ suc at) × (group ≡ with_line number joined.group))
          ⊎ ((¬ (suc at ≡ n)) × (nth n c.groups ≡ Some group)))
          → group.lines ≡ lines_in n placed ++ in_group n number (Group (suc at))
      lines n group (inl (here, is)) =
          rw (is, if-equal (suc at) n (number ∷ []) [] (sym here), whole.0.lines n joined.group (rw here joined.found)) refl
      lines n group (inr (other, found)) =
          no-line n number (Group (suc at)) placed group.lines (if-other (suc at) n (number ∷ []) [] other)
          (whole.0.lines n group found)

  -- a text that no group has begins one
  pub opened-added : (placed : List PlacedLine) (c : CatalogueParts) → IsCatalogueBy Form Share placed c
      → (number : ℕ) (text : List ℕ) (canon : CanonicalText) → ¬ (IsWhite text)
      → Form c.level text canon.bytes → canon.level ≡ c.level → IsNew canon c.groups
      → IsCatalogueBy Form Share (then_line placed number text (Group (suc (length c.groups))))
      (parts_of c.level (c.groups ++ group_of canon number ∷ []) c.refused)
  opened-added placed c whole number text canon black canonical level new =
      let same : canons (c.groups ++ group_of canon number ∷ []) ≡ canons c.groups ++ canon ∷ [] =
      map-append (λ g. g.canon) c.groups (group_of canon number ∷ []) in
      let long : length (c.groups ++ group_of canon number ∷ []) ≡ suc (length c.groups) =
      length-append c.groups (group_of canon number ∷ []) ∙ add-one (length c.groups) in
      then-catalogue c.level placed c refl whole number text (Group (suc (length c.groups)))
      (c.groups ++ group_of canon number ∷ []) c.refused
      (black, (laws c.level).accepted text canon.bytes canonical)
      (inr (sym (add-one (length c.groups)), long))
      (λ n group found. lines n group (nth-either c.groups (group_of canon number) n group found))
      (sym (append-nil c.refused))
      (rw same
      (each-by (λ p. IsUnder Form c.level (canons c.groups) p.line.text p.place)
      (λ p. IsUnder Form c.level (canons c.groups ++ canon ∷ []) p.line.text p.place)
      (λ p under. under-more c.level (canons c.groups) (canon ∷ []) p.line.text p.place under) placed whole.1.texts))
      (canon, last, level, canonical)
      (rw same (apart-more (canons c.groups) canon whole.1.apart new))
    where
      last : slice_get (canons (c.groups ++ group_of canon number ∷ [])) (length c.groups) ≡ Some canon
      last = slice_get-map (λ g. g.canon) (c.groups ++ group_of canon number ∷ []) (length c.groups)
          ∙ ap (option_map (λ g. g.canon)) (get-last c.groups (group_of canon number))

      lines : (n : ℕ) (group : GroupParts)
          → ((nth n c.groups ≡ Some group) ⊎ ((n ≡ suc (length c.groups)) × (group ≡ group_of canon number)))
          → group.lines ≡ lines_in n placed ++ in_group n number (Group (suc (length c.groups)))
      lines n group (inl found) =
          no-line n number (Group (suc (length c.groups))) placed group.lines
          (if-other (suc (length c.groups)) n (number ∷ []) [] (past-end c.groups n group found))
          (whole.0.lines n group found)
      lines n group (inr (here, is)) =
          rw (
            is,
            if-equal (suc (length c.groups)) n (number ∷ []) [] (sym here),
            lines-none n 0 placed (length c.groups) whole.0.numbered (omega arith),
          ) refl

  -- the line is put among the groups
  pub put-added : (placed : List PlacedLine) (c after : CatalogueParts) → IsCatalogueBy Form Share placed c
      → (number : ℕ) (text : List ℕ) (canon : CanonicalText) (place : Placed) → ¬ (IsWhite text)
      → Form c.level text canon.bytes → canon.level ≡ c.level → IsPut canon number c.groups after.groups place
      → after.level ≡ c.level → after.refused ≡ c.refused → IsCatalogueBy Form Share (then_line placed number text place) after
  put-added placed c after whole number text canon place black canonical level
      (inl (at, is, has, joined)) same kept =
      rw (is, add-one)
      (by-parts Form Share (then_line placed number text (Group (suc at))) c.level after.groups c.refused after same refl kept
      (joined-added placed c whole number text canon at after.groups black canonical level has joined))
  put-added placed c after whole number text canon place black canonical level (inr (new, is, longer)) same kept =
      rw (is, add-one)
      (by-parts Form Share (then_line placed number text (Group (suc (length c.groups)))) c.level
      (c.groups ++ group_of canon number ∷ []) c.refused after same longer kept
      (opened-added placed c whole number text canon black canonical level new))

  -- the line is put among the refused ones
  pub refuse-added : (placed : List PlacedLine) (c after : CatalogueParts) → IsCatalogueBy Form Share placed c
      → (number : ℕ) (text : List ℕ) (fault : Fault) (place : Placed) → ¬ (IsWhite text) → IsFaultOfText text fault
      → IsRefused fault number c.refused after.refused place → after.level ≡ c.level → after.groups ≡ c.groups
      → IsCatalogueBy Form Share (then_line placed number text place) after
  refuse-added placed c after whole number text fault place black of (refusal, is, here, longer) same kept =
      rw here
      (by-parts Form Share (then_line placed number text (Refused refusal)) c.level c.groups
      (c.refused ++ (number, refusal) ∷ []) after same kept longer
      (refused-added placed c whole number text refusal black (rw is at of)))

  pub put-result : (c after : CatalogueParts) → (level : Level) → level ≡ c.level → (number : ℕ)
      (text : List ℕ) (canon : CanonicalText) (r : Result Placed AllocError) → ¬ (IsWhite text)
      → Form level text canon.bytes → canon.level ≡ level → IfOk r (IsPut canon number c.groups after.groups)
      → after.level ≡ c.level → after.refused ≡ c.refused
      → IfOk r (λ place. (placed : List PlacedLine) → IsCatalogueBy Form Share placed c
      → IsCatalogueBy Form Share (then_line placed number text place) after)
  put-result c after level at number text canon (Ok place) black canonical is put same kept =
      λ placed whole. put-added placed c after whole number text canon place black (rw at at canonical) (is ∙ at) put same kept
  put-result c after level at number text canon (Err error) black canonical is put same kept = tt

  pub refuse-result : (c after : CatalogueParts) → (number : ℕ) (text : List ℕ) (fault : Fault)
      (r : Result Placed AllocError) → ¬ (IsWhite text) → IsFaultOfText text fault
      → IfOk r (IsRefused fault number c.refused after.refused) → after.level ≡ c.level → after.groups ≡ c.groups
      → IfOk r (λ place. (placed : List PlacedLine) → IsCatalogueBy Form Share placed c
      → IsCatalogueBy Form Share (then_line placed number text place) after)
  refuse-result c after number text fault (Ok place) black of refused same kept =
      λ placed whole. refuse-added placed c after whole number text fault place black of refused same kept
  refuse-result c after number text fault (Err error) black of refused same kept = tt

-- the catalogue of some lines and one more
pub lines-added : (Form : Level → List ℕ → List ℕ → Type 0) (Share : Level → PlacedLine → PlacedLine → Type 0)
    (c after : CatalogueParts) (number : ℕ) (text : List ℕ) (place : Placed)
    → ((placed : List PlacedLine) → IsCatalogueBy Form Share placed c →
    IsCatalogueBy Form Share (then_line placed number text place) after)
    → (lines : List Line) → IsCatalogueOfBy Form Share lines c →
    IsCatalogueOfBy Form Share (lines ++ line_of number text ∷ []) after
lines-added Form Share c after number text place step lines old = record {
  placed = then_line old.placed number text place;
  are_lines = rw (map-append, old.are_lines) refl;
  whole = step old.placed old.whole;
}

pub lines-result : (Form : Level → List ℕ → List ℕ → Type 0) (Share : Level → PlacedLine → PlacedLine → Type 0)
    (c after : CatalogueParts) (number : ℕ) (text : List ℕ) (r : Result Placed AllocError)
    → IfOk r (λ place. (placed : List PlacedLine) → IsCatalogueBy Form Share placed c
    → IsCatalogueBy Form Share (then_line placed number text place) after)
    → OnOk r ((lines : List Line) → IsCatalogueOfBy Form Share lines c
    → IsCatalogueOfBy Form Share (lines ++ line_of number text ∷ []) after)
lines-result Form Share c after number text (Ok place) step = lines-added Form Share c after number text place step
lines-result Form Share c after number text (Err error) step = tt
