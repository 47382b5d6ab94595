-- What changes and look-ups of a map's entries mean for the groups.
use Rattle.std.proofs.Common.{◌≡◌, ◌++◌, true, false, ◌∷◌, [], ℕ, zero, suc, List, Option, Some, None, position, get_or, slice_get, is_some, cond, true≢false, ap, sym, refl, ◌∙◌, Result, Ok, Err, MatchOption, OnErr}
use Rattle.std.specs.Map.{keys_of, values_of, lookup}
use Rattle.std.proofs.lemmas.List.Quantifiers.{position-Some}
use Rattle.std.proofs.lemmas.Option.{slice_get-get_or}
use Rattle.indexmap.specs.IndexMap.{set_value_at}
use Rattle.crs_writer.specs.inner.Prelude.{CanonicalText, canons_equal, canons-decide}
use Rattle.crs_group.specs.inner.Entries.{entry_group, groups_of}
use Rattle.crs_group.specs.Catalogue.{canons}
use Rattle.crs_group.specs.inner.Putting.{IsJoined, IsNew, group_of}

some-one : {A : Type 0} (a b : A) → Some a ≡ Some b → a ≡ b
some-one a b h = cc

none-some : {A : Type 0} (b : A) → None ≡ Some b → ⊥
none-some b h = cc

pub on-err : {A E P : Type 0} (r : Result A E) → P → OnErr r P
on-err (Ok x) p = tt
on-err (Err e) p = p

module _ {V : Type 0} (lines : V → List ℕ) where
  pub canons-groups : (es : List (CanonicalText × V)) → canons (groups_of lines es) ≡ keys_of es
  canons-groups [] = refl
  canons-groups (e ∷ es) = ap (λ rest. e.0 ∷ rest) (canons-groups es)

  -- a new value at a place, with a further line
  pub joined : (es : List (CanonicalText × V)) (at line : ℕ) (v w : V) → slice_get (values_of es) at ≡ Some v
      → lines w ≡ lines v ++ line ∷ [] → IsJoined at line (groups_of lines es) (groups_of lines (set_value_at es at w))
  joined [] at line v w h more = absurd (none-some v h)
  joined (e ∷ es) zero line v w h more =
      record {
        group = entry_group lines e;
        found = refl;
        changed = ap (λ ns. record { canon = e.0; lines = ns } ∷ groups_of lines es)
            (more ∙ ap (λ u. lines u ++ line ∷ []) (sym (some-one e.1 v h)));
      }
  joined (e ∷ es) (suc at) line v w h more =
      let rest = joined es at line v w h more in
      record {
        group = rest.group;
        found = rest.found;
        changed = ap (λ groups. entry_group lines e ∷ groups) rest.changed;
      }

  -- a new value at a place, with the same lines
  pub left : (es : List (CanonicalText × V)) (at : ℕ) (v w : V) → slice_get (values_of es) at ≡ Some v
      → lines w ≡ lines v → groups_of lines (set_value_at es at w) ≡ groups_of lines es
  left [] at v w h same = absurd (none-some v h)
  left (e ∷ es) zero v w h same =
      ap (λ ns. record { canon = e.0; lines = ns } ∷ groups_of lines es) (same ∙ ap lines (sym (some-one e.1 v h)))
  left (e ∷ es) (suc at) v w h same = ap (λ groups. entry_group lines e ∷ groups) (left es at v w h same)

  -- a further entry
  pub opened : (es : List (CanonicalText × V)) (canon : CanonicalText) (line : ℕ) (v : V) → lines v ≡ line ∷ []
      → groups_of lines (es ++ (canon, v) ∷ []) ≡ groups_of lines es ++ group_of canon line ∷ []
  opened [] canon line v one = ap (λ ns. record { canon = canon; lines = ns } ∷ []) one
  opened (e ∷ es) canon line v one = ap (λ groups. entry_group lines e ∷ groups) (opened es canon line v one)

  -- a text that no group has is no key
  pub new-key : (canon : CanonicalText) (es : List (CanonicalText × V)) → IsNew canon (groups_of lines es)
      → lookup (canons_equal canon) es ≡ None
  new-key canon [] new = refl
  new-key canon (e ∷ es) new =
      elim (canons_equal canon e.0) as (λ b. canons_equal canon e.0 ≡ b → lookup (canons_equal canon) (e ∷ es) ≡ None) [
        | true ↦ λ same. absurd (new 0 (ap Some (sym ((canons-decide canon e.0).0 same))))
        | false ↦ λ other. ap (λ b. cond b (Some e.1) (lookup (canons_equal canon) es)) other
            ∙ new-key canon es (λ at. new (suc at))
      ] refl

  -- and a text that is no key is that of no group
  pub no-key : (canon : CanonicalText) (es : List (CanonicalText × V)) → lookup (canons_equal canon) es ≡ None
      → IsNew canon (groups_of lines es)
  no-key canon [] none at h = none-some canon h
  no-key canon (e ∷ es) none at h =
      elim (canons_equal canon e.0) as (λ b. canons_equal canon e.0 ≡ b → ⊥) [
        | true ↦ λ same. none-some e.1 (sym none ∙ ap (λ b. cond b (Some e.1) (lookup (canons_equal canon) es)) same)
        | false ↦ λ other. other-place canon e es other
            (sym (ap (λ b. cond b (Some e.1) (lookup (canons_equal canon) es)) other) ∙ none) at h (no-key canon es)
      ] refl
    where
      other-place : (canon : CanonicalText) (e : CanonicalText × V) (es : List (CanonicalText × V))
          → canons_equal canon e.0 ≡ false → lookup (canons_equal canon) es ≡ None → (at : ℕ)
          → slice_get (canons (groups_of lines (e ∷ es))) at ≡ Some canon
          → (lookup (canons_equal canon) es ≡ None → IsNew canon (groups_of lines es)) → ⊥
      other-place canon e es other none zero h rest =
          true≢false (sym ((canons-decide canon e.0).1 (sym (some-one e.0 canon h))) ∙ other)
      other-place canon e es other none (suc at) h rest = rest none at h

  none-of : (o : Option V) → false ≡ is_some o → o ≡ None
  none-of None h = refl
  none-of (Some v) h = absurd (true≢false (sym h))

  -- the place of a key is that of the group
  pub place-of : (canon : CanonicalText) (es : List (CanonicalText × V)) (r : Option ℕ)
      → r ≡ position (canons_equal canon) (keys_of es) → is_some r ≡ is_some (lookup (canons_equal canon) es)
      → MatchOption r (IsNew canon (groups_of lines es))
      (λ at. slice_get (canons (groups_of lines es)) at ≡ Some canon)
  place-of canon es None is found = no-key canon es (none-of (lookup (canons_equal canon) es) found)
  place-of canon es (Some at) is found =
      let (within, passes, before) = position-Some (canons_equal canon) (keys_of es) at canon (sym is) in
      ap (λ texts. slice_get texts at) (canons-groups es)
      ∙ slice_get-get_or (keys_of es) at canon within
      ∙ ap Some (sym ((canons-decide canon (get_or (keys_of es) at canon)).0 passes))
