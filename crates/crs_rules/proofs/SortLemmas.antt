-- Axes are put in order of their texts by exchanging neighbours.
use Rattle.std.proofs.Common.{◌≡◌, ◌≢◌, ℕ, zero, suc, ◌+◌, ◌<◌, ◌≤◌, ◌++◌, List, [], ◌∷◌, Greater, add-one, arith, refl, sym, ap, ◌∙◌, map, length, take, drop, get_or, set}
use Rattle.std.specs.Cmp.Lexicographic.{slice_cmp}
use Rattle.std.specs.List.{swap}
use Rattle.std.specs.Ordering.{nat_cmp}
use Rattle.std.proofs.Math.Seq.{drop-length, take-length}
use Rattle.std.proofs.lemmas.List.Edits.{length-swap}
use Rattle.std.proofs.lemmas.List.{append-nil, length-append, length-drop, length-map, length-take}
use Rattle.crs_value.specs.inner.Prelude.{AxisParts}
use Rattle.crs_rules.specs.Rewritten.{ascending}
use Rattle.crs_rules.specs.inner.Sinking.{sunk_from}
use Rattle.crs_rules.proofs.CrsLemmas.{among-cases, ascending-length}

module _ (text : AxisParts → List ℕ) where
  -- neighbours in each other's place
  abbrev exchanged : AxisParts → List AxisParts → ℕ → List AxisParts
  exchanged d xs i = set (set xs i (get_or xs (suc i) d)) (suc i) (get_or xs i d)

  swap-above : (d : AxisParts) (xs : List AxisParts) (i : ℕ) → suc i < length (map text xs) →
      ((t : List ℕ) → slice_cmp nat_cmp (get_or (map text xs) i t) (get_or (map text xs) (suc i) t) ≡ Greater) →
      sunk_from text (suc i) (exchanged d xs i) ≡ sunk_from text i xs
  swap-above d (x ∷ y ∷ ys) zero l g = rw (g [])
  swap-above d (x ∷ y ∷ ys) (suc i) l g = ap (λ zs. x ∷ zs) (swap-above d (y ∷ ys) i (omega arith) g)
  swap-above d xs i l g = absurd (omega arith)

  rests : (xs : List AxisParts) (i : ℕ) →
      (suc i < length (map text xs) → (t : List ℕ) →
      slice_cmp nat_cmp (get_or (map text xs) i t) (get_or (map text xs) (suc i) t) ≢ Greater) → sunk_from text i xs ≡ xs
  rests (x ∷ y ∷ ys) zero h =
      among-cases text (λ zs. zs ≡ x ∷ y ∷ ys) x y ys (λ n. refl) (λ g. absurd (h (omega arith) [] g))
  rests (x ∷ xs) (suc i) h = ap (λ zs. x ∷ zs) (rests xs i (λ l. h (omega arith)))
  rests [] (suc i) h = refl
  rests xs zero h = refl

  -- an axis sinks: the axes and their texts when it stands at a place, where it was to sink from another among the old ones
  pub record Sinks (old axes : List AxisParts) (from at : ℕ) (texts : List (List ℕ)) : Type 0 where
    pub long : length axes ≡ length old
    pub texts_are : texts ≡ map text axes
    pub sunk : sunk_from text at axes ≡ sunk_from text from old

  -- the text at a place is above the next one
  abbrev pub IsAboveNext : List (List ℕ) → ℕ → Type 0
  IsAboveNext texts at =
      (at + 1 < length texts) × ((t : List ℕ) → slice_cmp nat_cmp (get_or texts at t) (get_or texts (at + 1) t) ≡ Greater)

  pub sinks-next : {old axes : List AxisParts} {from at : ℕ} {texts : List (List ℕ)} → Sinks old axes from at texts →
      IsAboveNext texts at → at + 1 < length axes
  sinks-next s g = simp (s.texts_are, length-map) at g.0

  above-next : (axes : List AxisParts) (at : ℕ) → IsAboveNext (map text axes) at →
      sunk_from text (at + 1) (swap axes at (at + 1)) ≡ sunk_from text at axes
  above-next [] at g = absurd (omega (arith, g.0))
  above-next (d ∷ ys) at g = rw add-one (swap-above d (d ∷ ys) at (omega (arith, g.0)) (rw add-one at g.1))

  pub sinks-on : {old axes : List AxisParts} {from at : ℕ} {texts : List (List ℕ)} → Sinks old axes from at texts →
      IsAboveNext texts at → (new : List AxisParts) (after : List (List ℕ)) → new ≡ swap axes at (at + 1) →
      after ≡ map text new → Sinks old new from (at + 1) after
  sinks-on {axes = axes} {at = at} s g new after e f = record {
    long = rw (e, length-swap) s.long;
    texts_are = f;
    sunk = rw e (above-next axes at (rw s.texts_are at g) ∙ s.sunk);
  }

  pub sinks-end : {old axes : List AxisParts} {from at : ℕ} {texts : List (List ℕ)} → Sinks old axes from at texts →
      (at + 1 < length texts → (t : List ℕ) → slice_cmp nat_cmp (get_or texts at t) (get_or texts (at + 1) t) ≢ Greater) →
      axes ≡ sunk_from text from old
  sinks-end {axes = axes} {at = at} s n = sym (rests axes at (rw (s.texts_are, add-one) at n)) ∙ s.sunk

  -- axes are sorted from this place on
  pub record SortsFrom (old axes : List AxisParts) (from : ℕ) (texts : List (List ℕ)) : Type 0 where
    pub within : from ≤ length old
    pub texts_are : texts ≡ map text axes
    pub sorted : axes ≡ take from old ++ ascending text (drop from old)

  pub sorts-start : (old : List AxisParts) (texts : List (List ℕ)) (n : ℕ) → texts ≡ map text old → n ≡ length old →
      SortsFrom old old n texts
  sorts-start old texts n e k = record {
    within = omega arith;
    texts_are = e;
    sorted = simp (k, take-length, drop-length, append-nil);
  }

  pub sorts-within : {old axes : List AxisParts} {from : ℕ} {texts : List (List ℕ)} (before : ℕ) →
      SortsFrom old axes from texts → from ≡ suc before → before < length axes
  sorts-within before s e =
      rw s.sorted (simp (length-append, ascending-length, length-take, length-drop) (omega (arith, s.within)))

  -- the last place first
  sorted-more : (old : List AxisParts) (n : ℕ) → n < length old →
      sunk_from text n (take (suc n) old ++ ascending text (drop (suc n) old)) ≡ take n old ++ ascending text (drop n old)
  sorted-more [] n l = absurd (omega arith)
  sorted-more (x ∷ xs) zero l = refl
  sorted-more (x ∷ xs) (suc n) l = ap (λ zs. x ∷ zs) (sorted-more xs n (omega arith))

  pub sorts-on : {old axes : List AxisParts} {from : ℕ} {texts : List (List ℕ)} (before : ℕ) → SortsFrom old axes from texts →
      from ≡ suc before → (new : List AxisParts) (after : List (List ℕ)) → new ≡ sunk_from text before axes →
      after ≡ map text new → SortsFrom old new before after
  sorts-on {old = old} before s e new after f g = record {
    within = omega (arith, s.within);
    texts_are = g;
    sorted = rw (f, s.sorted, e) (sorted-more old before (omega (arith, s.within)));
  }

-- an axis sinks by whatever gives axes their texts
abbrev pub AllSink : (before : List (List ℕ)) (old axes : List AxisParts) (from at : ℕ) (texts : List (List ℕ)) → Type 0
AllSink before old axes from at texts =
    (text : AxisParts → List ℕ) → before ≡ map text old → Sinks text old axes from at texts

-- axes are sorted by it from this place on
abbrev pub AllSortFrom : (before : List (List ℕ)) (old axes : List AxisParts) (from : ℕ) (texts : List (List ℕ)) → Type 0
AllSortFrom before old axes from texts =
    (text : AxisParts → List ℕ) → before ≡ map text old → SortsFrom text old axes from texts
