-- What is one group at the full level is in one group by definition.
use Rattle.std.proofs.Common.{◌≡◌, ◌∷◌, [], ℕ, zero, suc, List, Some, map, slice_get, ap, sym, refl, ◌∙◌}
use Rattle.crs_text.specs.inner.Prelude.{RefusedAt, IsWhite}
use Rattle.crs_value.specs.Sound.{Each}
use Rattle.crs_value.specs.inner.Prelude.{Spells, Refuses}
use Rattle.crs_value.specs.declared.values.crs.Crs.{Crs}
use Rattle.crs_value.specs.declared.values.level.Level.TheVariants as levels
use Rattle.crs_same.specs.inner.Prelude.{SameCrs}
use Rattle.crs_canon.specs.MainTheorem.{IsAccepted}
use Rattle.crs_group.specs.Catalogue.{CatalogueParts, Line}
use Rattle.crs_group.specs.declared.placed.Placed.{Placed}
use Rattle.crs_group.specs.declared.placed.Placed.TheVariants.{Blank, Refused, Group}
use Rattle.crs_group.specs.GroupTexts.{IsPartition, IsPlacedAs, PlacedLine, ShareWhereSame}
use Rattle.crs_group.specs.United.{AreUnited}

each-at : (P : PlacedLine → Type 0) (ps : List PlacedLine) → Each P ps → (at : ℕ) (p : PlacedLine) → slice_get ps at ≡ Some p → P p
each-at P [] each at p e = absurd (cc)
each-at P (q ∷ qs) each zero p e = let same : q ≡ p = cc in rw same at each.0
each-at P (q ∷ qs) each (suc at) p e = each-at P qs each.1 at p e

record Beside (ps : List PlacedLine) (at : ℕ) (line : Line) : Type 0 where
  placed : PlacedLine
  there : slice_get ps at ≡ Some placed
  same : line ≡ placed.line

beside : (ps qs : List PlacedLine) → map (λ p. p.line) ps ≡ map (λ q. q.line) qs → (at : ℕ) (p : PlacedLine) → slice_get ps at ≡ Some p →
    Beside qs at p.line
beside [] qs e at p there = absurd (cc)
beside (p0 ∷ ps) [] e at p there = absurd (cc)
beside (p0 ∷ ps) (q ∷ qs) e zero p there =
    let one : p0 ≡ p = cc in
    let line : p0.line ≡ q.line = cc in
    record { placed = q; there = refl; same = ap (λ (x : PlacedLine). x.line) (sym one) ∙ line }
beside (p0 ∷ ps) (q ∷ qs) e (suc at) p there =
    let rest : map (λ (x : PlacedLine). x.line) ps ≡ map (λ (x : PlacedLine). x.line) qs = cc in
    let found = beside ps qs rest at p there in
    search (found.there, found.same)

-- an accepted text that isn't blank is in a group
stands : ((text : List ℕ) (value : Crs) (fault : RefusedAt) → Spells text value → ¬ (Refuses text fault)) →
    (text : List ℕ) (place : Placed) → ¬ (IsWhite text) → IsAccepted text → IsPlacedAs text place → (n : ℕ) × (place ≡ Group n)
stands apart text Blank dark accepted such = absurd (dark such)
stands apart text (Refused refusal) dark accepted such = absurd (apart text accepted.0 refusal accepted.1 such.1)
stands apart text (Group n) dark accepted such = (n, refl)

module _ (apart : (text : List ℕ) (value : Crs) (fault : RefusedAt) → Spells text value → ¬ (Refuses text fault))
    (narrower : (a b : Crs) → SameCrs levels.Full a b → SameCrs levels.Definition a b) where
  pub united : (placed joined : List PlacedLine) (full definition : CatalogueParts) → IsPartition placed full → IsPartition joined definition →
      map (λ p. p.line) placed ≡ map (λ p. p.line) joined → full.level ≡ levels.Full → definition.level ≡ levels.Definition →
      AreUnited placed joined
  united placed joined full definition f d lines at-full at-definition i j m (p, p-there, p-in) (q, q-there, q-in) =
      let r = beside placed joined lines i p p-there in
      let s = beside placed joined lines j q q-there in
      let p-as = rw p-in at (each-at (λ x. IsPlacedAs x.line.text x.place) placed f.each i p p-there) in
      let q-as = rw q-in at (each-at (λ x. IsPlacedAs x.line.text x.place) placed f.each j q q-there) in
      let r-as = rw (← r.same) at (each-at (λ x. IsPlacedAs x.line.text x.place) joined d.each i r.placed r.there) in
      let s-as = rw (← s.same) at (each-at (λ x. IsPlacedAs x.line.text x.place) joined d.each j s.placed s.there) in
      let k = stands apart p.line.text r.placed.place p-as.0 p-as.1 r-as in
      let l = stands apart q.line.text s.placed.place q-as.0 q-as.1 s-as in
      let a : Crs = p-as.1.0 in
      let b : Crs = q-as.1.0 in
      let share : ShareWhereSame full.level p q =
      each-at (ShareWhereSame full.level p) placed (each-at (λ x. Each (ShareWhereSame full.level x) placed) placed f.same i p p-there) j q q-there in
      let same : SameCrs levels.Full a b = rw at-full at ((share m m a b p-in q-in p-as.1.1 q-as.1.1).0 refl) in
      let too : ShareWhereSame definition.level r.placed s.placed =
      each-at (ShareWhereSame definition.level r.placed) joined
      (each-at (λ x. Each (ShareWhereSame definition.level x) joined) joined d.same i r.placed r.there) j s.placed s.there in
      let one : k.0 ≡ l.0 =
      (too k.0 l.0 a b k.1 l.1 (simp r.same at p-as.1.1) (simp s.same at q-as.1.1)).1 (rw at-definition (narrower a b same)) in
      (k.0, (r.placed, r.there, k.1), (s.placed, s.there, l.1 ∙ ap Group (sym one)))
