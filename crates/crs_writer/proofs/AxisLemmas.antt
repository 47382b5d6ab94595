-- The axes of a system, one after another.
use Rattle.std.proofs.Common.{◌≡◌, ℕ, suc, List, [], ◌∷◌, ◌++◌, length, refl, sym, ap, subst, ◌∙◌}
use Rattle.std.proofs.lemmas.List.{append-nil}
use Rattle.crs_text.specs.inner.Prelude.{Item, End, others_text}
use Rattle.crs_value.specs.inner.Prelude.{ReadsEach, AxisParts, SystemParts}
use Rattle.crs_value.specs.declared.values.level.Level.{Level}
use Rattle.crs_normal.specs.inner.Prelude.{each, axes_from, item_axis}

-- as many axes are read as there are items
pub axes-counted : (R : Item → AxisParts → Type 0) (items : List Item) (axes : List AxisParts) → ReadsEach R items axes → length axes ≡ length items
axes-counted R [] [] h = refl
axes-counted R [] (axis ∷ axes) h = absurd h
axes-counted R (item ∷ items) [] h = absurd h
axes-counted R (item ∷ items) (axis ∷ axes) h = ap (λ n. suc n) (axes-counted R items axes h.1)

-- no position is left
pub axes-ended : (level : Level) (system : SystemParts) (k left : ℕ) (now whole : List ℕ) → left ≡ 0 →
    now ++ others_text (each item_axis (axes_from level system k left) End) ≡ whole → now ≡ whole
axes-ended level system k left now whole e f =
    sym (append-nil now) ∙ subst (λ n. now ++ others_text (each item_axis (axes_from level system k n) End) ≡ whole) e f
