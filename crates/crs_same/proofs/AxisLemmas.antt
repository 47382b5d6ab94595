-- The axes at a position.
use Rattle.std.proofs.Common.{◌≡◌, ℕ, ◌+◌, List, [], ◌∷◌, inl, inr, refl, sym, subst}
use Rattle.std.specs.Prelude.{⊤}
use Rattle.crs_value.specs.inner.Prelude.{AxisParts}
use Rattle.crs_same.specs.inner.Prelude.{HasAt}

has-mapped : (P Q : AxisParts → Type 0) (position place : ℕ) (axes : List AxisParts) → ((axis : AxisParts) → P axis → Q axis) →
    HasAt position P place axes → HasAt position Q place axes
has-mapped P Q position place [] on h = absurd h
has-mapped P Q position place (axis ∷ axes) on (inl h) = inl (h.0, on axis h.1)
has-mapped P Q position place (axis ∷ axes) on (inr h) = inr (has-mapped P Q position (place + 1) axes on h)

pub has-some : (position place : ℕ) (axes : List AxisParts) (axis : AxisParts) → HasAt position (λ x. x ≡ axis) place axes →
    HasAt position (λ x. ⊤) place axes
has-some position place axes axis h = has-mapped (λ x. x ≡ axis) (λ x. ⊤) position place axes (λ x e. tt) h

has-of : (P : AxisParts → Type 0) (position place : ℕ) (axes : List AxisParts) (axis : AxisParts) → HasAt position (λ x. x ≡ axis) place axes → P axis →
    HasAt position P place axes
has-of P position place axes axis h p = has-mapped (λ x. x ≡ axis) P position place axes (λ x e. subst P (sym e) p) h

pub which : (P : AxisParts → Type 0) (position place : ℕ) (axes : List AxisParts) → HasAt position P place axes →
    (axis : AxisParts) × P axis × HasAt position (λ x. x ≡ axis) place axes
which P position place [] h = absurd h
which P position place (axis ∷ axes) (inl h) = (axis, h.1, inl (h.0, refl))
which P position place (axis ∷ axes) (inr h) = let w = which P position (place + 1) axes h in (w.0, w.1, inr w.2)

pub at-both : (R : AxisParts → AxisParts → Type 0) (position : ℕ) (xs ys : List AxisParts) (x y : AxisParts) →
    HasAt position (λ axis. axis ≡ x) 1 xs → HasAt position (λ axis. axis ≡ y) 1 ys → R x y → HasAt position (λ a. HasAt position (λ b. R a b) 1 ys) 1 xs
at-both R position xs ys x y at-x at-y r =
    has-of (λ a. HasAt position (λ b. R a b) 1 ys) position 1 xs x at-x (has-of (λ b. R x b) position 1 ys y at-y r)

pub which-both : (R : AxisParts → AxisParts → Type 0) (position : ℕ) (xs ys : List AxisParts) →
    HasAt position (λ a. HasAt position (λ b. R a b) 1 ys) 1 xs →
    (x : AxisParts) × (y : AxisParts) × R x y
    × HasAt position (λ axis. axis ≡ x) 1 xs × HasAt position (λ axis. axis ≡ y) 1 ys
which-both R position xs ys h =
    let v = which (λ a. HasAt position (λ b. R a b) 1 ys) position 1 xs h in
    let w = which (λ b. R v.0 b) position 1 ys v.1 in
    (v.0, w.0, w.1, v.2, w.2)
