-- No two kinds of unit, directions or types have one word, letter case aside; so a word in its own
-- letters has one value.
use Rattle.std.proofs.Common.{◌≡◌, ℕ, List, [], ◌∷◌, Option, Some, find, refl, sym, ap, ◌∙◌}
use Rattle.std.specs.Str.{bytes_eq, str_to_ascii_lowercase}
use Rattle.crs_shape.specs.inner.Prelude.{SpellsWord, direction_word, every_direction, every_type, system_word, unit_word}
use Rattle.crs_shape.specs.declared.direction.Direction.{Direction}
use Rattle.crs_shape.specs.declared.direction.Direction.TheVariants.{North}
use Rattle.crs_shape.specs.declared.system_type.SystemType.{SystemType}
use Rattle.crs_shape.specs.declared.system_type.SystemType.TheVariants.{Cartesian}
use Rattle.crs_shape.specs.declared.unit_kind.UnitKind.{UnitKind}
use Rattle.crs_shape.specs.declared.unit_kind.UnitKind.TheVariants.{Angle, Length, Plain, Scale}

-- the one among some whose word these small letters spell
abbrev pub spelled : {V : Type 0} → (V → List ℕ) → List V → List ℕ → Option V
spelled word vs small = find (λ v. bytes_eq (str_to_ascii_lowercase (word v)) small) vs

-- each is found by its own word
abbrev pub AreKnown : {V : Type 0} → (V → List ℕ) → List V → Type 0
AreKnown {V = V} word vs = (v : V) → spelled word vs (str_to_ascii_lowercase (word v)) ≡ Some v

pub direction-known : AreKnown direction_word every_direction
unfolding every_direction
direction-known North = refl
direction-known other = refl

pub type-known : AreKnown system_word every_type
unfolding every_type
type-known Cartesian = refl
type-known other = refl

kind-known : AreKnown unit_word (Length ∷ Angle ∷ Scale ∷ Plain ∷ [])
kind-known Length = refl
kind-known other = refl

-- bytes that are one's own word and spell another's are the other's
one-word : {V : Type 0} (word : V → List ℕ) (vs : List V) → AreKnown word vs → (v w : V) → SpellsWord (word v) (word w) → v ≡ w
one-word word vs known v w p = let h : Some v ≡ Some w = sym (known v) ∙ ap (spelled word vs) p ∙ known w in cc

pub direction-one : (d e : Direction) → SpellsWord (direction_word d) (direction_word e) → d ≡ e
direction-one = one-word direction_word every_direction direction-known

pub type-one : (t u : SystemType) → SpellsWord (system_word t) (system_word u) → t ≡ u
type-one = one-word system_word every_type type-known

pub kind-one : (k l : UnitKind) → SpellsWord (unit_word k) (unit_word l) → k ≡ l
kind-one = one-word unit_word (Length ∷ Angle ∷ Scale ∷ Plain ∷ []) kind-known
