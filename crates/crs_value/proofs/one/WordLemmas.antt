-- A word spells one direction, one type of coordinate system and one kind of unit at most, letter case aside.
use Rattle.std.proofs.Common.{◌≡◌, ℕ, List, [], ◌∷◌, Option, Some, find, refl, sym, ap, ◌∙◌}
use Rattle.std.specs.Str.{bytes_eq, str_to_ascii_lowercase}
use Rattle.crs_shape.specs.Words.{SpellsWord, direction_word, every_direction, every_type, system_word, unit_word}
use Rattle.crs_shape.specs.declared.direction.Direction.{Direction}
use Rattle.crs_shape.specs.declared.direction.Direction.TheVariants.{North}
use Rattle.crs_shape.specs.declared.system_type.SystemType.{SystemType}
use Rattle.crs_shape.specs.declared.system_type.SystemType.TheVariants.{Cartesian}
use Rattle.crs_shape.specs.declared.unit_kind.UnitKind.{UnitKind}
use Rattle.crs_shape.specs.declared.unit_kind.UnitKind.TheVariants.{Angle, Length, Plain, Scale}

-- what this word, in small letters, is the word of, among some
abbrev pub spelled : {V : Type 0} → (V → List ℕ) → List V → List ℕ → Option V
spelled word vs small = find (λ v. bytes_eq (str_to_ascii_lowercase (word v)) small) vs

-- each is what its own word spells
abbrev pub IsSpelled : {V : Type 0} → (V → List ℕ) → List V → V → Type 0
IsSpelled word vs v = spelled word vs (str_to_ascii_lowercase (word v)) ≡ Some v

one-spelled : {V : Type 0} (word : V → List ℕ) (vs : List V) → ((v : V) → IsSpelled word vs v) →
    (raw : List ℕ) (v w : V) → SpellsWord raw (word v) → SpellsWord raw (word w) → v ≡ w
one-spelled word vs known raw v w p q =
    let h : Some v ≡ Some w = sym (known v) ∙ ap (spelled word vs) (sym p ∙ q) ∙ known w in
    cc

pub direction-spelled : (d : Direction) → IsSpelled direction_word every_direction d
unfolding every_direction
direction-spelled North = refl
direction-spelled other = refl

pub direction-one : (raw : List ℕ) (d e : Direction) → SpellsWord raw (direction_word d) → SpellsWord raw (direction_word e) → d ≡ e
direction-one = one-spelled direction_word every_direction direction-spelled

pub type-spelled : (t : SystemType) → IsSpelled system_word every_type t
unfolding every_type
type-spelled Cartesian = refl
type-spelled other = refl

pub type-one : (raw : List ℕ) (t u : SystemType) → SpellsWord raw (system_word t) → SpellsWord raw (system_word u) → t ≡ u
type-one = one-spelled system_word every_type type-spelled

abbrev every_kind : List UnitKind
every_kind = Length ∷ Angle ∷ Scale ∷ Plain ∷ []

kind-spelled : (k : UnitKind) → IsSpelled unit_word every_kind k
kind-spelled Length = refl
kind-spelled other = refl

pub kind-one : (raw : List ℕ) (k j : UnitKind) → SpellsWord raw (unit_word k) → SpellsWord raw (unit_word j) → k ≡ j
kind-one = one-spelled unit_word every_kind kind-spelled
