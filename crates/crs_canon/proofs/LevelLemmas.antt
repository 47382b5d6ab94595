-- Canonical texts at the two levels.
use Rattle.std.proofs.Common.{◌≡◌, ◌↔◌, ℕ, List, subst}
use Rattle.crs_value.specs.inner.Prelude.{IsCrs, Spells}
use Rattle.crs_value.specs.declared.values.crs.Crs.{Crs}
use Rattle.crs_value.specs.declared.values.level.Level.{Level}
use Rattle.crs_value.specs.declared.values.level.Level.TheVariants as levels
use Rattle.crs_same.specs.inner.Prelude.{SameCrs, IsSamenessOf}
use Rattle.crs_normal.specs.inner.Prelude.{IsNormalText}
use Rattle.crs_writer.specs.inner.Prelude.{IsCanonicalOf}
use Rattle.crs_canon.proofs.MainLemmas.{its-own}

module _ (laws : (level : Level) → IsSamenessOf IsCrs (SameCrs level)) (sound : (text : List ℕ) (crs : Crs) → Spells text crs → IsCrs crs)
    (once : (text : List ℕ) (a b : Crs) → Spells text a → Spells text b → a ≡ b)
    (narrower : (a b : Crs) → SameCrs levels.Full a b → SameCrs levels.Definition a b)
    (wider : (level : Level) (bytes : List ℕ) → IsNormalText level bytes → IsNormalText levels.Full bytes) where
  -- the canonical text of a text is that of another that spells the same CRS
  carried : (level : Level) (from to bytes : List ℕ) (x y : Crs) → Spells from x → Spells to y → SameCrs level y x →
      IsCanonicalOf level from bytes → IsCanonicalOf level to bytes
  carried level from to bytes x y sx sy same (z, sz, c) = (
    y,
    sy,
    record {
      normal = c.normal;
      value = c.value;
      spells = c.spells;
      same = (laws level).transitive y x c.value (sound to y sy) (sound from x sx) (sound bytes c.value c.spells) same
          (subst (λ crs. SameCrs level crs c.value) (once from z x sz sx) c.same);
    },
  )

  pub through : (text full definition : List ℕ) → IsCanonicalOf levels.Full text full →
      IsCanonicalOf levels.Definition text definition ↔ IsCanonicalOf levels.Definition full definition
  through text full definition (x, spells, c) =
      let same : SameCrs levels.Definition x c.value = narrower x c.value c.same in
      let back = (laws levels.Definition).symmetric x c.value (sound text x spells) (sound full c.value c.spells) same in (
        carried levels.Definition text full definition x c.value spells c.spells back,
        carried levels.Definition full text definition c.value x c.spells spells same,
      )

  pub own : (text definition : List ℕ) → IsCanonicalOf levels.Definition text definition → (level : Level) → IsCanonicalOf level definition definition
  own text definition (x, spells, c) level =
      its-own level definition c.value (laws level) (sound definition c.value c.spells) (as-asked level) c.spells
    where
      as-asked : (level : Level) → IsNormalText level definition
      as-asked levels.Full = wider levels.Definition definition c.normal
      as-asked levels.Definition = c.normal
