-- What is within something among the parts of two values is within one thing.
use Rattle.std.proofs.Common.{◌≡◌, ℕ, Option, Some, None, refl, ap}
use Rattle.crs_value.specs.declared.values.compound.Horizontal.{Horizontal}
use Rattle.crs_value.specs.declared.values.compound.Horizontal.TheVariants as horizontal
use Rattle.crs_value.specs.declared.values.crs.Crs.{Crs}
use Rattle.crs_value.specs.declared.values.crs.Crs.TheVariants as crs
use Rattle.crs_value.specs.declared.values.level.Level.{Level}
use Rattle.crs_value.specs.inner.Prelude.{CompoundParts, IsCompound, IsHorizontal, IsCrs, IsSystem, AxisParts, SystemParts}
use Rattle.crs_same.specs.Parts.{parts_of_crs}
use Rattle.crs_same.specs.inner.Prelude.{StandsAt, HasAt}
use Rattle.crs_same.proofs.AllSameLemmas.{IsSettled}
use Rattle.crs_same.proofs.EachPartLemmas as each
use Rattle.crs_same.proofs.AxisLemmas.{has-some}

-- a position of a sound coordinate system has one axis at most
abbrev HasOne : (SystemParts → Type 0) → Type 0
HasOne Sound =
    (system : SystemParts) → Sound system → (position : ℕ) (x y : AxisParts) →
    HasAt position (λ axis. axis ≡ x) 1 system.axes → HasAt position (λ axis. axis ≡ y) 1 system.axes → x ≡ y

one-stands : (Sound : SystemParts → Type 0) → HasOne Sound → (system : SystemParts) → Sound system → (position : ℕ) (x y : Option AxisParts) →
    StandsAt position system.axes x → StandsAt position system.axes y → x ≡ y
one-stands Sound one system sound position None None here there = refl
one-stands Sound one system sound position None (Some y) here there = absurd (here (has-some position 1 system.axes y there))
one-stands Sound one system sound position (Some x) None here there = absurd (there (has-some position 1 system.axes x here))
one-stands Sound one system sound position (Some x) (Some y) here there = ap Some (one system sound position x y here there)

-- the systems of a sound CRS are sound
of-horizontal : (a : Horizontal) → IsHorizontal a → IsSystem (each.system_in a)
of-horizontal (horizontal.Geodetic a) sound = sound.0.system
of-horizontal (horizontal.Projected a) sound = sound.0.system

pub are-sound : (a : CompoundParts) → IsCompound a → each.AreSound IsSystem a
are-sound a sound = (of-horizontal a.horizontal sound.horizontal, sound.vertical.system)

sound-in : (a : Crs) → IsCrs a → each.SoundIn IsSystem a
sound-in (crs.Geodetic a) sound = sound.system
sound-in (crs.Projected a) sound = sound.system
sound-in (crs.Vertical a) sound = sound.system
sound-in (crs.Compound a) sound = are-sound a sound

module _ (level : Level) where
  settles : (Sound : SystemParts → Type 0) → HasOne Sound → each.Spreads level IsSettled (λ at. Unit {0}) Sound
  settles Sound one = record {
    nothing = tt;
    both = λ these others here there. (here, there);
    on = λ at s counts is. tt;
    each = λ at s Same first second counts is. tt;
    placed = λ a b sound-a sound-b position parts all. (
      one-stands Sound one a sound-a position,
      λ x here. (one-stands Sound one b sound-b position, λ y there. all x y),
    );
  }

  -- outside a coordinate system
  pub without : each.Spreads level IsSettled (λ at. Unit {0}) (λ system. ⊥)
  without = settles (λ system. ⊥) (λ system no. absurd no)

  -- in a CRS
  pub of-systems : HasOne IsSystem → each.Spreads level IsSettled (λ at. Unit {0}) IsSystem
  of-systems = settles IsSystem

  pub crs-of : HasOne IsSystem → (a b : Crs) → IsCrs a → IsCrs b → IsSettled (parts_of_crs level a b)
  crs-of one a b sound-a sound-b = each.crs-of (of-systems one) a b (sound-in a sound-a) (sound-in b sound-b) tt
