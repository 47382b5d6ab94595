-- A bridge: what the lower crates provide, as one fact: laws of numbers, of items and their texts, and
-- of the axes of coordinate systems; and the test that a number is a whole one.
use Rattle.std.specs.Prelude.{◌≡◌, ◌↔◌, ◌<◌, ◌≤◌, ◌^◌, ℕ, ⊤, true, List, codes, length}
use Rattle.crs_decimal.specs.Numbers.{Denotes, IsInBounds, AreDigits, HasForm, Parts, SpellsNumber, Number, SameNumber, whole_number, Value, IsNormal, exact, zero, IsPlain, plain}
use Rattle.crs_decimal.specs.inner.Run.{IsRun}
use Rattle.crs_text.specs.Items.{Item}
use Rattle.crs_text.specs.TextFault.{SpellsNode}
use Rattle.crs_text.specs.Written.{AreFormed, WrittenSpells}
use Rattle.crs_shape.specs.declared.class.Class.{Class}
use Rattle.crs_shape.specs.ShapeFault.{Inside, IsFree, Shaped}
use Rattle.crs_value.specs.Sound.{IsSystem}
use Rattle.crs_value.specs.Values.{AxisParts, SystemParts}
use Rattle.crs_same.specs.SameParts.{HasAt, SameValue}
use Rattle.crs_normal.specs.inner.SpelledCrs.{is_number}

-- normal values are equal where their numbers are, each has one plain spelling, and a number is tested by it; a written
-- item is the only one that its text spells; and each position of a coordinate system has one axis
pub record LowerLaws : Type 0 where
  pub one_form : (bytes : List ℕ) (p q : Parts) → SpellsNumber bytes p → SpellsNumber bytes q → p ≡ q
  pub run : (bytes : List ℕ) → HasForm bytes → IsRun bytes
  pub digits_alone : (bytes : List ℕ) → AreDigits bytes → 0 < length bytes → length bytes ≤ 18 → IsInBounds bytes
  pub denotes_one : (bytes : List ℕ) (a b : Value) → IsNormal a → IsNormal b →
      Denotes bytes (exact a) → Denotes bytes (exact b) → a ≡ b
  pub is_plain : (v : Value) → IsNormal v → IsPlain (plain v)
  pub denotes : (v : Value) → IsNormal v → Denotes (plain v) (exact v)
  pub plain_one : (v : Value) (bytes : List ℕ) → IsNormal v → IsPlain bytes → Denotes bytes (exact v) → bytes ≡ plain v
  pub zero_plain : plain zero ≡ codes "0"
  pub normal_is_one : (a b : Value) → IsNormal a → IsNormal b → SameNumber (exact a) (exact b) ↔ (a ≡ b)
  pub symmetric : (a b : Number) → SameNumber a b → SameNumber b a
  pub transitive : (a b c : Number) → SameNumber a b → SameNumber b c → SameNumber a c
  pub tested : (v : Value) (n : ℕ) → IsNormal v → n < 2 ^ 64 →
      (is_number v n ≡ true) ↔ SameNumber (exact v) (whole_number n)
  pub spells : WrittenSpells
  pub formed : (bytes : List ℕ) (item : Item) → SpellsNode bytes item → AreFormed item
  pub one_node : (bytes : List ℕ) (i j : Item) → SpellsNode bytes i → SpellsNode bytes j → i ≡ j
  pub shape : (c : Class) (item : Item) → IsFree (Inside c item) ↔ Shaped c item
  pub some_axis : (system : SystemParts) → IsSystem system → (position : ℕ) → 1 ≤ position →
      position ≤ length system.axes →
      HasAt position (λ axis. ⊤) 1 system.axes
  pub one_axis : (system : SystemParts) → IsSystem system → (position : ℕ) (x y : AxisParts) →
      HasAt position (λ axis. axis ≡ x) 1 system.axes →
      HasAt position (λ axis. axis ≡ y) 1 system.axes → x ≡ y
  pub as_many : (a b : SystemParts) → IsSystem a → IsSystem b → SameValue a.dimension b.dimension →
      length a.axes ≡ length b.axes
