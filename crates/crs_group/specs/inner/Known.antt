-- A bridge: texts that are remembered beside their groups.
use Rattle.std.specs.Prelude.{◌≡◌, ℕ, List, Option, Some, All, IfSome, slice_get}
use Rattle.crs_value.specs.declared.values.level.Level.{Level}
use Rattle.crs_writer.specs.Canonical.{CanonicalText, IsCanonicalOf}

-- a text, and the place of its group, from 0; without a place nothing is known of it
pub record KnownText : Type 0 where
  pub text : List ℕ
  pub group : Option ℕ

-- of the texts of groups, the one at this place is the canonical text of a text
pub record HasGroup (level : Level) (texts : List CanonicalText) (text : List ℕ) (at : ℕ) : Type 0
  where
    pub canon : CanonicalText
    pub found : slice_get texts at ≡ Some canon
    pub is_at_level : canon.level ≡ level
    pub is_canonical : IsCanonicalOf level text canon.bytes

-- the text's group is the one that is remembered, if any is
abbrev pub IsKnown : Level → List CanonicalText → KnownText → Type 0
IsKnown level texts known = IfSome known.group (HasGroup level texts known.text)

-- each of these texts has the group that is remembered
abbrev pub AreKnown : Level → List CanonicalText → List KnownText → Type 0
AreKnown level texts recent = All (IsKnown level texts) recent
