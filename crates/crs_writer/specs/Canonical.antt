-- Canonical texts; when two are equal, as a test, and what one gives to a hash.
use Rattle.std.specs.Prelude.{◌≡◌, ◌++◌, ℕ, List, ◌&&◌, Bool, nat_eq}
use Rattle.crs_value.specs.Spells.{Spells}
use Rattle.crs_value.specs.declared.values.crs.Crs.{Crs}
use Rattle.crs_value.specs.declared.values.level.Level.{Level}
use Rattle.crs_same.specs.SameCrs.{SameCrs}
use Rattle.crs_normal.specs.Normal.{IsNormalText}
use Rattle.std.specs.Cmp.Lexicographic.{pointwise}
use Rattle.std.specs.Hash.{HashWrites, u64}
use Rattle.std.specs.Hash.DefaultHasher.{finish, initial, write}
use denote.Enum.Bare.{sameb}
use Rattle.crs_value.specs.contracts.values.level.Level.{the_type}

-- ---- canonical texts

-- a text and the level at which it was written, as callers see them
pub record CanonicalText : Type 0 where
  pub bytes : List ℕ
  pub level : Level

-- the canonical text of a CRS at a level: it is normal, and spells a CRS that is the same
pub record IsCanonicalText (level : Level) (crs : Crs) (bytes : List ℕ) : Type 0 where
  pub normal : IsNormalText level bytes
  pub value : Crs
  pub spells : Spells bytes value
  pub same : SameCrs level crs value

-- the canonical text of a text: that of the CRS that it spells
abbrev pub IsCanonicalOf : Level → List ℕ → List ℕ → Type 0
IsCanonicalOf level text bytes = (crs : Crs) × Spells text crs × IsCanonicalText level crs bytes

-- what follows the bytes from before is a spelling
pub record AppendsSpelling (IsSpelling : List ℕ → Type 0) (before after : List ℕ) : Type 0 where
  pub spelling : List ℕ
  pub appended : after ≡ before ++ spelling
  pub is_spelling : IsSpelling spelling

-- ---- when two canonical texts are equal, as a test, and what one gives to a hash

-- whether levels and texts are equal
abbrev pub canons_equal : CanonicalText → CanonicalText → Bool
canons_equal a b = sameb the_type a.level b.level && pointwise nat_eq a.bytes b.bytes

-- SipHash-1-3 of bytes, with both keys 0
abbrev pub digest_of : List ℕ → ℕ
digest_of bytes = finish (write initial bytes)

-- what a canonical text gives to a hash: the digest of its bytes, as eight bytes
abbrev pub canon_writes : CanonicalText → HashWrites
canon_writes canon = u64 (digest_of canon.bytes)
