-- A bridge: what is wanted of many texts.
use Rattle.sha2.specs.Sha256.{sha256}
use Rattle.std.specs.Prelude.{ℕ, List}
use Rattle.crs_value.specs.declared.values.level.Level.{Level}
use Rattle.crs_writer.specs.Canonical.{IsCanonicalOf}
use Rattle.crs_c.specs.declared.calls.canon.Entry.{Entry}
use Rattle.crs_c.specs.declared.calls.canon.Wanted.{Wanted}
use Rattle.crs_c.specs.declared.calls.canon.Wanted.TheVariants.{Canonical, Digest}
use Rattle.crs_c.specs.Canon.{IsDigestOf, Spelling}
use Rattle.crs_c.specs.inner.Turns.{IsWritten}

-- the canonical text, or its digest
abbrev pub IsWanted : Wanted → Spelling
IsWanted (Canonical level) = IsCanonicalOf level
IsWanted (Digest level) = IsDigestOf level

-- at this level
abbrev pub level_wanted : Wanted → Level
level_wanted (Canonical level) = level
level_wanted (Digest level) = level

-- what is wanted of a canonical text is written at a place
abbrev pub IsMadeOf : Wanted → List ℕ → ℕ → Entry → List ℕ → Entry → List ℕ → ℕ → Type 0
IsMadeOf (Canonical level) canonical = IsWritten canonical
IsMadeOf (Digest level) canonical = IsWritten (sha256 canonical)
