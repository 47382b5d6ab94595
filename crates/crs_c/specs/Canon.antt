-- What crsdesk_canon and crsdesk_digest answer.
use Rattle.std.specs.Prelude.{◌≡◌, ◌⊎◌, ℕ, List}
use Rattle.sha2.specs.Sha256.{sha256}
use Rattle.crs_value.specs.declared.values.level.Level.{Level}
use Rattle.crs_writer.specs.Canonical.{IsCanonicalOf}
use Rattle.crs_c.specs.Answers.{Answer, IsAtLevel, IsRefusedBy, IsWithoutMemory}
use Rattle.crs_c.specs.Buffers.{Buffer, Gives}

-- which bytes are answered of a text
abbrev pub Spelling : Type 1
Spelling = List ℕ → List ℕ → Type 0

-- the digest, by SHA-256 (FIPS 180-4), of the canonical text of a text
abbrev pub IsDigestOf : Level → Spelling
IsDigestOf level text digest =
    (canonical : List ℕ) × IsCanonicalOf level text canonical × (digest ≡ sha256 canonical)

-- such bytes are given, with their code; or the refusal with code 1; or code 3; all else is as before
unfoldable pub IsSpelledAt : Spelling → List ℕ → Answer (Buffer ℕ)
IsSpelledAt Is text old new code =
    Gives (Is text) old new code ⊎ IsRefusedBy 1 text old new code ⊎ IsWithoutMemory old new code

-- the canonical text at the level of this number, where there is such a level
abbrev pub IsCanonAnswer : ℕ → List ℕ → Answer (Buffer ℕ)
IsCanonAnswer level text = IsAtLevel level (λ l. IsSpelledAt (IsCanonicalOf l) text)

-- and its digest
abbrev pub IsDigestAnswer : ℕ → List ℕ → Answer (Buffer ℕ)
IsDigestAnswer level text = IsAtLevel level (λ l. IsSpelledAt (IsDigestOf l) text)
