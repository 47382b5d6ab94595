-- What `digest` writes for a text, and its status.
use Rattle.std.specs.Prelude.{◌⊎◌, ℕ, List}
use Rattle.hex.specs.Hex.{encode_lower}
use Rattle.sha2.specs.Sha256.{sha256}
use Rattle.crs_writer.specs.Canonical.{IsCanonicalOf}
use Rattle.crs_rules.specs.Rewritten.{IsForm}
use Rattle.crs_desk.specs.Output.{IsLine, WritesRefusal}
use Rattle.crs_desk.specs.declared.runs.digest.Spelled.{Spelled}
use Rattle.crs_desk.specs.declared.runs.digest.Spelled.TheVariants as by

-- the bytes by which a text is known: its canonical text at a level, or its form under rules
abbrev pub IsSpelled : Spelled → List ℕ → List ℕ → Type 0
IsSpelled (by.Canonical level) text bytes = IsCanonicalOf level text bytes
IsSpelled (by.Form level rules) text bytes = IsForm rules.now level text bytes

-- the digest of bytes by SHA-256 (FIPS 180-4), in hexadecimal with small letters
abbrev pub hex_digest : List ℕ → List ℕ
hex_digest bytes = encode_lower (sha256 bytes)

-- what `digest` writes for a text: the digest of the bytes by which it is known, with status 0, or its refusal
unfoldable pub IsDigestOutput : Spelled → List ℕ → List ℕ → ℕ → Type 0
IsDigestOutput known text written status =
    ((bytes : List ℕ) × IsSpelled known text bytes × IsLine (hex_digest bytes) 0 written status)
    ⊎ WritesRefusal text written status
