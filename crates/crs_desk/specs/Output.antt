-- What `canon` and `check` write for a text, and their status.
use Rattle.std.specs.Prelude.{◌≡◌, ◌++◌, ◌⊎◌, ℕ, List, [], ◌∷◌, codes, decimal, length, take}
use Rattle.crs_text.specs.Refusal.{RefusedAt, name_of, refused_text}
use Rattle.crs_streams.specs.Json.{number_member, text_member}
use Rattle.crs_value.specs.declared.values.crs.Kind.{Kind}
use Rattle.crs_value.specs.declared.values.crs.Kind.TheVariants as kind
use Rattle.crs_value.specs.Spells.{SpellsKind, Refuses}
use Rattle.crs_value.specs.declared.values.level.Level.{Level}
use Rattle.crs_writer.specs.Canonical.{IsCanonicalOf}
use Rattle.crs_desk.specs.declared.runs.manner.Manner.{Manner}
use Rattle.crs_desk.specs.declared.runs.manner.Manner.TheVariants as manner

-- the word for a kind of CRS
abbrev pub kind_word : Kind → List ℕ
kind_word kind.Geodetic = codes "geodetic"
kind_word kind.Geographic = codes "geographic"
kind_word kind.Projected = codes "projected"
kind_word kind.Vertical = codes "vertical"
kind_word kind.Compound = codes "compound"

-- a kind of CRS is written as `accepted` and its word, or as `{"accepted":"geographic"}`
abbrev pub kind_told : Manner → Kind → List ℕ
kind_told manner.Lines kind = codes "accepted " ++ kind_word kind
kind_told manner.Objects kind = codes "{\"accepted\":\"" ++ kind_word kind ++ codes "\"}"

-- which of two texts it is, by the word before the blank that ends these bytes; nothing where there is one text
abbrev pub which_told : List ℕ → List ℕ
which_told [] = []
which_told (b ∷ which) = codes "\"text\":\"" ++ take (length which) (b ∷ which) ++ codes "\","

-- a refusal is written by number, name and place, after these bytes that say which of two texts it is, or in an object
abbrev pub refusal_told : Manner → List ℕ → RefusedAt → List ℕ
refusal_told manner.Lines which refusal = which ++ refused_text refusal.number refusal.place
refusal_told manner.Objects which refusal =
    codes "{" ++ which_told which ++ codes "\"refused\":" ++ decimal refusal.number
    ++ text_member (codes "name") (name_of refusal.number) ++ number_member (codes "place") refusal.place ++ codes "}"

-- these bytes and a line end are written, with this status
pub record IsLine (bytes : List ℕ) (end : ℕ) (written : List ℕ) (status : ℕ) : Type 0 where
  pub line : written ≡ bytes ++ 10 ∷ []
  pub is_status : status ≡ end

-- the refusal of a text, with status 1
abbrev pub WritesRefusal : List ℕ → List ℕ → ℕ → Type 0
WritesRefusal text written status =
    (refusal : RefusedAt) × Refuses text refusal
    × IsLine (refused_text refusal.number refusal.place) 1 written status

-- the refusal of a text after the bytes that say which text it is, with status 1
abbrev pub WritesRefusalOf : Manner → List ℕ → List ℕ → List ℕ → ℕ → Type 0
WritesRefusalOf how which text written status =
    (refusal : RefusedAt) × Refuses text refusal × IsLine (refusal_told how which refusal) 1 written status

-- what `canon` writes for a text: its canonical text at this level, with status 0, or its refusal
unfoldable pub IsCanonOutput : Level → List ℕ → List ℕ → ℕ → Type 0
IsCanonOutput level text written status =
    ((canonical : List ℕ) × IsCanonicalOf level text canonical × IsLine canonical 0 written status)
    ⊎ WritesRefusal text written status

-- what `check` writes for a text: the kind of its CRS, with status 0, or its refusal
unfoldable pub IsCheckOutput : Manner → List ℕ → List ℕ → ℕ → Type 0
IsCheckOutput how text written status =
    ((found : Kind) × SpellsKind text found × IsLine (kind_told how found) 0 written status)
    ⊎ WritesRefusalOf how [] text written status
