-- What is written for the value of a part of a CRS.
use Rattle.std.specs.Prelude.{◌≡◌, ℕ, List, [], ◌++◌, codes}
use Rattle.crs_decimal.specs.Numbers.{Denotes, IsPlain, exact}
use Rattle.crs_shape.specs.Words.{kind_as}
use Rattle.crs_value.specs.Reads.{ReadsUnit}
use Rattle.crs_value.specs.declared.values.level.Level.{Level}
use Rattle.crs_same.specs.declared.content.Content.{Content}
use Rattle.crs_same.specs.declared.content.Content.TheVariants as content
use Rattle.crs_same.specs.SameParts.{SameUnit}
use Rattle.crs_normal.specs.PartSpellings.{IsSpelledAxisMeridian, IsSpelledDeformationModel, IsSpelledGeoidModel, IsSpelledIdent, IsSpelledMember, IsSpelledParameter, IsSpelledUsage, unit_class, IsSpelledAs}
use Rattle.crs_writer.specs.SetText.{IsSetText, SpellsOneOf}

-- the bytes are the text of the set of those xs whose spelling none of the others has
abbrev pub IsLackingText : {V : Type 0} → (V → List ℕ → Type 0) → List V → List V → List ℕ → Type 0
IsLackingText IsSpelling xs others =
    IsSetText (λ x text. IsSpelling x text × (¬ (SpellsOneOf IsSpelling others text))) xs

-- the bytes are what is written for the value of a part: for a unit its spelling where this kind is
-- asked, `UNIT` counting as that kind; for a set the members that the other lacks
abbrev pub IsContentText : Level → Content → List ℕ → Type 0
IsContentText level content.Nothing = λ bytes. bytes ≡ []
IsContentText level (content.Word word) = λ bytes. bytes ≡ word
IsContentText level (content.Text text) = λ bytes. bytes ≡ codes "\"" ++ text ++ codes "\""
IsContentText level (content.Number value) = λ bytes. IsPlain bytes × Denotes bytes (exact value)
IsContentText level (content.Unit asked unit) =
    IsSpelledAs level (unit_class (kind_as asked unit.kind)) ReadsUnit (SameUnit asked level) unit
IsContentText level content.Metre = λ bytes. bytes ≡ codes "LENGTHUNIT[\"metre\",1]"
IsContentText level (content.Meridian meridian) = IsSpelledAxisMeridian level meridian
IsContentText level (content.Model model) = IsSpelledDeformationModel level model
IsContentText level (content.Identifiers xs ys) = IsLackingText (IsSpelledIdent level) xs ys
IsContentText level (content.Usages xs ys) = IsLackingText (IsSpelledUsage level) xs ys
IsContentText level (content.Members xs ys) = IsLackingText (IsSpelledMember level) xs ys
IsContentText level (content.Parameters xs ys) = IsLackingText (IsSpelledParameter level) xs ys
IsContentText level (content.GeoidModels xs ys) = IsLackingText (IsSpelledGeoidModel level) xs ys
