-- A bridge: files whose texts are added to a ledger.
use Rattle.std.specs.Prelude.{◌≡◌, ◌++◌, ℕ, List, Option}
use Rattle.crs_value.specs.declared.values.level.Level.{Level}
use Rattle.crs_group.specs.GroupTexts.{PlacedLine}
use Rattle.crs_group.specs.Names.{NamedText}
use Rattle.crs_group.specs.inner.GroupReading.{IsLedgerOfNamed, LedgerParts}
use Rattle.crs_desk.specs.FilesGrouped.{AreReadFiles, IsReadFile}

-- the text of a file is added, or the file fails
abbrev pub IsAdded : (Level → List ℕ → List ℕ → Type 0) → (Level → PlacedLine → PlacedLine → Type 0) →
    Option (List ℕ) → List ℕ → LedgerParts → LedgerParts → ℕ → Type 0
IsAdded Form Share known name before after status =
    (one : List NamedText) × IsReadFile known name one status
    × ((texts : List NamedText) → IsLedgerOfNamed Form Share texts before →
    IsLedgerOfNamed Form Share (texts ++ one) after)

-- all texts that can be read are added
abbrev pub AreAdded : (Level → List ℕ → List ℕ → Type 0) → (Level → PlacedLine → PlacedLine → Type 0) →
    Level → (List ℕ → Option (List ℕ)) → List (List ℕ) → LedgerParts → ℕ → Type 0
AreAdded Form Share level known names ledger status =
    (texts : List NamedText) × AreReadFiles known names texts status
    × IsLedgerOfNamed Form Share texts ledger × (ledger.catalogue.level ≡ level)
