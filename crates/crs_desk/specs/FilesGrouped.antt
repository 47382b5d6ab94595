-- What is written of whole files that are grouped, and the status.
use Rattle.std.specs.Prelude.{◌≡◌, ◌⊎◌, ◌==◌, ◌++◌, ◌∷◌, [], ℕ, List, Option, IfSome, false, length, map, max, if◌then◌else◌}
use Rattle.std.specs.Io.KnownBytes.{Appends}
use Rattle.crs_streams.specs.Streams.{SinkState}
use Rattle.crs_value.specs.declared.values.level.Level.{Level}
use Rattle.crs_group.specs.Catalogue.{CatalogueParts}
use Rattle.crs_group.specs.GroupOutput.{catalogue_text, numbered}
use Rattle.crs_group.specs.GroupTexts.{IsCatalogueOfBy, PlacedLine}
use Rattle.crs_group.specs.Names.{NamedText, blank_texts}
use Rattle.crs_group.specs.declared.listing.Listing.{Listing}

-- the text of a file by its name, with status 0; or none of a file that can't be read, with status 2
abbrev pub IsReadFile : Option (List ℕ) → List ℕ → List NamedText → ℕ → Type 0
IsReadFile known name one status =
    ((text : List ℕ) × IfSome known (λ all. text ≡ all)
    × (one ≡ record { name = name; text = text } ∷ []) × (status ≡ 0))
    ⊎ ((one ≡ []) × (status ≡ 2))

-- those of files in their order, and the greatest status
abbrev pub AreReadFiles : (List ℕ → Option (List ℕ)) → List (List ℕ) → List NamedText → ℕ → Type 0
AreReadFiles known [] texts status = (texts ≡ []) × (status ≡ 0)
AreReadFiles known (name ∷ names) texts status =
    (one : List NamedText) × (others : List NamedText) × (first : ℕ) × (rest : ℕ)
    × IsReadFile (known name) name one first × AreReadFiles known names others rest
    × (texts ≡ one ++ others) × (status ≡ max first rest)

-- the sink got the catalogue of the texts of files, in this form of them, by the files' names; the
-- status is 2 where a file can't be read, else 1 where a text is refused
pub record AreFilesGrouped (Form : Level → List ℕ → List ℕ → Type 0)
    (Share : Level → PlacedLine → PlacedLine → Type 0) (listing : Listing) (level : Level)
    (known : List ℕ → Option (List ℕ)) (names : List (List ℕ)) (before after : SinkState)
    (status : ℕ) : Type 0 where
  pub texts : List NamedText
  pub failed : ℕ
  pub are_read : AreReadFiles known names texts failed
  pub catalogue : CatalogueParts
  pub is_level : catalogue.level ≡ level
  pub of_texts : IsCatalogueOfBy Form Share (numbered 1 (map (λ t. t.text) texts)) catalogue
  pub is_sent : Appends before.contents after.contents
      (catalogue_text listing (map (λ t. t.name) texts) (blank_texts 1 texts) catalogue)
  pub is_status : status ≡ max failed (if length catalogue.refused == 0 then 0 else 1)
  pub is_healthy : after.failed ≡ false
