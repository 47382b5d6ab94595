-- A bridge: bytes that are cut into lines piece by piece.
use Rattle.std.specs.Prelude.{◌≡◌, ◌+◌, ◌<◌, ◌≤◌, ◌⊎◌, ◌++◌, ◌∷◌, [], ℕ, Bool, true, false, List, length, map, ◌*◌}
use Rattle.crs_value.specs.declared.values.level.Level.{Level}
use Rattle.crs_group.specs.Catalogue.{CatalogueParts}
use Rattle.crs_group.specs.GroupTexts.{IsCatalogueOfBy, PlacedLine}
use Rattle.crs_group.specs.Names.{NamedText, blank_texts, blanks_from, name_of, names_in, text_behind, texts_in}
use Rattle.crs_streams.specs.inner.Cutting.{AreCut}
use Rattle.crs_streams.specs.Lines.{AreLines, IsTextOf, blank_in, IsTooLong, HasShortLines}
use Rattle.crs_group.specs.GroupOutput.{numbered, catalogue_text}
use Rattle.crs_streams.specs.declared.fault.RunFault.{RunFault}
use Rattle.crs_group.specs.declared.placed.Placed.{Placed}
use Rattle.crs_group.specs.declared.placed.Placed.TheVariants.{Blank, Refused, Group}
use Rattle.crs_streams.specs.declared.fault.RunFault.TheVariants.{ReadFailed, WriteFailed, TooLong, TooManyReads, Memory}
use Rattle.std.specs.Io.KnownBytes.{Appends}
use Rattle.crs_streams.specs.Streams.{HasGivenAll, IsAskedFor, SourceState, SinkState}
use Rattle.crs_group.specs.declared.listing.Listing.{Listing}
use Rattle.crs_group.specs.declared.summary.Summary.{Summary}

-- a catalogue of numbered lines, their names if they have any, which of those with names are blank, how many lines there
-- are, and how many of them are blank
pub record LedgerParts : Type 0 where
  pub catalogue : CatalogueParts
  pub names : List (List ℕ)
  pub blanks : List ℕ
  pub lines : ℕ
  pub blank : ℕ

-- the ledger of no lines
abbrev pub no_lines : Level → LedgerParts
no_lines level = record {
  catalogue = record { level = level; groups = []; refused = [] };
  names = [];
  blanks = [];
  lines = 0;
  blank = 0;
}

-- the text of a line, where lines have names or not
abbrev pub text_in : Bool → List ℕ → List ℕ
text_in true line = text_behind line
text_in false line = line

-- the name of a further line, of this number, is behind the others, if lines have names
abbrev pub IsNamed : Bool → ℕ → List ℕ → List (List ℕ) → List (List ℕ) → Type 0
IsNamed true number line before after = after ≡ before ++ name_of number line ∷ []
IsNamed false number line before after = after ≡ before

-- the ledger is that of these lines, in this form of their texts; they have names or not
pub record IsLedgerOf (Form : Level → List ℕ → List ℕ → Type 0)
    (Share : Level → PlacedLine → PlacedLine → Type 0) (named : Bool) (texts : List (List ℕ))
    (ledger : LedgerParts) : Type 0 where
  pub of_lines : IsCatalogueOfBy Form Share (numbered 1 (texts_in named texts)) ledger.catalogue
  pub names : ledger.names ≡ names_in named texts
  pub blanks : ledger.blanks ≡ blanks_from named 1 texts
  pub lines : ledger.lines ≡ length texts
  pub blank : ledger.blank ≡ blank_in (texts_in named texts)

-- the ledger is that of these texts by their names, in this form of the texts
pub record IsLedgerOfNamed (Form : Level → List ℕ → List ℕ → Type 0)
    (Share : Level → PlacedLine → PlacedLine → Type 0) (texts : List NamedText)
    (ledger : LedgerParts) : Type 0 where
  pub of_texts : IsCatalogueOfBy Form Share (numbered 1 (map (λ t. t.text) texts)) ledger.catalogue
  pub names : ledger.names ≡ map (λ t. t.name) texts
  pub blanks : ledger.blanks ≡ blank_texts 1 texts
  pub lines : ledger.lines ≡ length texts

-- how many blank lines a line at this place is
abbrev pub blank_count : Placed → ℕ
blank_count Blank = 1
blank_count (Refused refusal) = 0
blank_count (Group n) = 0

-- the ledger is that of the lines of these bytes
pub record IsLedgerFor (Form : Level → List ℕ → List ℕ → Type 0)
    (Share : Level → PlacedLine → PlacedLine → Type 0) (named : Bool) (bytes : List ℕ)
    (ledger : LedgerParts) : Type 0 where
  pub texts : List (List ℕ)
  pub are_texts : AreLines bytes texts
  pub of_texts : IsLedgerOf Form Share named texts ledger

-- the ledger has one more line, with these bytes before its line feed
abbrev pub IsNextLine : (Level → List ℕ → List ℕ → Type 0) →
    (Level → PlacedLine → PlacedLine → Type 0) → Bool → List ℕ → LedgerParts → LedgerParts → Type 0
IsNextLine Form Share named line before after =
    (text : List ℕ) × IsTextOf line text
    × ((texts : List (List ℕ)) → IsLedgerOf Form Share named texts before →
    IsLedgerOf Form Share named (texts ++ text ∷ []) after)

-- the lines that have ended, and the bytes of the one that has not
pub record CutterParts : Type 0 where
  pub ledger : LedgerParts
  pub partial : List ℕ

-- so far these bytes were cut
pub record IsCutTo (Form : Level → List ℕ → List ℕ → Type 0)
    (Share : Level → PlacedLine → PlacedLine → Type 0) (named : Bool) (bytes : List ℕ)
    (cutter : CutterParts) : Type 0 where
  pub ended : List ℕ
  pub texts : List (List ℕ)
  pub is_cut : AreCut bytes ended cutter.partial cutter.ledger.lines
  pub are_texts : AreLines ended texts
  pub of_texts : IsLedgerOf Form Share named texts cutter.ledger

-- more bytes of the line that has not ended
pub record IsKept (more : List ℕ) (old new : CutterParts) : Type 0 where
  pub is_ledger : new.ledger ≡ old.ledger
  pub are_more : new.partial ≡ old.partial ++ more
  pub are_few : length old.partial + length more ≤ 1048576

-- the line is too long with them, or memory ran out
abbrev pub IsNotKept : List ℕ → CutterParts → RunFault → Type 0
IsNotKept more old fault =
    (fault ≡ Memory) ⊎ ((fault ≡ TooLong (old.ledger.lines + 1))
    × (1048576 < length old.partial + length more))

-- why bytes aren't cut
abbrev pub IsCutFault : List ℕ → RunFault → Type 0
IsCutFault bytes ReadFailed = ⊥
IsCutFault bytes WriteFailed = ⊥
IsCutFault bytes (TooLong number) = IsTooLong bytes number
IsCutFault bytes TooManyReads = ⊥
IsCutFault bytes Memory = Unit {0}

-- ---- a bridge: what the two halves of a run over lines do, the reading and the writing

-- all the bytes of the source are cut
pub record IsReadInto (Form : Level → List ℕ → List ℕ → Type 0)
    (Share : Level → PlacedLine → PlacedLine → Type 0) (named : Bool) (old new : SourceState)
    (cutter : CutterParts) : Type 0 where
  pub bytes : List ℕ
  pub is_whole : HasGivenAll old new bytes
  pub is_few : new.taken ≤ 65536 * 1048576
  pub is_cut : IsCutTo Form Share named bytes cutter

-- the ledger is that of the lines of the source
pub record IsLedgerWhole (Form : Level → List ℕ → List ℕ → Type 0)
    (Share : Level → PlacedLine → PlacedLine → Type 0) (named : Bool) (level : Level)
    (old new : SourceState) (ledger : LedgerParts) : Type 0 where
  pub bytes : List ℕ
  pub is_whole : HasGivenAll old new bytes
  pub are_short : HasShortLines bytes
  pub is_ledger : IsLedgerFor Form Share named bytes ledger
  pub is_level : ledger.catalogue.level ≡ level

-- the sink got the text of the ledger's catalogue, and this is the summary
pub record WritesLedger (listing : Listing) (ledger : LedgerParts) (old new : SinkState)
    (summary : Summary) : Type 0 where
  pub is_sent : Appends old.contents new.contents (catalogue_text listing ledger.names ledger.blanks ledger.catalogue)
  pub is_asked : IsAskedFor (catalogue_text listing ledger.names ledger.blanks ledger.catalogue) old new
  pub is_healthy : new.failed ≡ false
  pub lines : summary.lines ≡ ledger.lines
  pub blank : summary.blank ≡ ledger.blank
  pub refused : summary.refused ≡ length ledger.catalogue.refused
  pub groups : summary.groups ≡ length ledger.catalogue.groups

-- what a fault of the writing says of the sink
abbrev pub IsWritingFault : SinkState → SinkState → RunFault → Type 0
IsWritingFault old new ReadFailed = ⊥
IsWritingFault old new WriteFailed = new.failed ≡ true
IsWritingFault old new (TooLong number) = ⊥
IsWritingFault old new TooManyReads = ⊥
IsWritingFault old new Memory = new ≡ old
