-- What the source of a run has given, and what the two halves of the run say of the whole.
use Rattle.std.proofs.Common.{◌≡◌, ◌∙◌, ◌+◌, ◌<◌, ◌≤◌, ◌++◌, ◌*◌, ◌^◌, [], ℕ, Bool, List, false, ap₂, append-nil, arith, is_ok, length, length-append, Result, Ok, Err, IfErr, IfOk, IsErr, MatchResult}
use Rattle.crs_group.specs.inner.GroupReading.{CutterParts, IsCutFault, IsCutTo, IsLedgerFor, LedgerParts, IsLedgerWhole, IsReadInto, WritesLedger}
use Rattle.crs_value.specs.declared.values.level.Level.{Level}
use Rattle.crs_group.specs.GroupOutput.{IsGroupOutputBy, catalogue_text}
use Rattle.crs_streams.specs.inner.Prelude.{CountsRead, CutsLines, GivesMore, GivesShortLines, HasGiven, SinkState, SourceState}
use Rattle.crs_group.specs.GroupRun.{IsGroupedBy, IsReadingFault}
use Rattle.crs_group.specs.declared.listing.Listing.{Listing}
use Rattle.crs_group.specs.declared.summary.Summary.{Summary}
use Rattle.crs_streams.specs.declared.fault.RunFault.{RunFault}
use Rattle.crs_streams.specs.declared.fault.RunFault.TheVariants.{ReadFailed, TooLong, Memory}
use Rattle.crs_group.specs.GroupTexts.{PlacedLine}

pub fault-in-piece : (old new : SourceState) (bytes : List ℕ) (fault : RunFault) → HasGiven old new bytes
    → new.failed ≡ false → IsCutFault bytes fault → IsReadingFault old new fault
fault-in-piece old new bytes (TooLong number) given healthy h = (healthy, (bytes, given, h))
fault-in-piece old new bytes Memory given healthy h = healthy
fault-in-piece old new bytes fault given healthy h = absurd h

-- what holds of an answer holds of it where its error alone is replaced
pub kept : {A E F : Type 0} (P : A → Type 0) (Q : E → Type 0) (r : Result A E) (s : Result A F)
    → MatchResult r (λ x. s ≡ Ok x) Q → is_ok s ≡ is_ok r → IfOk r P → IfOk s P
kept P Q (Ok x) s is same p = rw is p
kept P Q (Err e) (Ok x) other same p = absurd cc
kept P Q (Err e) (Err f) other same p = tt

module _ (lines : CutsLines) (Form : Level → List ℕ → List ℕ → Type 0) (Share : Level → PlacedLine → PlacedLine → Type 0) (named : Bool) where
  -- so far no line was too long
  pub gives-short : (old now : SourceState) (bytes : List ℕ) (cutter : CutterParts) → HasGiven old now bytes
      → IsCutTo Form Share named bytes cutter → GivesShortLines old now
  gives-short old now bytes cutter given cut = (bytes, given, lines.short cut.is_cut)

  -- a read that fails
  pub failed-read : {E : Type 0} (old now new : SourceState) (bytes : List ℕ) (cutter : CutterParts) (answer : Result ℕ E)
      → HasGiven old now bytes → IsCutTo Form Share named bytes cutter → IfErr answer (λ _. GivesMore now new [])
      → CountsRead now new answer → IsErr answer → IsReadingFault old new ReadFailed
  failed-read old now new bytes cutter (Ok count) given cut kept counted bad = cc
  failed-read old now new bytes cutter (Err error) given cut kept counted bad =
      (counted.bytes.2, gives-short old new bytes cutter (rw append-nil at (kept old bytes given)) cut)

  -- lines are counted within 64 bits
  pub lines-fit : (bytes more : List ℕ) (cutter : CutterParts) (old new : SourceState) → IsCutTo Form Share named bytes cutter
      → HasGiven old new (bytes ++ more) → new.taken ≤ 65536 * 1048576 → cutter.ledger.lines + length more + 1 < 2 ^ 64
  lines-fit bytes more cutter old new cut given few =
      omega (arith, lines.fits cut.is_cut, given.is_counted, length-append bytes more)

  pub read-fits : (old new : SourceState) (cutter : CutterParts) → IsReadInto Form Share named old new cutter
      → cutter.ledger.lines + 1 < 2 ^ 64
  read-fits old new cutter read =
      omega (arith, lines.fits read.is_cut.is_cut, read.is_whole.is_given.is_counted, read.is_few)

  -- the ledger of all that was read
  pub whole-ledger : {E : Type 0} (level : Level) (old new : SourceState) (cutter : CutterParts)
      (answer : Result LedgerParts E) → IsReadInto Form Share named old new cutter
      → IfOk answer (λ ledger. (bytes : List ℕ) → IsCutTo Form Share named bytes cutter → IsLedgerFor Form Share named bytes ledger)
      → IfOk answer (λ ledger. ledger.catalogue.level ≡ level)
      → IfOk answer (IsLedgerWhole Form Share named level old new)
  whole-ledger level old new cutter (Ok ledger) read made is = record {
    bytes = read.bytes;
    is_whole = read.is_whole;
    are_short = lines.short read.is_cut.is_cut;
    is_ledger = made read.bytes read.is_cut;
    is_level = is;
  }
  whole-ledger level old new cutter (Err error) read made is = tt

-- the catalogue of all that was read is written
pub grouped : (Form : Level → List ℕ → List ℕ → Type 0) (Share : Level → PlacedLine → PlacedLine → Type 0)
    (listing : Listing) (level : Level) (old new : SourceState) (before after : SinkState) (ledger : LedgerParts)
    (summary : Summary) → IsLedgerWhole Form Share listing.names level old new ledger
    → WritesLedger listing ledger before after summary
    → IsGroupedBy (IsGroupOutputBy Form Share listing level) old new before after summary
grouped Form Share listing level old new before after ledger summary whole writes =
    let texts = whole.is_ledger.of_texts in record {
      bytes = whole.bytes;
      is_whole = whole.is_whole;
      are_short = whole.are_short;
      written = catalogue_text listing ledger.names ledger.blanks ledger.catalogue;
      is_output = record {
        texts = whole.is_ledger.texts;
        are_texts = whole.is_ledger.are_texts;
        catalogue = ledger.catalogue;
        is_level = whole.is_level;
        of_lines = texts.of_lines;
        is_written = ap₂ (λ names blanks. catalogue_text listing names blanks ledger.catalogue) texts.names texts.blanks;
        lines = writes.lines ∙ texts.lines;
        blank = writes.blank ∙ texts.blank;
        refused = writes.refused;
        groups = writes.groups;
      };
      is_sent = writes.is_sent;
      is_asked = writes.is_asked;
      is_healthy = writes.is_healthy;
    }
