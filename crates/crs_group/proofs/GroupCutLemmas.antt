-- Bytes are cut into lines, one piece further.
use Rattle.std.proofs.Common.{◌≡◌, ◌+◌, ◌<◌, ◌≤◌, ◌++◌, ◌∷◌, [], ℕ, Bool, List, true, false, length, ap, sym, refl, arith, append_assoc, append-nil, inl, inr, length-append, ◌==◌}
use Rattle.std.proofs.lemmas.Bool.{eqb-true, false≢true}
use Rattle.std.proofs.lemmas.List.{nil_from_length}
use Rattle.std.proofs.lemmas.List.Folds.{list_all-append}
use Rattle.crs_group.specs.inner.GroupReading.{CutterParts, IsCutFault, IsCutTo, IsKept, IsLedgerFor, IsLedgerOf, IsNextLine, IsNotKept, LedgerParts, no_lines}
use Rattle.crs_streams.specs.declared.fault.RunFault.{RunFault}
use Rattle.crs_streams.specs.inner.Prelude.{CutsLines, HasNoFeed, IsSplit, IsTooLong}
use Rattle.crs_value.specs.declared.values.level.Level.{Level}
use Rattle.crs_group.specs.GroupTexts.{PlacedLine}
use Rattle.crs_group.proofs.LineAddedLemmas.{none-ledger}

abbrev pub cutter_of : LedgerParts → List ℕ → CutterParts
cutter_of ledger partial = record { ledger = ledger; partial = partial }

module _ (lines : CutsLines) (Form : Level → List ℕ → List ℕ → Type 0) (Share : Level → PlacedLine → PlacedLine → Type 0) (named : Bool) where
  -- no byte was cut
  pub cut-fresh : (level : Level) (cutter : CutterParts) → cutter ≡ cutter_of (no_lines level) [] → IsCutTo Form Share named [] cutter
  cut-fresh level cutter is = rw is (record {
    ended = [];
    texts = [];
    is_cut = lines.none;
    are_texts = refl;
    of_texts = none-ledger Form Share named level;
  })

  -- a line ends
  cut-line : (bytes line : List ℕ) (before after : CutterParts) → IsCutTo Form Share named bytes before → HasNoFeed line
      → length before.partial + length line ≤ 1048576
      → IsNextLine Form Share named (before.partial ++ line) before.ledger after.ledger → after.partial ≡ []
      → IsCutTo Form Share named (bytes ++ (line ++ 10 ∷ [])) after
  cut-line bytes line before after cut plain fits (text, is, further) none =
      let whole = before.partial ++ line in
      let more = further cut.texts cut.of_texts in
      let counted : after.ledger.lines ≡ before.ledger.lines + 1 =
      omega (arith, more.lines, cut.of_texts.lines, length-append cut.texts (text ∷ [])) in record {
        ended = cut.ended ++ (whole ++ 10 ∷ []);
        texts = cut.texts ++ text ∷ [];
        is_cut = rw (none, counted) (lines.line line cut.is_cut plain fits);
        are_texts = lines.joined cut.ended (whole ++ 10 ∷ []) cut.texts (text ∷ []) cut.is_cut.begins cut.are_texts
            (inl (whole, [], refl, rw (list_all-append, cut.is_cut.is_one, plain) refl, is, refl));
        of_texts = more;
      }

  -- bytes of a line that goes on
  cut-kept : (bytes more : List ℕ) (before after : CutterParts) → IsCutTo Form Share named bytes before → HasNoFeed more
      → IsKept more before after → IsCutTo Form Share named (bytes ++ more) after
  cut-kept bytes more before after cut plain kept = record {
    ended = cut.ended;
    texts = cut.texts;
    is_cut = rw (kept.are_more, kept.is_ledger) (lines.more more cut.is_cut plain kept.are_few);
    are_texts = cut.are_texts;
    of_texts = rw kept.is_ledger cut.of_texts;
  }

  -- a line is too long
  cut-long : (bytes line rest : List ℕ) (cutter : CutterParts) → IsCutTo Form Share named bytes cutter → HasNoFeed line
      → 1048576 < length cutter.partial + length line → length line + length rest ≤ 65536
      → IsTooLong (bytes ++ (line ++ rest)) (cutter.ledger.lines + 1)
  cut-long bytes line rest cutter cut plain long small = (lines.long line rest cut.is_cut plain long small).0

  -- a line that is whole within a piece
  pub cut-straight : (line : List ℕ) (now : CutterParts) (ledger after : LedgerParts) (partial : List ℕ)
      → cutter_of ledger partial ≡ now → HasNoFeed line → length now.partial + length line ≤ 1048576
      → true ≡ (length partial == 0) → IsNextLine Form Share named line ledger after → (bytes : List ℕ) → IsCutTo Form Share named bytes now
      → IsCutTo Form Share named (bytes ++ (line ++ 10 ∷ [])) (cutter_of after partial)
  cut-straight line now ledger after partial is plain fits empty next bytes cut =
      let none = nil_from_length partial (eqb-true (length partial) 0 (sym empty)) in
      cut-line bytes line (cutter_of ledger partial) _ (rw (← is) at cut) plain (rw (← is) at fits) (rw none next) none

  -- a line some bytes of which were kept
  pub cut-joined : (line : List ℕ) (now : CutterParts) (ledger after : LedgerParts) (partial joined cleared : List ℕ)
      → cutter_of ledger partial ≡ now → HasNoFeed line → length now.partial + length line ≤ 1048576
      → joined ≡ partial ++ line → cleared ≡ [] → IsNextLine Form Share named joined ledger after → (bytes : List ℕ) → IsCutTo Form Share named bytes now
      → IsCutTo Form Share named (bytes ++ (line ++ 10 ∷ [])) (cutter_of after cleared)
  cut-joined line now ledger after partial joined cleared is plain fits whole none next bytes cut =
      cut-line bytes line (cutter_of ledger partial) _ (rw (← is) at cut) plain (rw (← is) at fits) (rw whole at next) none

  pub cut-over : (line : List ℕ) (now : CutterParts) (ledger : LedgerParts) (partial : List ℕ) (lines : ℕ)
      → cutter_of ledger partial ≡ now → HasNoFeed line → 1048576 < length now.partial + length line
      → lines ≡ ledger.lines → (bytes rest : List ℕ) → length line + length rest ≤ 65536 → IsCutTo Form Share named bytes now
      → IsTooLong (bytes ++ (line ++ rest)) (lines + 1)
  cut-over line now ledger partial lines is plain over counted bytes rest small cut =
      rw counted (rw (← is) at (cut-long bytes line rest now cut plain over small))

  -- cutting so many more bytes leads from the one state to the other
  abbrev Cuts : List ℕ → CutterParts → CutterParts → Type 0
  Cuts more old new = (bytes : List ℕ) → IsCutTo Form Share named bytes old → IsCutTo Form Share named (bytes ++ more) new

  -- a piece is cut up to the next line
  pub piece-step : (front line left rest piece : List ℕ) (old now next : CutterParts) → piece ≡ front ++ rest
      → IsSplit rest line left → Cuts front old now → Cuts (line ++ 10 ∷ []) now next
      → (done : List ℕ) × (piece ≡ done ++ left) × Cuts done old next
  piece-step front line left rest piece old now next is (split, plain) before step = (
    front ++ (line ++ 10 ∷ []),
    simp (is, split, append_assoc),
    λ bytes cut. rw append_assoc at (step (bytes ++ front) (before bytes cut)),
  )

  -- a line of a piece is too long
  pub piece-fault : (front line left rest piece : List ℕ) (old now : CutterParts) (fault : RunFault)
      → piece ≡ front ++ rest → IsSplit rest line left → Cuts front old now
      → ((bytes behind : List ℕ) → length line + length behind ≤ 65536 → IsCutTo Form Share named bytes now
      → IsCutFault (bytes ++ (line ++ behind)) fault)
      → length piece ≤ 65536 → (bytes : List ℕ) → IsCutTo Form Share named bytes old → IsCutFault (bytes ++ piece) fault
  piece-fault front line left rest piece old now fault is (split, plain) before step small bytes cut =
      let within : length line + length (10 ∷ left) ≤ 65536 = omega
      (arith, ap length is, length-append front rest, ap length split, length-append line (10 ∷ left)) in
      rw (is, split) (rw append_assoc at (step (bytes ++ front) (10 ∷ left) within (before bytes cut)))

  -- the rest of a piece is kept
  pub piece-kept : (front rest piece : List ℕ) (old now next : CutterParts) → piece ≡ front ++ rest
      → Cuts front old now → HasNoFeed rest → IsKept rest now next → Cuts piece old next
  piece-kept front rest piece old now next is before plain kept bytes cut =
      rw is (rw append_assoc at (cut-kept (bytes ++ front) rest now next (before bytes cut) plain kept))

  -- the rest of a piece isn't kept
  pub keep-fault : (more : List ℕ) (now : CutterParts) (fault : RunFault) → HasNoFeed more → length more ≤ 65536
      → IsNotKept more now fault → (bytes : List ℕ) → IsCutTo Form Share named bytes now → IsCutFault (bytes ++ more) fault
  keep-fault more now fault plain small (inl memory) bytes cut = rw memory tt
  keep-fault more now fault plain small (inr (is, over)) bytes cut =
      rw is (rw append-nil at (cut-long bytes more [] now cut plain over (omega arith)))

  pub piece-end-fault : (front rest piece : List ℕ) (old now : CutterParts) (fault : RunFault) → piece ≡ front ++ rest
      → Cuts front old now → ((bytes : List ℕ) → IsCutTo Form Share named bytes now → IsCutFault (bytes ++ rest) fault)
      → (bytes : List ℕ) → IsCutTo Form Share named bytes old → IsCutFault (bytes ++ piece) fault
  piece-end-fault front rest piece old now fault is before step bytes cut =
      rw is (rw append_assoc at (step (bytes ++ front) (before bytes cut)))

  -- at the end no line is open
  pub ended-ledger : (now : CutterParts) (ledger : LedgerParts) (partial : List ℕ) → cutter_of ledger partial ≡ now
      → true ≡ (length partial == 0) → (bytes : List ℕ) → IsCutTo Form Share named bytes now → IsLedgerFor Form Share named bytes ledger
  ended-ledger now ledger partial is empty bytes cut =
      let own : IsCutTo Form Share named bytes (cutter_of ledger partial) = rw is cut in
      let none = nil_from_length partial (eqb-true (length partial) 0 (sym empty)) in
      let bytes_are : bytes ≡ own.ended = simp (none, append-nil) at own.is_cut.are_bytes in
      record { texts = own.texts; are_texts = rw bytes_are own.are_texts; of_texts = own.of_texts }

  -- at the end the open line is the last
  pub last-ledger : (now : CutterParts) (ledger after : LedgerParts) (partial last : List ℕ)
      → cutter_of ledger partial ≡ now → false ≡ (length partial == 0) → last ≡ partial
      → ((texts : List (List ℕ)) → IsLedgerOf Form Share named texts ledger → IsLedgerOf Form Share named (texts ++ last ∷ []) after)
      → (bytes : List ℕ) → IsCutTo Form Share named bytes now → IsLedgerFor Form Share named bytes after
  last-ledger now ledger after partial last is some same further bytes cut =
      let own : IsCutTo Form Share named bytes (cutter_of ledger partial) = rw is cut in
      record {
        texts = own.texts ++ partial ∷ [];
        are_texts = rw own.is_cut.are_bytes (lines.joined own.ended partial own.texts (partial ∷ []) own.is_cut.begins own.are_texts
            (inr (λ none. false≢true (rw none at some), own.is_cut.is_one, refl, refl)));
        of_texts = rw same at (further own.texts own.of_texts);
      }
