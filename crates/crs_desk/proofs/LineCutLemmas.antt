-- Bytes are cut into lines, one piece further, and what is written for the lines is sent or kept.
use Rattle.std.proofs.Common.{◌≡◌, ◌⊎◌, ◌+◌, ◌<◌, ◌≤◌, ◌++◌, ◌∷◌, [], ℕ, List, Bool, true, false, length, inl, inr, ap, subst, sym, refl, ◌∙◌, arith, append_assoc, append-nil, length-append, ◌==◌}
use Rattle.std.specs.Io.KnownBytes.{Appends}
use Rattle.std.proofs.KnownBytes.{Appends-trans}
use Rattle.std.proofs.lemmas.Bool.{eqb-true, false≢true}
use Rattle.std.proofs.lemmas.List.{nil_from_length}
use Rattle.std.proofs.lemmas.List.Folds.{list_all-append}
use Rattle.crs_streams.specs.inner.Prelude.{AreLines, CutsLines, HasNoFeed, IsSplit, IsTextOf, EndsInFeed, SinkState}
use Rattle.crs_streams.specs.declared.fault.RunFault.{RunFault}
use Rattle.crs_streams.specs.declared.fault.RunFault.TheVariants.{WriteFailed, TooLong, Memory}
use Rattle.crs_desk.specs.LinesRun.{AreOutputs, AreWholeLines, HasSent, HasSentAll, IsFrontOutput, Outputs}
use Rattle.crs_desk.specs.inner.LineCutting.{CutterParts, IsCut, IsEmptied, IsFlushed, IsHealthy, IsKept, IsLinesCut, IsNotKept, IsPut, IsPutOut, IsStopped, IsWrittenOut, PutsLine, WriterParts}
use Rattle.crs_desk.proofs.LineOutputLemmas.{appends-none, front-none, whole-front, outputs-append}

-- some whole lines of bytes are some of more bytes
front-more : {Output : Outputs} {bytes written : List ℕ} (more : List ℕ) (end : Bool) → IsFrontOutput Output bytes false written
    → IsFrontOutput Output (bytes ++ more) end written
front-more more end is = record {
  front = is.front;
  rest = is.rest ++ more;
  are_bytes = ap (λ l. l ++ more) is.are_bytes ∙ append_assoc is.front is.rest more;
  are_whole = grind (arith, is.are_whole);
  status = is.status;
  is_output = is.is_output;
}

front-end : {Output : Outputs} {bytes written : List ℕ} (end : Bool) → IsFrontOutput Output bytes false written
    → IsFrontOutput Output bytes end written
front-end {Output = Output} {bytes = bytes} {written = written} end is =
    subst (λ b. IsFrontOutput Output b end written) (append-nil bytes) (front-more [] end is)

outputs-more : (Output : Outputs) (texts : List (List ℕ)) (text sent : List ℕ) (old new : WriterParts)
    → AreOutputs Output texts (sent ++ old.out) old.status → IsPut Output text old new
    → AreOutputs Output (texts ++ text ∷ []) (sent ++ new.out) new.status
outputs-more Output texts text sent old new outputs (line, status, one, longer, greatest) =
    rw (longer, greatest, ← append_assoc sent old.out line)
    (outputs-append Output texts (text ∷ []) (sent ++ old.out) line old.status status outputs
    (line, [], status, 0, one, (refl, refl), sym (append-nil line), omega arith))

sent-more : (Output : Outputs) (before after : SinkState) (bytes more unsent : List ℕ) (end : Bool)
    → HasSent Output bytes false before after unsent → HasSent Output (bytes ++ more) end before after unsent
sent-more Output before after bytes more unsent end (written, is, sent) = (written, front-more more end is, sent)

stopped-more : (Output : Outputs) (before after : SinkState) (bytes more : List ℕ) (fault : RunFault) → fault ≡ WriteFailed
    → IsStopped Output false before bytes after fault → IsStopped Output false before (bytes ++ more) after fault
stopped-more Output before after bytes more fault is stopped =
    let (failed, first, (unsent, sent)) = subst (IsStopped Output false before bytes after) is stopped in
    rw is (failed, first, (unsent, sent-more Output before after bytes more unsent false sent))

abbrev pub cutter_of : WriterParts → List ℕ → ℕ → CutterParts
cutter_of writer partial lines = record { writer = writer; partial = partial; lines = lines }

module _ {Output : Outputs} {before : SinkState} where
  -- what was sent is a front of what is written
  pub put-sent : {end : Bool} {after : SinkState} {bytes : List ℕ} {writer : WriterParts}
      → IsPutOut Output end before bytes writer after → HasSent Output bytes end before after []
  put-sent {end = end} {bytes = bytes} put =
      (put.sent, subst (IsFrontOutput Output bytes end) (sym (append-nil put.sent)) put.is_front, put.is_sent)

  -- what is written for all of them is one too
  put-front : {end : Bool} {after : SinkState} {bytes : List ℕ} {writer : WriterParts}
      (put : IsPutOut Output end before bytes writer after) → IsFrontOutput Output bytes end (put.sent ++ writer.out)
  put-front {end = end} {bytes = bytes} {writer = writer} put =
      whole-front Output bytes (put.sent ++ writer.out) writer.status end put.are_whole
      (record { texts = put.texts; are_texts = put.are_texts; are_outputs = put.are_outputs })

  put-begins : {after : SinkState} {bytes : List ℕ} {writer : WriterParts}
      → IsPutOut Output false before bytes writer after → (bytes ≡ []) ⊎ EndsInFeed bytes
  put-begins put = grind (arith, put.are_whole)

  -- what was kept is sent
  put-emptied : {end : Bool} {now after : SinkState} {bytes : List ℕ} {old new : WriterParts}
      → IsPutOut Output end before bytes old now → IsEmptied old new now after → IsPutOut Output end before bytes new after
  put-emptied {old = old} {new = new} put sent =
      let all = put.sent ++ old.out in
      let same : all ≡ all ++ new.out = sym (append-nil all) ∙ ap (λ l. all ++ l) (sym sent.is_empty) in record {
        texts = put.texts;
        are_texts = put.are_texts;
        are_whole = put.are_whole;
        sent = all;
        are_outputs = subst (AreOutputs Output put.texts (all ++ new.out)) (sym sent.is_kept)
            (subst (λ l. AreOutputs Output put.texts l old.status) same put.are_outputs);
        is_front = put-front put;
        is_sent = Appends-trans _ _ _ _ _ put.is_sent sent.is_sent;
        is_healthy = sent.is_healthy put.is_healthy;
      }

  put-flushed : {end : Bool} {now : SinkState} {bytes : List ℕ} {old : WriterParts} (new : WriterParts) (after : SinkState)
      → IsPutOut Output end before bytes old now → IsFlushed old new now after → IsPutOut Output end before bytes new after
  put-flushed new after put (inl (few, same, kept)) = rw (same, kept) put
  put-flushed new after put (inr (block, sent)) = put-emptied put sent

  -- a write that failed took the first bytes of what was kept
  pub put-cut : {end : Bool} {now after : SinkState} {bytes : List ℕ} {writer : WriterParts} {fault : RunFault}
      → IsPutOut Output end before bytes writer now → IsCut writer now after fault → IsStopped Output end before bytes after fault
  put-cut {end = end} {after = after} {bytes = bytes} {writer = writer} put cut =
      let (front, rest, is, taken) = cut.is_front in
      let same : put.sent ++ writer.out ≡ (put.sent ++ front) ++ rest =
      ap (λ l. put.sent ++ l) is ∙ sym (append_assoc put.sent front rest) in
      subst (IsStopped Output end before bytes after) (sym cut.is_fault) (
        cut.is_failed,
        cut.is_first put.is_healthy,
        (
          rest,
          (
            put.sent ++ front,
            subst (IsFrontOutput Output bytes end) same (put-front put),
            Appends-trans _ _ _ _ _ put.is_sent taken,
          ),
        ),
      )

  -- what was kept is sent
  pub cut-emptied : {now after : SinkState} {bytes : List ℕ} {old : CutterParts} (new : CutterParts)
      → IsLinesCut Output before bytes old now → IsEmptied old.writer new.writer now after → new.partial ≡ old.partial
      → new.lines ≡ old.lines → IsLinesCut Output before bytes new after
  cut-emptied new cut emptied partial lines = record {
    ended = cut.ended;
    is_cut = rw (partial, lines) cut.is_cut;
    is_put = put-emptied cut.is_put emptied;
  }

  -- whole lines of the bytes that were cut were sent
  pub cut-sent : {after : SinkState} {bytes : List ℕ} {cutter : CutterParts} (more : List ℕ) (end : Bool)
      → IsLinesCut Output before bytes cutter after → HasSent Output (bytes ++ more) end before after []
  cut-sent {after = after} {cutter = cutter} more end cut =
      rw (cut.is_cut.are_bytes, append_assoc cut.ended cutter.partial more)
      (sent-more Output before after cut.ended (cutter.partial ++ more) [] end (put-sent cut.is_put))

  -- and all of what is written for the lines that have ended, where none of it is kept
  pub cut-all : {after : SinkState} {bytes : List ℕ} {cutter : CutterParts}
      (cut : IsLinesCut Output before bytes cutter after) → cutter.writer.out ≡ [] → HasSentAll Output cut.ended before after
  cut-all {cutter = cutter} cut none =
      let same : cut.is_put.sent ++ cutter.writer.out ≡ cut.is_put.sent =
      ap (λ l. cut.is_put.sent ++ l) none ∙ append-nil cut.is_put.sent in record {
        written = cut.is_put.sent;
        status = cutter.writer.status;
        is_output = record {
          texts = cut.is_put.texts;
          are_texts = cut.is_put.are_texts;
          are_outputs = subst (λ l. AreOutputs Output cut.is_put.texts l cutter.writer.status) same cut.is_put.are_outputs;
        };
        is_sent = cut.is_put.is_sent;
      }

  -- what is written for the lines before can't be sent
  pub cut-unsendable : {now after : SinkState} {bytes : List ℕ} {cutter : CutterParts} {fault : RunFault} (more : List ℕ)
      → IsLinesCut Output before bytes cutter now → IsCut cutter.writer now after fault
      → IsStopped Output false before (bytes ++ more) after fault
  cut-unsendable {after = after} {cutter = cutter} {fault = fault} more cut unsent =
      rw (cut.is_cut.are_bytes, append_assoc cut.ended cutter.partial more)
      (stopped-more Output before after cut.ended (cutter.partial ++ more) fault unsent.is_fault (put-cut cut.is_put unsent))

  -- the lines that have ended are all whole lines of the bytes that were cut
  pub cut-whole : {after : SinkState} {bytes : List ℕ} {cutter : CutterParts}
      (cut : IsLinesCut Output before bytes cutter after) → AreWholeLines bytes cut.ended
  cut-whole {cutter = cutter} cut = (cutter.partial, cut.is_cut.are_bytes, cut.is_cut.begins, cut.is_cut.is_one)

  pub cut-sent-all : {after : SinkState} {bytes : List ℕ} {cutter : CutterParts} (end : Bool)
      → IsLinesCut Output before bytes cutter after → HasSent Output bytes end before after []
  cut-sent-all {after = after} {bytes = bytes} end cut =
      subst (λ b. HasSent Output b end before after []) (append-nil bytes) (cut-sent [] end cut)

  -- all is sent
  pub end-sent : {now after : SinkState} {bytes : List ℕ} {old new : WriterParts}
      → IsPutOut Output true before bytes old now → IsEmptied old new now after
      → IsWrittenOut Output before bytes after new.status
  end-sent {after = after} {new = new} put sent =
      let all = put-emptied put sent in record {
        written = all.sent ++ new.out;
        is_output = record { texts = all.texts; are_texts = all.are_texts; are_outputs = all.are_outputs };
        is_sent = subst (Appends before.contents after.contents)
            (sym (ap (λ l. all.sent ++ l) sent.is_empty ∙ append-nil all.sent)) all.is_sent;
        is_healthy = all.is_healthy;
      }

  pub line-starved : {after : SinkState} {bytes : List ℕ} {cutter : CutterParts} {fault : RunFault} (more : List ℕ)
      → fault ≡ Memory → IsLinesCut Output before bytes cutter after → IsStopped Output false before (bytes ++ more) after fault
  line-starved more is cut = rw is (cut.is_put.is_healthy, cut-sent more false cut)

  pub end-starved : {after : SinkState} {bytes : List ℕ} {cutter : CutterParts} {fault : RunFault}
      → fault ≡ Memory → IsLinesCut Output before bytes cutter after → IsStopped Output true before bytes after fault
  end-starved is cut = rw is (cut.is_put.is_healthy, cut-sent-all true cut)

plain-append : (a b : List ℕ) → HasNoFeed a → HasNoFeed b → HasNoFeed (a ++ b)
plain-append a b p q = rw (list_all-append, p, q) refl

module _ (lines : CutsLines) {Output : Outputs} {before : SinkState} where
  -- one more line
  put-more : {after : SinkState} {bytes : List ℕ} {old : WriterParts} (end : Bool) (more text : List ℕ) (new : WriterParts)
      → IsPutOut Output false before bytes old after → AreLines more (text ∷ []) → EndsInFeed (bytes ++ more) ⊎ (end ≡ true)
      → IsPut Output text old new → IsPutOut Output end before (bytes ++ more) new after
  put-more {bytes = bytes} {old = old} end more text new put line ends is = record {
    texts = put.texts ++ text ∷ [];
    are_texts = lines.joined bytes more put.texts (text ∷ []) (put-begins put) put.are_texts line;
    are_whole = inr ends;
    sent = put.sent;
    are_outputs = outputs-more Output put.texts text put.sent old new put.are_outputs is;
    is_front = front-more more end put.is_front;
    is_sent = put.is_sent;
    is_healthy = put.is_healthy;
  }

  put-ended : {after : SinkState} {bytes : List ℕ} {old : WriterParts} (line text : List ℕ) (new : WriterParts)
      → IsPutOut Output false before bytes old after → HasNoFeed line → IsTextOf line text
      → IsPut Output text old new → IsPutOut Output false before (bytes ++ (line ++ 10 ∷ [])) new after
  put-ended {bytes = bytes} line text new put plain of-line is =
      put-more false (line ++ 10 ∷ []) text new put (inl (line, [], refl, plain, of-line, refl))
      (inl (bytes ++ line, sym (append_assoc bytes line (10 ∷ [])))) is

  -- no byte was cut
  pub cut-none : (cutter : CutterParts) → IsHealthy before
      → cutter ≡ record { writer = record { out = []; status = 0 }; partial = []; lines = 0 }
      → IsLinesCut Output before [] cutter before
  cut-none cutter healthy is = subst (λ (c : CutterParts). IsLinesCut Output before [] c before) (sym is) (record {
    ended = [];
    is_cut = lines.none;
    is_put = record {
      texts = [];
      are_texts = refl;
      are_whole = inl refl;
      sent = [];
      are_outputs = (refl, refl);
      is_front = front-none Output;
      is_sent = appends-none before.contents;
      is_healthy = healthy;
    };
  })

  -- a line ends
  pub cut-line : {now : SinkState} {bytes : List ℕ} {old : CutterParts} (line text : List ℕ) (new : CutterParts) (put : WriterParts) (after : SinkState)
      → IsLinesCut Output before bytes old now → HasNoFeed line
      → length old.partial + length line ≤ 1048576 → IsTextOf (old.partial ++ line) text
      → IsPut Output text old.writer put → IsFlushed put new.writer now after
      → new.partial ≡ [] → new.lines ≡ old.lines + 1
      → IsLinesCut Output before (bytes ++ (line ++ 10 ∷ [])) new after
  cut-line {old = old} line text new put after cut plain fits of-line is flushed none counted =
      let whole = old.partial ++ line in record {
        ended = cut.ended ++ (whole ++ 10 ∷ []);
        is_cut = rw (none, counted) (lines.line line cut.is_cut plain fits);
        is_put = put-flushed new.writer after
            (put-ended whole text put cut.is_put (plain-append old.partial line cut.is_cut.is_one plain) of-line is) flushed;
      }

  -- the line's output can't be sent
  pub cut-unsent : {now after : SinkState} {bytes : List ℕ} {old : CutterParts} {put : WriterParts} {fault : RunFault} (line rest text : List ℕ)
      → IsLinesCut Output before bytes old now → HasNoFeed line
      → IsTextOf (old.partial ++ line) text → IsPut Output text old.writer put → IsCut put now after fault
      → IsStopped Output false before (bytes ++ (line ++ 10 ∷ rest)) after fault
  cut-unsent {after = after} {bytes = bytes} {old = old} {put = put} {fault = fault} line rest text cut plain of-line is sent =
      let whole = old.partial ++ line in
      let ended = cut.ended ++ (whole ++ 10 ∷ []) in
      let same : ended ++ rest ≡ bytes ++ (line ++ 10 ∷ rest) = rw cut.is_cut.are_bytes (simp append_assoc) in
      subst (λ b. IsStopped Output false before b after fault) same
      (stopped-more Output before after ended rest fault sent.is_fault
      (put-cut (put-ended whole text put cut.is_put (plain-append old.partial line cut.is_cut.is_one plain) of-line is) sent))

  -- bytes of a line that goes on
  pub cut-kept : {after : SinkState} {bytes : List ℕ} {old : CutterParts} (more : List ℕ) (new : CutterParts)
      → IsLinesCut Output before bytes old after → HasNoFeed more → IsKept more old new
      → IsLinesCut Output before (bytes ++ more) new after
  cut-kept {after = after} {old = old} more new cut plain kept = record {
    ended = cut.ended;
    is_cut = rw (kept.are_more, kept.is_counted) (lines.more more cut.is_cut plain kept.are_few);
    is_put = subst (λ w. IsPutOut Output false before cut.ended w after) (sym kept.is_put) cut.is_put;
  }

  -- a line is too long
  pub cut-long : {after : SinkState} {bytes : List ℕ} {cutter : CutterParts} (line rest : List ℕ)
      → IsLinesCut Output before bytes cutter after → cutter.writer.out ≡ [] → HasNoFeed line
      → 1048576 < length cutter.partial + length line → length line + length rest ≤ 65536
      → IsStopped Output false before (bytes ++ (line ++ rest)) after (TooLong (cutter.lines + 1))
  cut-long {after = after} line rest cut none plain long small =
      let found = lines.long line rest cut.is_cut plain long small in
      (cut.is_put.is_healthy, (found.0, subst (λ front. HasSentAll Output front before after) (sym found.1) (cut-all cut none)))

  -- the open line is the last
  cut-last : {after : SinkState} {bytes : List ℕ} {cutter : CutterParts} (new : WriterParts)
      → IsLinesCut Output before bytes cutter after → ¬ (cutter.partial ≡ [])
      → IsPut Output cutter.partial cutter.writer new → IsPutOut Output true before bytes new after
  cut-last {after = after} {cutter = cutter} new cut some is =
      subst (λ b. IsPutOut Output true before b new after) (sym cut.is_cut.are_bytes)
      (put-more true cutter.partial cutter.partial new cut.is_put (inr (some, cut.is_cut.is_one, refl, refl)) (inr refl) is)

  pub last-put : {after : SinkState} {bytes : List ℕ} {now : CutterParts} {writer : WriterParts} {partial last : List ℕ} {count : ℕ} (new : WriterParts)
      → cutter_of writer partial count ≡ now → false ≡ (length partial == 0) → last ≡ partial → IsPut Output last writer new
      → IsLinesCut Output before bytes now after → IsPutOut Output true before bytes new after
  last-put {after = after} {bytes = bytes} {writer = writer} {partial = partial} new is some same put cut =
      cut-last new (subst (λ (k : CutterParts). IsLinesCut Output before bytes k after) (sym is) cut) (λ none. false≢true (rw none at some))
      (subst (λ t. IsPut Output t writer new) same put)

  pub over-end : {now after : SinkState} {bytes partial : List ℕ} {writer new : WriterParts} {count : ℕ} (line rest : List ℕ)
      → HasNoFeed line → 1048576 < length partial + length line → IsEmptied writer new now after
      → length line + length rest ≤ 65536 → IsLinesCut Output before bytes (cutter_of writer partial count) now
      → IsStopped Output false before (bytes ++ (line ++ rest)) after (TooLong (count + 1))
  over-end {partial = partial} {new = new} {count = count} line rest plain over emptied small cut =
      cut-long line rest (cut-emptied (cutter_of new partial count) cut emptied refl refl) emptied.is_empty plain over small

  pub line-ended : {now next : CutterParts} {sink after : SinkState} {bytes partial : List ℕ} {writer new : WriterParts} {count : ℕ} (line : List ℕ)
      → PutsLine Output line now next → cutter_of writer partial count ≡ next → HasNoFeed line
      → length now.partial + length line ≤ 1048576 → IsFlushed writer new sink after → IsLinesCut Output before bytes now sink
      → IsLinesCut Output before (bytes ++ (line ++ 10 ∷ [])) (cutter_of new partial (count + 1)) after
  line-ended {now = now} {after = after} {partial = partial} {writer = writer} {new = new} {count = count}
      line (text, of-line, put, none, counted) is plain fits flushed cut =
      cut-line line text (cutter_of new partial (count + 1)) writer after cut plain fits of-line
      (subst (IsPut Output text now.writer) (sym (ap (λ (k : CutterParts). k.writer) is)) put) flushed
      (ap (λ (k : CutterParts). k.partial) is ∙ none)
      (ap (λ n. n + 1) (ap (λ (k : CutterParts). k.lines) is ∙ counted))

  pub line-unsent : {now next : CutterParts} {sink after : SinkState} {bytes partial : List ℕ} {writer : WriterParts} {count : ℕ} {fault : RunFault}
      (line rest : List ℕ) → PutsLine Output line now next → cutter_of writer partial count ≡ next
      → HasNoFeed line → IsCut writer sink after fault → IsLinesCut Output before bytes now sink
      → IsStopped Output false before (bytes ++ (line ++ 10 ∷ rest)) after fault
  line-unsent {now = now} line rest (text, of-line, put, none, counted) is plain unsent cut =
      cut-unsent line rest text cut plain of-line
      (subst (IsPut Output text now.writer) (sym (ap (λ (k : CutterParts). k.writer) is)) put) unsent

  pub keep-stopped : {after : SinkState} {bytes : List ℕ} {cutter : CutterParts} (more : List ℕ) (fault : RunFault)
      → cutter.writer.out ≡ [] → HasNoFeed more → length more ≤ 65536 → IsNotKept more cutter fault
      → IsLinesCut Output before bytes cutter after → IsStopped Output false before (bytes ++ more) after fault
  keep-stopped more fault none plain small (inl memory) cut = line-starved more memory cut
  keep-stopped {after = after} {bytes = bytes} {cutter = cutter} more fault none plain small (inr (is, over)) cut =
      rw is (subst (λ l. IsStopped Output false before (bytes ++ l) after (TooLong (cutter.lines + 1))) (append-nil more)
      (cut-long more [] cut none plain over (omega (arith, small))))

pub puts-straight : (Output : Outputs) (line text partial : List ℕ) (now : CutterParts) (writer new : WriterParts) (lines : ℕ)
    → cutter_of writer partial lines ≡ now → true ≡ (length partial == 0) → IsTextOf line text → IsPut Output text writer new
    → PutsLine Output line now (cutter_of new partial lines)
puts-straight Output line text partial now writer new lines is empty of-line put =
    let none = nil_from_length partial (eqb-true (length partial) 0 (sym empty)) in
    subst (λ (k : CutterParts). PutsLine Output line k (cutter_of new partial lines)) is
    (text, subst (λ p. IsTextOf (p ++ line) text) (sym none) of-line, put, none, refl)

-- ---- the lines of a piece

pub split-small : (front line left rest piece : List ℕ) → piece ≡ front ++ rest → IsSplit rest line left
    → length piece ≤ 65536 → length line + length (10 ∷ left) ≤ 65536
split-small front line left rest piece is (split, plain) small =
    omega (arith, ap length is, length-append front rest, ap length split, length-append line (10 ∷ left))

pub piece-step : {Output : Outputs} {old now next : CutterParts} {first sink after : SinkState} (front line left rest piece : List ℕ)
    → piece ≡ front ++ rest → IsSplit rest line left
    → ((before : SinkState) (bytes : List ℕ) → IsLinesCut Output before bytes old first
    → IsLinesCut Output before (bytes ++ front) now sink)
    → ((before : SinkState) (bytes : List ℕ) → IsLinesCut Output before bytes now sink
    → IsLinesCut Output before (bytes ++ (line ++ 10 ∷ [])) next after)
    → (done : List ℕ) × (piece ≡ done ++ left)
    × ((before : SinkState) (bytes : List ℕ) → IsLinesCut Output before bytes old first
    → IsLinesCut Output before (bytes ++ done) next after)
piece-step front line left rest piece is (split, plain) so-far step = (
  front ++ (line ++ 10 ∷ []),
  rw (is, split) (simp append_assoc),
  λ before bytes cut. rw (← append_assoc bytes front (line ++ 10 ∷ [])) (step before (bytes ++ front) (so-far before bytes cut)),
)

-- ---- what a run's fault says

pub sent-end : (Output : Outputs) (before after : SinkState) (bytes unsent : List ℕ) (end : Bool)
    → HasSent Output bytes false before after unsent → HasSent Output bytes end before after unsent
sent-end Output before after bytes unsent end (written, is, sent) = (written, front-end end is, sent)

pub stopped-first : (Output : Outputs) (end : Bool) (before after : SinkState) (bytes : List ℕ) (fault : RunFault)
    → IsStopped Output end before bytes after fault → after.past_failure ≡ false
stopped-first Output end before after bytes fault stopped = grind arith
