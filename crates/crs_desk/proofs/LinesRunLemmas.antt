-- What the source of a run over lines has given, and what the two halves of the run say of the
-- whole.
use Rattle.std.proofs.Common.{◌≡◌, ◌+◌, ◌<◌, ◌≤◌, ◌++◌, ◌*◌, ◌^◌, [], ℕ, Bool, List, Option, Some, None, true, false, ap, append-nil, length, length-append, subst, sym, refl, arith, Result, Ok, Err, IfErr, IfOk, IsErr, IsErrOf, ◌↔◌}
use Rattle.std.specs.Io.KnownBytes.{Consumes}
use Rattle.crs_streams.specs.inner.Prelude.{CountsRead, CutsLines, GivesMore, HasGiven, SinkState, SourceState, fresh_source}
use Rattle.crs_streams.specs.declared.fault.RunFault.{RunFault}
use Rattle.crs_streams.specs.declared.fault.RunFault.TheVariants.{ReadFailed, WriteFailed, TooLong, TooManyReads, Memory}
use Rattle.crs_desk.specs.LinesRun.{HasBegun, HasSent, IsLinesAnswered, IsLinesFault, Outputs}
use Rattle.crs_desk.specs.inner.LineCutting.{CutterParts, IsHealthy, IsLinesCut, IsReadThrough, IsStopped, IsWrittenOut}
use Rattle.crs_desk.proofs.LineCutLemmas.{cut-all, cut-none, cut-sent-all, cut-whole, cutter_of, sent-end, stopped-first}

consumes-none : (remaining : Option (List ℕ)) → Consumes remaining remaining []
consumes-none None = tt
consumes-none (Some left) = refl

-- nothing was read
pub given-none : (source : SourceState) → source ≡ fresh_source source.remaining → HasGiven source source []
given-none source fresh = record {
  is_counted = sym (ap (λ (s : SourceState). s.taken) fresh);
  is_first = consumes-none source.remaining;
}

pub none-begun : CutsLines → (Output : Outputs) (source : SourceState) (sink : SinkState) → source ≡ fresh_source source.remaining
    → IsHealthy sink → IsLinesFault Output source source sink sink Memory
none-begun lines Output source sink given healthy = (
  ap (λ (s : SourceState). s.failed) given,
  healthy.0,
  ([], given-none source given, cut-sent-all source.ended (cut-none lines {before = sink} (cutter_of (record { out = []; status = 0 }) [] 0) healthy refl)),
)

-- a piece that can't be cut, or the last line
stopped-by : {old new : SourceState} {bytes : List ℕ} (Output : Outputs) (before after : SinkState) (end : Bool) (fault : RunFault)
    → HasGiven old new bytes → new.failed ≡ false
    → ((unsent : List ℕ) → HasSent Output bytes end before after unsent → HasSent Output bytes new.ended before after unsent)
    → IsStopped Output end before bytes after fault → IsLinesFault Output old new before after fault
stopped-by Output before after end ReadFailed given healthy moves stopped = absurd stopped
stopped-by {bytes = bytes} Output before after end WriteFailed given healthy moves (failed, first, (unsent, sent)) =
    (healthy, failed, (bytes, unsent, given, moves unsent sent))
stopped-by {bytes = bytes} Output before after end (TooLong number) given healthy moves (sound, long) = (healthy, sound.0, (bytes, given, long))
stopped-by Output before after end TooManyReads given healthy moves stopped = absurd stopped
stopped-by {bytes = bytes} Output before after end Memory given healthy moves (sound, sent) = (healthy, sound.0, (bytes, given, moves [] sent))

pub stopped-fault : {old new : SourceState} {bytes : List ℕ} (Output : Outputs) (before after : SinkState) (fault : RunFault)
    → HasGiven old new bytes → new.failed ≡ false → IsStopped Output false before bytes after fault → IsLinesFault Output old new before after fault
stopped-fault {new = new} {bytes = bytes} Output before after fault given healthy =
    stopped-by Output before after false fault given healthy (λ unsent. sent-end Output before after bytes unsent new.ended)

module _ (lines : CutsLines) {Output : Outputs} {old : SourceState} {before : SinkState} where
  -- so far lines were cut, and what is written for them was sent
  cut-begun : {new : SourceState} {after : SinkState} {bytes : List ℕ} {cutter : CutterParts}
      → HasGiven old new bytes → IsLinesCut Output before bytes cutter after → cutter.writer.out ≡ []
      → HasBegun Output old new before after
  cut-begun {bytes = bytes} given cut none = (bytes, cut.ended, given, lines.short cut.is_cut, cut-whole cut, cut-all cut none)

  -- a read that fails
  pub failed-read : {E : Type 0} {now : SourceState} {after : SinkState} {bytes : List ℕ} {cutter : CutterParts} (new : SourceState)
      (answer : Result ℕ E) → HasGiven old now bytes → IsLinesCut Output before bytes cutter after
      → cutter.writer.out ≡ [] → IfErr answer (λ _. GivesMore now new []) → CountsRead now new answer → IsErr answer
      → IsLinesFault Output old new before after ReadFailed
  failed-read new (Ok count) given cut none kept counted bad = cc
  failed-read {bytes = bytes} new (Err error) given cut none kept counted bad =
      (counted.bytes.2, cut.is_put.is_healthy.0, cut-begun (rw append-nil at (kept old bytes given)) cut none)

  -- the reads have shown no end
  pub many-reads : {now : SourceState} {after : SinkState} {bytes : List ℕ} {cutter : CutterParts}
      → HasGiven old now bytes → IsLinesCut Output before bytes cutter after → cutter.writer.out ≡ [] → now.failed ≡ false
      → now.ended ≡ false → now.reads ≡ 2 ^ 47 → IsLinesFault Output old now before after TooManyReads
  many-reads given cut none healthy unended reads = (healthy, cut.is_put.is_healthy.0, reads, unended, cut-begun given cut none)

  -- lines are counted within 64 bits
  pub lines-fit : {new : SourceState} {after : SinkState} {bytes : List ℕ} {cutter : CutterParts} (more : List ℕ)
      → IsLinesCut Output before bytes cutter after → HasGiven old new (bytes ++ more) → new.taken ≤ 65536 * 2 ^ 47
      → cutter.lines + length more + 1 < 2 ^ 64
  lines-fit {bytes = bytes} more cut given few =
      omega (arith, lines.fits cut.is_cut, given.is_counted, length-append bytes more)

  -- ---- the end

  pub lines-answered : {new : SourceState} {now after : SinkState} {cutter : CutterParts} {status : ℕ} → IsReadThrough Output old new before cutter now
      → ((before : SinkState) (bytes : List ℕ) → IsLinesCut Output before bytes cutter now
      → IsWrittenOut Output before bytes after status)
      → IsLinesAnswered Output old new before after status
  lines-answered through finish =
      let written = finish before through.bytes through.is_cut in record {
        bytes = through.bytes;
        is_whole = through.is_whole;
        are_short = lines.short through.is_cut.is_cut;
        written = written.written;
        is_output = written.is_output;
        is_sent = written.is_sent;
        is_healthy = written.is_healthy.0;
      }

  pub lines-fault : {new : SourceState} {now : SinkState} {cutter : CutterParts} (after : SinkState) (fault : RunFault)
      → IsReadThrough Output old new before cutter now
      → ((before : SinkState) (bytes : List ℕ) → IsLinesCut Output before bytes cutter now
      → IsStopped Output true before bytes after fault)
      → IsLinesFault Output old new before after fault
  lines-fault after fault through finish =
      stopped-by Output before after true fault through.is_whole.is_given through.is_whole.is_healthy
      (λ unsent. subst (λ end. HasSent Output through.bytes end before after unsent) (sym through.is_whole.is_ended))
      (finish before through.bytes through.is_cut)

  pub end-first : {new : SourceState} {now : SinkState} {cutter : CutterParts} (after : SinkState) (answer : Result ℕ RunFault)
      → IsReadThrough Output old new before cutter now
      → IfOk answer (λ status. (before : SinkState) (bytes : List ℕ) → IsLinesCut Output before bytes cutter now
      → IsWrittenOut Output before bytes after status)
      → IfErr answer (λ fault. (before : SinkState) (bytes : List ℕ) → IsLinesCut Output before bytes cutter now
      → IsStopped Output true before bytes after fault)
      → after.past_failure ≡ false
  end-first after (Ok status) through written stopped = (written before through.bytes through.is_cut).is_healthy.1
  end-first after (Err fault) through written stopped =
      stopped-first Output true before after through.bytes fault (stopped before through.bytes through.is_cut)

-- a read has failed exactly where the run answers so, and a write
pub failures-told : (Output : Outputs) (old new : SourceState) (before after : SinkState) (answer : Result ℕ RunFault)
    → IfOk answer (IsLinesAnswered Output old new before after) → IfErr answer (IsLinesFault Output old new before after)
    → (IsErrOf answer ReadFailed ↔ (new.failed ≡ true)) × (IsErrOf answer WriteFailed ↔ (after.failed ≡ true))
failures-told Output old new before after (Ok status) answered fault = grind (arith, answered.is_whole.is_healthy, answered.is_healthy)
failures-told Output old new before after (Err ReadFailed) answered fault = grind (arith, fault.0, fault.1)
failures-told Output old new before after (Err WriteFailed) answered fault = grind (arith, fault.0, fault.1)
failures-told Output old new before after (Err (TooLong number)) answered fault = grind (arith, fault.0, fault.1)
failures-told Output old new before after (Err TooManyReads) answered fault = grind (arith, fault.0, fault.1)
failures-told Output old new before after (Err Memory) answered fault = grind (arith, fault.0, fault.1)
