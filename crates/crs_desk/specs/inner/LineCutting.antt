-- A bridge: bytes that are cut into lines piece by piece, and what is written for them.
use Rattle.std.specs.Prelude.{◌≡◌, ◌+◌, ◌<◌, ◌≤◌, ◌⊎◌, ◌++◌, [], ℕ, List, Bool, true, false, length, max}
use Rattle.std.specs.Io.KnownBytes.{Appends}
use Rattle.crs_streams.specs.inner.Cutting.{AreCut}
use Rattle.crs_streams.specs.Streams.{HasGivenAll, AppendsFront, SinkState, SourceState}
use Rattle.crs_streams.specs.Lines.{AreLines, IsTextOf, EndsInFeed}
use Rattle.crs_streams.specs.declared.fault.RunFault.{RunFault}
use Rattle.crs_streams.specs.declared.fault.RunFault.TheVariants.{ReadFailed, WriteFailed, TooLong, TooManyReads, Memory}
use Rattle.crs_desk.specs.LinesRun.{AreOutputs, HasSent, IsFrontOutput, IsLinesOutput, LongLineAfter, Outputs}

-- output that was not sent yet, and the greatest status so far
pub record WriterParts : Type 0 where
  pub out : List ℕ
  pub status : ℕ

-- the output, the bytes of the line that has not ended, and how many lines have ended
pub record CutterParts : Type 0 where
  pub writer : WriterParts
  pub partial : List ℕ
  pub lines : ℕ

-- one more line's output
abbrev pub IsPut : Outputs → List ℕ → WriterParts → WriterParts → Type 0
IsPut Output text old new =
    (line : List ℕ) × (status : ℕ) × Output text line status
    × (new.out ≡ old.out ++ line) × (new.status ≡ max old.status status)

-- the output of the line that ends with these bytes, of which no byte is kept then
abbrev pub PutsLine : Outputs → List ℕ → CutterParts → CutterParts → Type 0
PutsLine Output line old new =
    (text : List ℕ) × IsTextOf (old.partial ++ line) text × IsPut Output text old.writer new.writer
    × (new.partial ≡ []) × (new.lines ≡ old.lines)

-- more bytes of the line that has not ended
pub record IsKept (more : List ℕ) (old new : CutterParts) : Type 0 where
  pub is_put : new.writer ≡ old.writer
  pub is_counted : new.lines ≡ old.lines
  pub are_more : new.partial ≡ old.partial ++ more
  pub are_few : length old.partial + length more ≤ 1048576

-- the line is too long with them, or memory ran out
abbrev pub IsNotKept : List ℕ → CutterParts → RunFault → Type 0
IsNotKept more old fault =
    (fault ≡ Memory) ⊎ ((fault ≡ TooLong (old.lines + 1))
    × (1048576 < length old.partial + length more))

-- no failure was answered, and no write was made after one
abbrev pub IsHealthy : SinkState → Type 0
IsHealthy sink = (sink.failed ≡ false) × (sink.past_failure ≡ false)

-- the output was sent
pub record IsEmptied (old new : WriterParts) (before after : SinkState) : Type 0 where
  pub is_empty : new.out ≡ []
  pub is_kept : new.status ≡ old.status
  pub is_sent : Appends before.contents after.contents old.out
  pub is_healthy : IsHealthy before → IsHealthy after

-- output that fills a block of 65536 bytes was sent, other output is kept
abbrev pub IsFlushed : WriterParts → WriterParts → SinkState → SinkState → Type 0
IsFlushed old new before after =
    ((length old.out < 65536) × (new ≡ old) × (after ≡ before))
    ⊎ ((65536 ≤ length old.out) × IsEmptied old new before after)

-- a write of the output failed
pub record IsCut (old : WriterParts) (before after : SinkState) (fault : RunFault) : Type 0 where
  pub is_fault : fault ≡ WriteFailed
  pub is_front : AppendsFront before.contents after.contents old.out
  pub is_failed : after.failed ≡ true
  pub is_first : IsHealthy before → after.past_failure ≡ false

-- what is written for the lines of these bytes was sent or is kept; the last line has ended, or this is the end
pub record IsPutOut (Output : Outputs) (end : Bool) (before : SinkState) (bytes : List ℕ)
    (writer : WriterParts) (after : SinkState) : Type 0 where
  pub texts : List (List ℕ)
  pub are_texts : AreLines bytes texts
  pub are_whole : (bytes ≡ []) ⊎ EndsInFeed bytes ⊎ (end ≡ true)
  pub sent : List ℕ
  pub are_outputs : AreOutputs Output texts (sent ++ writer.out) writer.status
  pub is_front : IsFrontOutput Output bytes end sent
  pub is_sent : Appends before.contents after.contents sent
  pub is_healthy : IsHealthy after

-- so far these bytes were cut
pub record IsLinesCut (Output : Outputs) (before : SinkState) (bytes : List ℕ)
    (cutter : CutterParts) (after : SinkState) : Type 0 where
  pub ended : List ℕ
  pub is_cut : AreCut bytes ended cutter.partial cutter.lines
  pub is_put : IsPutOut Output false before ended cutter.writer after

-- all the bytes of the source are cut
pub record IsReadThrough (Output : Outputs) (old new : SourceState) (before : SinkState)
    (cutter : CutterParts) (after : SinkState) : Type 0 where
  pub bytes : List ℕ
  pub is_whole : HasGivenAll old new bytes
  pub is_cut : IsLinesCut Output before bytes cutter after

-- the sink got what is written for these bytes
pub record IsWrittenOut (Output : Outputs) (before : SinkState) (bytes : List ℕ)
    (after : SinkState) (status : ℕ) : Type 0 where
  pub written : List ℕ
  pub is_output : IsLinesOutput Output bytes written status
  pub is_sent : Appends before.contents after.contents written
  pub is_healthy : IsHealthy after

-- why bytes aren't cut, and what the sink got
abbrev pub IsStopped : Outputs → Bool → SinkState → List ℕ → SinkState → RunFault → Type 0
IsStopped Output end before bytes after ReadFailed = ⊥
IsStopped Output end before bytes after WriteFailed =
    (after.failed ≡ true) × (after.past_failure ≡ false)
    × ((unsent : List ℕ) × HasSent Output bytes end before after unsent)
IsStopped Output end before bytes after (TooLong number) =
    IsHealthy after × LongLineAfter Output bytes number before after
IsStopped Output end before bytes after TooManyReads = ⊥
IsStopped Output end before bytes after Memory = IsHealthy after × HasSent Output bytes end before after []
