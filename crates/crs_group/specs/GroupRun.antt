-- How a run over the lines of a source ends.
use Rattle.std.specs.Prelude.{◌≡◌, ◌≤◌, ◌↔◌, ℕ, true, false, IfErr, IfOk, IsErrOf, List, Result}
use Rattle.std.specs.Io.KnownBytes.{Appends}
use Rattle.crs_streams.specs.Streams.{GivesLongLine, GivesShortLines, HasGivenAll, IsAskedFor, SourceState, SinkState}
use Rattle.crs_streams.specs.Lines.{HasShortLines}
use Rattle.crs_streams.specs.declared.fault.RunFault.{RunFault}
use Rattle.crs_streams.specs.declared.fault.RunFault.TheVariants.{ReadFailed, WriteFailed, TooLong, TooManyReads, Memory}
use Rattle.crs_group.specs.declared.summary.Summary.{Summary}

-- the source gave all its bytes, and the sink got what is written for them
pub record IsGroupedBy (Output : List ℕ → List ℕ → Summary → Type 0)
    (old_source new_source : SourceState) (old_sink new_sink : SinkState)
    (summary : Summary) : Type 0 where
  pub bytes : List ℕ
  pub is_whole : HasGivenAll old_source new_source bytes
  pub are_short : HasShortLines bytes
  pub written : List ℕ
  pub is_output : Output bytes written summary
  pub is_sent : Appends old_sink.contents new_sink.contents written
  pub is_asked : IsAskedFor written old_sink new_sink
  pub is_healthy : new_sink.failed ≡ false

-- what a fault of the reading says
abbrev pub IsReadingFault : SourceState → SourceState → RunFault → Type 0
IsReadingFault old new ReadFailed = (new.failed ≡ true) × GivesShortLines old new
IsReadingFault old new WriteFailed = ⊥
IsReadingFault old new (TooLong number) = (new.failed ≡ false) × GivesLongLine old new number
IsReadingFault old new TooManyReads =
    (new.failed ≡ false) × (new.reads ≡ 1048576) × (new.ended ≡ false) × GivesShortLines old new
IsReadingFault old new Memory = new.failed ≡ false

-- what a run's fault says of its source and of its sink: nothing is written before all was read
abbrev pub IsGroupFault : SourceState → SourceState → SinkState → SinkState → RunFault → Type 0
IsGroupFault old new before after ReadFailed = IsReadingFault old new ReadFailed × (after ≡ before)
IsGroupFault old new before after WriteFailed =
    (new.failed ≡ false) × (new.ended ≡ true) × GivesShortLines old new × (after.failed ≡ true)
IsGroupFault old new before after (TooLong number) = IsReadingFault old new (TooLong number) × (after ≡ before)
IsGroupFault old new before after TooManyReads = IsReadingFault old new TooManyReads × (after ≡ before)
IsGroupFault old new before after Memory = IsReadingFault old new Memory × (after ≡ before)

-- how a run ends: what is written is sent, or a fault says which side failed or which bound a line
-- or the reads are over; no read follows the end, and no write a failure
pub record IsGroupRun (Output : List ℕ → List ℕ → Summary → Type 0)
    (old_source new_source : SourceState) (old_sink new_sink : SinkState)
    (result : Result Summary RunFault) : Type 0 where
  pub answered : IfOk result (IsGroupedBy Output old_source new_source old_sink new_sink)
  pub reads : new_source.reads ≤ 1048576
  pub past_end : new_source.past_end ≡ false
  pub fault : IfErr result (IsGroupFault old_source new_source old_sink new_sink)
  pub read_failed : IsErrOf result ReadFailed ↔ (new_source.failed ≡ true)
  pub write_failed : IsErrOf result WriteFailed ↔ (new_sink.failed ≡ true)
  pub past_failure : new_sink.past_failure ≡ false
