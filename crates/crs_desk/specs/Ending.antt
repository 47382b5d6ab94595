-- How a run ends, over one text or without a source.
use Rattle.std.specs.Prelude.{◌≡◌, ◌≤◌, ◌<◌, ◌↔◌, ℕ, List, true, false, IfErr, IfOk, IsErrOf, Result}
use Rattle.std.specs.Io.KnownBytes.{Appends}
use Rattle.crs_streams.specs.Streams.{SourceState, SinkState}
use Rattle.crs_desk.specs.Whole.{IsWhole}
use Rattle.crs_streams.specs.declared.fault.RunFault.{RunFault}
use Rattle.crs_streams.specs.declared.fault.RunFault.TheVariants.{ReadFailed, WriteFailed, TooLong, TooManyReads, Memory}

-- the sink got what a command writes, and this is its status
pub record IsWritten (Output : List ℕ → ℕ → Type 0) (old new : SinkState)
    (status : ℕ) : Type 0 where
  pub written : List ℕ
  pub is_output : Output written status
  pub is_sent : Appends old.contents new.contents written
  pub is_used : new.used ≡ true
  pub is_healthy : new.failed ≡ false

-- a run over one text, with this status: the source gave a whole text, and the sink got what is written for it
pub record IsAnswered (Output : List ℕ → List ℕ → ℕ → Type 0) (old_source new_source : SourceState)
    (old_sink new_sink : SinkState) (status : ℕ) : Type 0 where
  pub text : List ℕ
  pub is_whole : IsWhole old_source new_source text
  pub is_written : IsWritten (Output text) old_sink new_sink status

-- what a fault of a run without a source says of its sink before and after
abbrev pub IsWriteFault : SinkState → SinkState → RunFault → Type 0
IsWriteFault old new ReadFailed = ⊥
IsWriteFault old new (TooLong line) = ⊥
IsWriteFault old new TooManyReads = ⊥
IsWriteFault old new WriteFailed = new.failed ≡ true
IsWriteFault old new Memory = new ≡ old

-- what a run's fault says of its source, and of its sink before and after: a fault of the reading
-- goes before all others, and then nothing was written
abbrev pub IsRunFault : SourceState → SinkState → SinkState → RunFault → Type 0
IsRunFault source old new ReadFailed = (source.failed ≡ true) × (source.taken ≤ 1048576) × (new ≡ old)
IsRunFault source old new (TooLong line) = (line ≡ 0) × (source.failed ≡ false) × (1048576 < source.taken) × (new ≡ old)
IsRunFault source old new TooManyReads =
    (source.failed ≡ false) × (source.taken ≤ 1048576) × (source.reads ≡ 1048576)
    × (source.ended ≡ false) × (new ≡ old)
IsRunFault source old new WriteFailed =
    (source.failed ≡ false) × (source.taken ≤ 1048576) × (source.ended ≡ true) × (new.failed ≡ true)
IsRunFault source old new Memory = (source.failed ≡ false) × (source.taken ≤ 1048576) × (new ≡ old)

-- how a run over one text ends: it is answered, or ends with a fault that says which side failed, or
-- that the text is too long; no read follows the end, and no write a failure
pub record IsRun (Output : List ℕ → List ℕ → ℕ → Type 0) (old_source new_source : SourceState)
    (old_sink new_sink : SinkState) (result : Result ℕ RunFault) : Type 0 where
  pub answered : IfOk result (IsAnswered Output old_source new_source old_sink new_sink)
  pub reads : new_source.reads ≤ 1048576
  pub past_end : new_source.past_end ≡ false
  pub fault : IfErr result (IsRunFault new_source old_sink new_sink)
  pub read_failed : IsErrOf result ReadFailed ↔ (new_source.failed ≡ true)
  pub write_failed : IsErrOf result WriteFailed ↔ (new_sink.failed ≡ true)
  pub past_failure : new_sink.past_failure ≡ false
  pub too_long : IsErrOf result (TooLong 0) ↔ (1048576 < new_source.taken) × (new_source.failed ≡ false)

-- how a run without a source ends
pub record IsSent (Output : List ℕ → ℕ → Type 0) (old new : SinkState)
    (result : Result ℕ RunFault) : Type 0 where
  pub answered : IfOk result (IsWritten Output old new)
  pub fault : IfErr result (IsWriteFault old new)
  pub write_failed : IsErrOf result WriteFailed ↔ (new.failed ≡ true)
  pub past_failure : new.past_failure ≡ false
