-- A bridge: the answer for one file, or the fault with which it ends.
use Rattle.std.specs.Prelude.{◌≡◌, [], ℕ, List, Option, true, false}
use Rattle.std.specs.Io.KnownBytes.{Appends}
use Rattle.crs_streams.specs.Lines.{EndsInFeed}
use Rattle.crs_streams.specs.Streams.{SinkState}
use Rattle.crs_streams.specs.declared.fault.RunFault.{RunFault}
use Rattle.crs_streams.specs.declared.fault.RunFault.TheVariants.{ReadFailed, WriteFailed, TooLong, TooManyReads, Memory}
use Rattle.crs_desk.specs.FilesRun.{IsFileAnswer, IsFileFront, IsFileOutput}
use Rattle.crs_desk.specs.inner.LineCutting.{IsHealthy}
use Rattle.crs_desk.specs.LinesRun.{Outputs, PrefixParts}
use Rattle.crs_desk.specs.declared.runs.files.FileTask.{FileTask}

-- all that is written ends in a line feed
unfoldable pub Ends : Outputs → Type 0
Ends Output = (text line : List ℕ) (status : ℕ) → Output text line status → EndsInFeed line

-- nothing is written for a file that fails
abbrev pub NoFront : List ℕ → List ℕ → Type 0
NoFront bytes written = written ≡ []

-- the sink got the answer
abbrev pub IsAnswerSent : Outputs → PrefixParts → Option (List ℕ) → SinkState → SinkState → ℕ → Type 0
IsAnswerSent Output prefix known before after status =
    (written : List ℕ) × IsFileAnswer Output prefix known written status
    × Appends before.contents after.contents written × IsHealthy after

-- the sink got what is written for a file that fails
abbrev pub IsFrontSent : (List ℕ → List ℕ → Type 0) → PrefixParts → Option (List ℕ) → SinkState → SinkState → Type 0
IsFrontSent Front prefix known before after =
    (written : List ℕ) × IsFileFront Front prefix known written
    × Appends before.contents after.contents written × IsHealthy after

-- what the fault of a file says
abbrev pub IsFileFault : (List ℕ → List ℕ → Type 0) → PrefixParts → Option (List ℕ) → SinkState →
    SinkState → RunFault → Type 0
IsFileFault Front prefix known before after WriteFailed = (after.failed ≡ true) × (after.past_failure ≡ false)
IsFileFault Front prefix known before after Memory = IsHealthy after
IsFileFault Front prefix known before after ReadFailed = IsFrontSent Front prefix known before after
IsFileFault Front prefix known before after (TooLong line) = IsFrontSent Front prefix known before after
IsFileFault Front prefix known before after TooManyReads = IsFrontSent Front prefix known before after

-- the sink got the output of a file
abbrev pub IsFileSent : FileTask → PrefixParts → Option (List ℕ) → SinkState → SinkState → ℕ → Type 0
IsFileSent asked prefix known before after status =
    (written : List ℕ) × IsFileOutput asked prefix known written status
    × Appends before.contents after.contents written × IsHealthy after

-- why an answer isn't sent
abbrev pub IsSendFault : SinkState → RunFault → Type 0
IsSendFault after ReadFailed = ⊥
IsSendFault after WriteFailed = (after.failed ≡ true) × (after.past_failure ≡ false)
IsSendFault after (TooLong line) = ⊥
IsSendFault after TooManyReads = ⊥
IsSendFault after Memory = IsHealthy after
