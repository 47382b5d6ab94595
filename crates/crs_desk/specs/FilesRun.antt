-- What a run over files writes, and its status.
use Rattle.std.specs.Prelude.{◌≡◌, ◌⊎◌, ◌||◌, ◌==◌, ◌++◌, ◌∷◌, [], ℕ, Bool, List, Option, IfSome, codes, length, max, nat_lt, false, true, if◌then◌else◌}
use Rattle.std.specs.Io.KnownBytes.{Appends}
use Rattle.crs_streams.specs.Escaped.{escaped}
use Rattle.crs_streams.specs.Json.{json_text}
use Rattle.crs_group.specs.GroupOutput.{IsGroupOutput, IsGroupOutputUnder}
use Rattle.crs_group.specs.declared.summary.Summary.{Summary}
use Rattle.crs_streams.specs.Streams.{SinkState}
use Rattle.crs_streams.specs.declared.fault.RunFault.{RunFault}
use Rattle.crs_streams.specs.declared.fault.RunFault.TheVariants.{ReadFailed, WriteFailed, TooLong, TooManyReads, Memory}
use Rattle.crs_desk.specs.declared.runs.files.FileTask.{FileTask}
use Rattle.crs_desk.specs.declared.runs.files.FileTask.TheVariants as task
use Rattle.crs_desk.specs.declared.runs.manner.Manner.{Manner}
use Rattle.crs_desk.specs.declared.runs.manner.Manner.TheVariants as manner
use Rattle.crs_desk.specs.DigestOutput.{IsDigestOutput}
use Rattle.crs_desk.specs.ExplainOutput.{IsExplainOutput}
use Rattle.crs_desk.specs.LinesRun.{IsFrontOutput, IsLineOutput, IsLinesOutput, Outputs, IsPrefixed, PrefixParts, prefixed}
use Rattle.crs_desk.specs.Output.{IsCanonOutput, IsCheckOutput}
use Rattle.crs_desk.specs.RulesCheck.{IsRulesOutput}
use Rattle.crs_desk.specs.RulesOutput.{IsFormOutput}

-- what `group` writes for some bytes, by what its run writes; the status is 1 where a line was refused
abbrev pub IsGroupedOutput : (List ℕ → List ℕ → Summary → Type 0) → Outputs
IsGroupedOutput Output bytes written status =
    (summary : Summary) × Output bytes written summary
    × (status ≡ (if summary.refused == 0 then 0 else 1))

-- whether a command writes objects of JSON
abbrev pub are_objects : Manner → Bool
are_objects manner.Lines = false
are_objects manner.Objects = true

-- what `check` writes for a blank line: an empty line, or `{"blank":true}`
abbrev pub blank_told : Manner → List ℕ
blank_told manner.Lines = []
blank_told manner.Objects = codes "{\"blank\":true}"

-- what is written for all the bytes of a file, and the status
abbrev pub IsTaskOutput : FileTask → Outputs
IsTaskOutput (task.Canon level) = IsCanonOutput level
IsTaskOutput (task.Check how) = IsCheckOutput how
IsTaskOutput (task.Digest by) = IsDigestOutput by
IsTaskOutput (task.Explain how) = IsExplainOutput how
IsTaskOutput (task.Rules used) = IsRulesOutput used
IsTaskOutput (task.Group level listing) = IsGroupedOutput (IsGroupOutput listing level)
IsTaskOutput (task.CanonLines level) = IsLinesOutput (IsLineOutput [] (IsCanonOutput level))
IsTaskOutput (task.CheckLines how) = IsLinesOutput (IsLineOutput (blank_told how) (IsCheckOutput how))
IsTaskOutput (task.DigestLines by) = IsLinesOutput (IsLineOutput [] (IsDigestOutput by))
IsTaskOutput (task.Form level rules) = IsFormOutput rules.now level
IsTaskOutput (task.FormGroup level listing rules) = IsGroupedOutput (IsGroupOutputUnder rules.now listing level)
IsTaskOutput (task.FormLines level rules) = IsLinesOutput (IsLineOutput [] (IsFormOutput rules.now level))

-- what is written for the first bytes of a file of which no more can be read: the answers to whole
-- lines where each line is a text, and else nothing
abbrev pub IsTaskFront : FileTask → List ℕ → List ℕ → Type 0
IsTaskFront (task.CanonLines level) bytes written =
    IsFrontOutput (IsLineOutput [] (IsCanonOutput level)) bytes false written
IsTaskFront (task.CheckLines how) bytes written =
    IsFrontOutput (IsLineOutput (blank_told how) (IsCheckOutput how)) bytes false written
IsTaskFront (task.DigestLines by) bytes written =
    IsFrontOutput (IsLineOutput [] (IsDigestOutput by)) bytes false written
IsTaskFront (task.FormLines level rules) bytes written =
    IsFrontOutput (IsLineOutput [] (IsFormOutput rules.now level)) bytes false written
IsTaskFront other bytes written = written ≡ []

-- whether each line of a file's answer is an object of JSON
abbrev pub is_json : FileTask → Bool
is_json (task.Explain how) = are_objects how
is_json (task.Check how) = are_objects how
is_json (task.CheckLines how) = are_objects how
is_json (task.Group level listing) = listing.json
is_json (task.FormGroup level listing rules) = listing.json
is_json other = false

-- whether lines begin with names of files: where that is asked for, or there are several
abbrev pub are_named : Bool → List (List ℕ) → Bool
are_named named names = named || nat_lt 1 (length names)

-- what stands before each line of a file's answer: nothing, or its name, as the first member of an
-- object, or escaped as a line shows it, and a colon
abbrev pub name_prefix : FileTask → Bool → List ℕ → PrefixParts
name_prefix asked false name = record { bytes = []; in_object = false }
name_prefix asked true name =
    if is_json asked then record { bytes = codes "{\"file\":" ++ json_text name ++ codes ","; in_object = true }
    else record { bytes = escaped name ++ codes ":"; in_object = false }

-- the answer for all the bytes of a file, which are these where they are known
abbrev pub IsFileAnswer : Outputs → PrefixParts → Option (List ℕ) → List ℕ → ℕ → Type 0
IsFileAnswer Output prefix known written status =
    (bytes : List ℕ) × IfSome known (λ all. bytes ≡ all)
    × IsPrefixed prefix (Output bytes) written status

-- what was written for a file that can't be opened, or read to its end
abbrev pub IsFileFront : (List ℕ → List ℕ → Type 0) → PrefixParts → Option (List ℕ) → List ℕ → Type 0
IsFileFront Front prefix known written =
    (bytes : List ℕ) × (rest : List ℕ) × IfSome known (λ all. all ≡ bytes ++ rest)
    × (plain : List ℕ) × Front bytes plain × (written ≡ prefixed prefix plain)

-- a file is answered, or fails, with status 2
abbrev pub IsFileOutput : FileTask → PrefixParts → Option (List ℕ) → List ℕ → ℕ → Type 0
IsFileOutput asked prefix known written status =
    IsFileAnswer (IsTaskOutput asked) prefix known written status
    ⊎ (IsFileFront (IsTaskFront asked) prefix known written × (status ≡ 2))

-- what is written for files one after another, by the prefix of each name and the bytes of the file
-- where they are known; and the greatest status
abbrev pub AreFileOutputs : FileTask → (List ℕ → PrefixParts) → (List ℕ → Option (List ℕ)) →
    List (List ℕ) → List ℕ → ℕ → Type 0
AreFileOutputs asked prefix known [] written status = (written ≡ []) × (status ≡ 0)
AreFileOutputs asked prefix known (name ∷ names) written status =
    (one : List ℕ) × (rest : List ℕ) × (first : ℕ) × (others : ℕ)
    × IsFileOutput asked (prefix name) (known name) one first
    × AreFileOutputs asked prefix known names rest others
    × (written ≡ one ++ rest) × (status ≡ max first others)

-- the sink got that
abbrev pub AreFilesAnswered : FileTask → Bool → (List ℕ → Option (List ℕ)) → List (List ℕ) → SinkState → SinkState →
    ℕ → Type 0
AreFilesAnswered asked named known names before after status =
    (written : List ℕ) × AreFileOutputs asked (name_prefix asked (are_named named names)) known names written status
    × Appends before.contents after.contents written × (after.failed ≡ false)

-- a run over files ends before the last of them where a write failed or memory ran out
abbrev pub IsFilesFault : SinkState → RunFault → Type 0
IsFilesFault after ReadFailed = ⊥
IsFilesFault after (TooLong line) = ⊥
IsFilesFault after TooManyReads = ⊥
IsFilesFault after WriteFailed = after.failed ≡ true
IsFilesFault after Memory = after.failed ≡ false
