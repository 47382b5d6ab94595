-- What a run over lines writes, each perhaps after a prefix, and how it ends.
use Rattle.std.specs.Prelude.{◌≡◌, ◌==◌, ◌++◌, ◌∷◌, [], ℕ, List, Bool, true, if◌then◌else◌, ◌⊎◌, ◌^◌, false, IsTrue, IsFalse, max}
use Rattle.std.specs.List.{list_all}
use Rattle.std.specs.Io.KnownBytes.{Appends}
use Rattle.crs_text.specs.Tokens.{is_white}
use Rattle.crs_streams.specs.Streams.{HasGiven, HasGivenAll, SourceState, SinkState}
use Rattle.crs_streams.specs.Lines.{AreLines, HasNoFeed, EndsInFeed, HasShortLines, IsTooLong}
use Rattle.crs_streams.specs.declared.fault.RunFault.{RunFault}
use Rattle.crs_streams.specs.declared.fault.RunFault.TheVariants.{ReadFailed, WriteFailed, TooLong, TooManyReads, Memory}
use Rattle.crs_desk.specs.Output.{IsLine}

-- ---- lines after a prefix

-- what stands before each line: some bytes, which stand for the brace where lines are objects
pub record PrefixParts : Type 0 where
  pub bytes : List ℕ
  pub in_object : Bool

-- the first byte of a line, after the prefix
abbrev pub begun : PrefixParts → ℕ → List ℕ
begun prefix b = prefix.bytes ++ (if prefix.in_object then [] else b ∷ [])

-- these bytes, where a line begins or goes on, with a prefix before each line that begins
abbrev pub prefixed_from : Bool → PrefixParts → List ℕ → List ℕ
prefixed_from begins prefix [] = []
prefixed_from begins prefix (b ∷ bytes) =
    (if begins then begun prefix b else b ∷ []) ++ prefixed_from (b == 10) prefix bytes

-- each line of these bytes after a prefix
abbrev pub prefixed : PrefixParts → List ℕ → List ℕ
prefixed prefix bytes = prefixed_from true prefix bytes

-- what is written is what a command writes, each line of it after a prefix
abbrev pub IsPrefixed : PrefixParts → (List ℕ → ℕ → Type 0) → List ℕ → ℕ → Type 0
IsPrefixed prefix Output written status = (plain : List ℕ) × Output plain status × (written ≡ prefixed prefix plain)

-- ---- what a run over lines writes, and how it ends

-- what a command writes for a text, and its status
abbrev pub Outputs : Type 1
Outputs = List ℕ → List ℕ → ℕ → Type 0

-- for a line of white space alone a line of these bytes is written, for any other what the command writes for its text
abbrev pub IsLineOutput : List ℕ → Outputs → Outputs
IsLineOutput blank Output text written status =
    (IsTrue (list_all is_white text) × IsLine blank 0 written status)
    ⊎ (IsFalse (list_all is_white text) × Output text written status)

-- what is written for texts one after another, and the greatest of their statuses
abbrev pub AreOutputs : Outputs → List (List ℕ) → List ℕ → ℕ → Type 0
AreOutputs Output [] written status = (written ≡ []) × (status ≡ 0)
AreOutputs Output (text ∷ texts) written status =
    (line : List ℕ) × (rest : List ℕ) × (first : ℕ) × (others : ℕ)
    × Output text line first × AreOutputs Output texts rest others
    × (written ≡ line ++ rest) × (status ≡ max first others)

-- what is written for the lines of some bytes, of which each has its output
pub record IsLinesOutput (Output : Outputs) (bytes written : List ℕ) (status : ℕ) : Type 0 where
  pub texts : List (List ℕ)
  pub are_texts : AreLines bytes texts
  pub are_outputs : AreOutputs Output texts written status

-- this is written for some whole lines, the first of these bytes; a line without a line feed is
-- whole where the end was shown
pub record IsFrontOutput (Output : Outputs) (bytes : List ℕ) (ended : Bool)
    (written : List ℕ) : Type 0 where
  pub front : List ℕ
  pub rest : List ℕ
  pub are_bytes : bytes ≡ front ++ rest
  pub are_whole : (front ≡ []) ⊎ EndsInFeed front ⊎ ((rest ≡ []) × (ended ≡ true))
  pub status : ℕ
  pub is_output : IsLinesOutput Output front written status

-- the sink got that, but for a part that was not sent
abbrev pub HasSent : Outputs → List ℕ → Bool → SinkState → SinkState → List ℕ → Type 0
HasSent Output bytes ended before after unsent =
    (written : List ℕ) × IsFrontOutput Output bytes ended (written ++ unsent)
    × Appends before.contents after.contents written

-- the source gave all its bytes, none of its lines is too long, and the sink got what is written for them
pub record IsLinesAnswered (Output : Outputs) (old new : SourceState) (before after : SinkState)
    (status : ℕ) : Type 0 where
  pub bytes : List ℕ
  pub is_whole : HasGivenAll old new bytes
  pub are_short : HasShortLines bytes
  pub written : List ℕ
  pub is_output : IsLinesOutput Output bytes written status
  pub is_sent : Appends before.contents after.contents written
  pub is_healthy : after.failed ≡ false

-- all whole lines of some bytes: what follows the last line feed is left out
abbrev pub AreWholeLines : List ℕ → List ℕ → Type 0
AreWholeLines bytes lines =
    (last : List ℕ) × (bytes ≡ lines ++ last) × ((lines ≡ []) ⊎ EndsInFeed lines) × HasNoFeed last

-- the sink got what is written for these whole lines
pub record HasSentAll (Output : Outputs) (lines : List ℕ) (before after : SinkState) : Type 0 where
  pub written : List ℕ
  pub status : ℕ
  pub is_output : IsLinesOutput Output lines written status
  pub is_sent : Appends before.contents after.contents written

-- the line of this number is the first that is too long, and the sink got what is written for all lines before it
abbrev pub LongLineAfter : Outputs → List ℕ → ℕ → SinkState → SinkState → Type 0
LongLineAfter Output bytes number before after =
    (long : IsTooLong bytes number) × HasSentAll Output long.front before after

-- the source gave bytes of which no line is too long, and the sink got what is written for all their whole lines
abbrev pub HasBegun : Outputs → SourceState → SourceState → SinkState → SinkState → Type 0
HasBegun Output old new before after =
    (bytes : List ℕ) × (lines : List ℕ) × HasGiven old new bytes × HasShortLines bytes
    × AreWholeLines bytes lines × HasSentAll Output lines before after

-- what a run's fault says of its source and of its sink: where a read fails, reads show no end or a
-- line is too long, all whole lines before were answered; out of memory any number of them; where a
-- write failed, a front of such answers was taken
abbrev pub IsLinesFault : Outputs → SourceState → SourceState → SinkState → SinkState → RunFault → Type 0
IsLinesFault Output old new before after ReadFailed =
    (new.failed ≡ true) × (after.failed ≡ false) × HasBegun Output old new before after
IsLinesFault Output old new before after WriteFailed =
    (new.failed ≡ false) × (after.failed ≡ true) × ((bytes : List ℕ) × (unsent : List ℕ)
    × HasGiven old new bytes × HasSent Output bytes new.ended before after unsent)
IsLinesFault Output old new before after (TooLong number) =
    (new.failed ≡ false) × (after.failed ≡ false)
    × ((bytes : List ℕ) × HasGiven old new bytes × LongLineAfter Output bytes number before after)
IsLinesFault Output old new before after TooManyReads =
    (new.failed ≡ false) × (after.failed ≡ false) × (new.reads ≡ 2 ^ 47) × (new.ended ≡ false)
    × HasBegun Output old new before after
IsLinesFault Output old new before after Memory =
    (new.failed ≡ false) × (after.failed ≡ false)
    × ((bytes : List ℕ) × HasGiven old new bytes × HasSent Output bytes new.ended before after [])
