-- The answer for one file, of the run over it.
use Rattle.std.proofs.Common.{◌≡◌, ◌≢◌, ◌∙◌, ◌++◌, ◌⊎◌, ◌∷◌, [], ℕ, Bool, arith, List, Option, Some, None, false, ap, append-nil, append_assoc, inr, refl, subst, sym, IfSome, max}
use Rattle.std.proofs.KnownBytes.{Appends-trans}
use Rattle.std.proofs.Math.Nat.{max-zero}
use Rattle.std.specs.Io.KnownBytes.{Appends, Consumes}
use Rattle.crs_streams.specs.inner.Prelude.{EndsInFeed, SinkState, SourceState, fresh_sink, fresh_source}
use Rattle.crs_group.specs.GroupRun.{IsGroupedBy}
use Rattle.crs_group.specs.declared.summary.Summary.{Summary}
use Rattle.crs_streams.specs.declared.fault.RunFault.{RunFault}
use Rattle.crs_streams.specs.declared.fault.RunFault.TheVariants.{ReadFailed, WriteFailed, TooLong, TooManyReads, Memory}
use Rattle.crs_desk.specs.inner.FileAnswers.{Ends, IsAnswerSent, IsFileFault, IsFileSent, IsFrontSent, NoFront}
use Rattle.crs_desk.specs.FilesRun.{AreFileOutputs, AreFilesAnswered, IsFileFront, IsFileOutput, IsTaskFront, are_named, name_prefix}
use Rattle.crs_desk.specs.declared.runs.files.FileTask.{FileTask}
use Rattle.crs_desk.specs.inner.LineCutting.{IsHealthy}
use Rattle.crs_desk.specs.LinesRun.{HasBegun, HasSentAll, IsFrontOutput, IsLinesAnswered, IsLinesFault, IsLinesOutput, Outputs, PrefixParts}
use Rattle.crs_desk.specs.Whole.{IsReadFault}
use Rattle.crs_desk.proofs.LineOutputLemmas.{appends-none, front-none, whole-front}
use Rattle.crs_desk.proofs.PrefixedLemmas.{PrefixedOutputs, lines-plain}

-- ---- a task over the whole text

-- nothing of a file was answered
empty-front : (Front : List ℕ → List ℕ → Type 0) (prefix : PrefixParts) (known : Option (List ℕ)) → Front [] []
    → IsFileFront Front prefix known []
empty-front Front prefix None nothing = ([], [], tt, [], nothing, refl)
empty-front Front prefix (Some all) nothing = ([], all, refl, [], nothing, refl)

pub none-sent : (prefix : PrefixParts) (known : Option (List ℕ)) (sink : SinkState) → IsHealthy sink → IsFrontSent NoFront prefix known sink sink
none-sent prefix known sink healthy = ([], empty-front NoFront prefix known refl, appends-none sink.contents, healthy)

-- nothing was written before the fault
pub unread-file : (prefix : PrefixParts) (known : Option (List ℕ)) (sink : SinkState) (fault : RunFault)
    → IsHealthy sink → fault ≢ WriteFailed → IsFileFault NoFront prefix known sink sink fault
unread-file prefix known sink fault healthy other = grind (arith, none-sent prefix known sink healthy)

pub read-no-write : (source : SourceState) (fault : RunFault) → IsReadFault source fault → fault ≢ WriteFailed
read-no-write source fault is = grind arith

-- ---- a task over lines

pub lines-sent : {old new : SourceState} {before after : SinkState} {status : ℕ} (Output : Outputs) → Ends Output
    → (prefix : PrefixParts) (known : Option (List ℕ)) → old ≡ fresh_source known
    → IsLinesAnswered (PrefixedOutputs prefix Output) old new before after status → after.past_failure ≡ false
    → IsAnswerSent (IsLinesOutput Output) prefix known before after status
lines-sent {status = status} Output ends prefix known fresh answered first = (
  answered.written,
  (
    answered.bytes,
    subst (λ left. IfSome left (λ all. answered.bytes ≡ all)) (ap (λ (s : SourceState). s.remaining) fresh) answered.is_whole.is_all,
    lines-plain Output ends prefix answered.bytes answered.written status answered.is_output,
  ),
  answered.is_sent,
  (answered.is_healthy, first),
)

abbrev FrontOf : Outputs → List ℕ → List ℕ → Type 0
FrontOf Output = λ bytes written. IsFrontOutput Output bytes false written

-- what was given is the front of what is known
given-front : (known left : Option (List ℕ)) (bytes more : List ℕ) → Consumes known left (bytes ++ more)
    → (rest : List ℕ) × IfSome known (λ all. all ≡ bytes ++ rest)
given-front None left bytes more is = ([], tt)
given-front (Some all) None bytes more is = absurd is
given-front (Some all) (Some left) bytes more is = (more ++ left, is ∙ append_assoc bytes more left)

-- whole lines were answered
front-sent : (Output : Outputs) → Ends Output → (prefix : PrefixParts) (known left : Option (List ℕ)) (lines more : List ℕ)
    (before after : SinkState) → Consumes known left (lines ++ more) → (lines ≡ []) ⊎ EndsInFeed lines
    → HasSentAll (PrefixedOutputs prefix Output) lines before after → IsHealthy after
    → IsFrontSent (FrontOf Output) prefix known before after
front-sent Output ends prefix known left lines more before after given begins sent healthy =
    let front = given-front known left lines more given in
    let plain = lines-plain Output ends prefix lines sent.written sent.status sent.is_output in
    let whole = whole-front Output lines plain.0 sent.status false (grind (arith, begins)) plain.1 in
    (sent.written, (lines, front.0, front.1, plain.0, whole, plain.2), sent.is_sent, healthy)

begun-sent : (Output : Outputs) → Ends Output → (prefix : PrefixParts) (old new : SourceState) (before after : SinkState)
    → HasBegun (PrefixedOutputs prefix Output) old new before after → IsHealthy after
    → IsFrontSent (FrontOf Output) prefix old.remaining before after
begun-sent Output ends prefix old new before after (bytes, lines, given, short, (last, split, begins, plain), sent) healthy =
    front-sent Output ends prefix old.remaining new.remaining lines last before after
    (subst (Consumes old.remaining new.remaining) split given.is_first) begins sent healthy

lines-stopped : (Output : Outputs) → Ends Output → (prefix : PrefixParts) (old new : SourceState) (before after : SinkState) (fault : RunFault)
    → IsLinesFault (PrefixedOutputs prefix Output) old new before after fault → after.past_failure ≡ false
    → IsFileFault (FrontOf Output) prefix old.remaining before after fault
lines-stopped Output ends prefix old new before after ReadFailed (failed, healthy, begun) first =
    begun-sent Output ends prefix old new before after begun (healthy, first)
lines-stopped Output ends prefix old new before after WriteFailed (healthy, failed, more) first = (failed, first)
lines-stopped Output ends prefix old new before after (TooLong number) (healthy, sound, (bytes, given, (long, sent))) first =
    front-sent Output ends prefix old.remaining new.remaining long.front (long.long ++ long.rest) before after
    (subst (Consumes old.remaining new.remaining) long.are_bytes given.is_first) long.begins sent (sound, first)
lines-stopped Output ends prefix old new before after TooManyReads (healthy, sound, reads, unended, begun) first =
    begun-sent Output ends prefix old new before after begun (sound, first)
lines-stopped Output ends prefix old new before after Memory (healthy, sound, more) first = (sound, first)

pub lines-failed : (Output : Outputs) → Ends Output → (prefix : PrefixParts) (known : Option (List ℕ)) (old new : SourceState)
    (before after : SinkState) (fault : RunFault) → old ≡ fresh_source known
    → IsLinesFault (PrefixedOutputs prefix Output) old new before after fault → after.past_failure ≡ false
    → IsFileFault (FrontOf Output) prefix known before after fault
lines-failed Output ends prefix known old new before after fault fresh stopped first =
    subst (λ left. IsFileFault (FrontOf Output) prefix left before after fault) (ap (λ (s : SourceState). s.remaining) fresh)
    (lines-stopped Output ends prefix old new before after fault stopped first)

-- ---- files one after another

-- a file more was answered
pub file-more : (asked : FileTask) (prefix : List ℕ → PrefixParts) (known : List ℕ → Option (List ℕ)) (names rest left : List (List ℕ))
    (name one : List ℕ) (so-far own : ℕ) (before now after : SinkState) (written : List ℕ)
    → left ≡ name ∷ rest → IsFileOutput asked (prefix name) (known name) one own
    → Appends before.contents now.contents written → Appends now.contents after.contents one
    → ((more : List ℕ) (others : ℕ) → AreFileOutputs asked prefix known left more others
    → AreFileOutputs asked prefix known names (written ++ more) (max so-far others))
    → (all : List ℕ) × Appends before.contents after.contents all
    × ((more : List ℕ) (others : ℕ) → AreFileOutputs asked prefix known rest more others
    → AreFileOutputs asked prefix known names (all ++ more) (max (max so-far own) others))
file-more asked prefix known names rest left name one so-far own before now after written is output sent further goes = (
  written ++ one,
  Appends-trans _ _ _ _ _ sent further,
  λ more others outputs.
      let greatest : max so-far (max own others) ≡ max (max so-far own) others = omega arith in
      rw (append_assoc written one more, ← greatest)
      (goes (one ++ more) (max own others) (rw is (one, more, own, others, output, outputs, refl, refl))),
)

-- all files were answered
pub files-done : (asked : FileTask) (named : Bool) (known : List ℕ → Option (List ℕ)) (names left : List (List ℕ)) (status : ℕ)
    (before after : SinkState) (written : List ℕ) → left ≡ [] → Appends before.contents after.contents written → IsHealthy after
    → ((more : List ℕ) (others : ℕ) → AreFileOutputs asked (name_prefix asked (are_named named names)) known left more others
    → AreFileOutputs asked (name_prefix asked (are_named named names)) known names (written ++ more) (max status others))
    → AreFilesAnswered asked named known names before after status
files-done asked named known names left status before after written none sent healthy goes =
    (written, simp (append-nil, max-zero) at (goes [] 0 (rw none (refl, refl))), sent, healthy.0)

-- ---- one file

nothing-fronts : (asked : FileTask) → IsTaskFront asked [] []
nothing-fronts asked = grind (arith, front-none)

-- a file that can't be opened
pub unopened : (asked : FileTask) (prefix : PrefixParts) (known : Option (List ℕ)) (sink : SinkState) → IsHealthy sink
    → IsFileSent asked prefix known sink sink 2
unopened asked prefix known sink healthy =
    ([], inr (empty-front (IsTaskFront asked) prefix known (nothing-fronts asked), refl), appends-none sink.contents, healthy)

-- what was sent of a file that failed
pub failed-file : (asked : FileTask) (prefix : PrefixParts) (known : Option (List ℕ)) (before after : SinkState)
    → IsFrontSent (IsTaskFront asked) prefix known before after → IsFileSent asked prefix known before after 2
failed-file asked prefix known before after (written, front, sent, healthy) = (written, inr (front, refl), sent, healthy)

-- a file that failed, beside which the others go on
pub file-failed : (asked : FileTask) (prefix : PrefixParts) (left known : Option (List ℕ)) (before after : SinkState) (fault : RunFault)
    → left ≡ known → fault ≢ WriteFailed → fault ≢ Memory → IsFileFault (IsTaskFront asked) prefix left before after fault
    → IsFileSent asked prefix known before after 2
file-failed asked prefix left known before after fault same written remembered front =
    subst (λ k. IsFileSent asked prefix k before after 2) same (grind (arith, failed-file asked prefix left before after))

-- ---- groups

-- the sink's bytes are those of a catalogue
pub groups-held : (Output : List ℕ → List ℕ → Summary → Type 0) (known : Option (List ℕ)) (old new : SourceState) (before after : SinkState) (summary : Summary)
    (held : List ℕ) → old ≡ fresh_source known → before ≡ fresh_sink (Some []) → Some held ≡ after.contents
    → IsGroupedBy Output old new before after summary
    → (bytes : List ℕ) × IfSome known (λ all. bytes ≡ all) × Output bytes held summary
groups-held Output known old new before after summary held fresh none held-is grouped =
    let sent : Appends (Some []) (Some held) grouped.written =
    subst (λ c. Appends (Some []) c grouped.written) (sym held-is)
    (subst (λ c. Appends c after.contents grouped.written) (ap (λ (s : SinkState). s.contents) none) grouped.is_sent) in (
      grouped.bytes,
      subst (λ left. IfSome left (λ all. grouped.bytes ≡ all)) (ap (λ (s : SourceState). s.remaining) fresh) grouped.is_whole.is_all,
      subst (λ w. Output grouped.bytes w summary) (sym sent) grouped.is_output,
    )
