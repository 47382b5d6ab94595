-- Lines after a prefix, one after another.
use Rattle.std.proofs.Common.{◌≡◌, ◌∙◌, ◌++◌, ◌∷◌, [], ℕ, List, Bool, true, ap, ap₂, append-nil, append_assoc, inl, inr, refl, sym, ◌==◌, if◌then◌else◌}
use Rattle.crs_value.specs.declared.values.level.Level.{Level}
use Rattle.crs_desk.specs.inner.FileAnswers.{Ends}
use Rattle.crs_desk.specs.LinesRun.{AreOutputs, IsLineOutput, IsLinesOutput, Outputs, IsPrefixed, PrefixParts, begun, prefixed, prefixed_from}
use Rattle.crs_text.specs.inner.Prelude.{refused_text}
use Rattle.crs_desk.specs.DigestOutput.{IsDigestOutput, hex_digest}
use Rattle.crs_desk.specs.Output.{IsCanonOutput, IsCheckOutput, kind_told, refusal_told}
use Rattle.crs_desk.specs.declared.runs.digest.Spelled.{Spelled}
use Rattle.crs_desk.specs.declared.runs.manner.Manner.{Manner}
use Rattle.crs_desk.specs.RulesOutput.{IsFormOutput}
use Rattle.crs_rules.specs.Rules.{RulesParts}

-- after a line feed a line begins
prefixed-ended : (begins : Bool) (prefix : PrefixParts) (front rest : List ℕ)
    → prefixed_from begins prefix ((front ++ 10 ∷ []) ++ rest)
    ≡ prefixed_from begins prefix (front ++ 10 ∷ []) ++ prefixed_from true prefix rest
prefixed-ended begins prefix [] rest =
    let own : List ℕ = if begins then begun prefix 10 else 10 ∷ [] in
    sym (ap (λ l. l ++ prefixed_from true prefix rest) (append-nil own))
prefixed-ended begins prefix (b ∷ front) rest =
    let own : List ℕ = if begins then begun prefix b else b ∷ [] in
    let more : List ℕ = prefixed_from (b == 10) prefix (front ++ 10 ∷ []) in
    ap (λ l. own ++ l) (prefixed-ended (b == 10) prefix front rest)
    ∙ sym (append_assoc own more (prefixed_from true prefix rest))

pub canon-ends : (level : Level) → Ends (IsCanonOutput level)
unfolding Ends IsCanonOutput
canon-ends level text line status (inl (canonical, of-text, is)) = (canonical, is.line)
canon-ends level text line status (inr (refusal, of-text, is)) = (refused_text refusal.number refusal.place, is.line)

pub form-ends : (rules : RulesParts) (level : Level) → Ends (IsFormOutput rules level)
unfolding Ends IsFormOutput
form-ends rules level text line status (inl (form, of-text, is)) = (form, is.line)
form-ends rules level text line status (inr (refusal, of-text, is)) = (refused_text refusal.number refusal.place, is.line)

pub check-ends : (how : Manner) → Ends (IsCheckOutput how)
unfolding Ends IsCheckOutput
check-ends how text line status (inl (found, of-text, is)) = (kind_told how found, is.line)
check-ends how text line status (inr (refusal, of-text, is)) = (refusal_told how [] refusal, is.line)

pub digest-ends : (by : Spelled) → Ends (IsDigestOutput by)
unfolding Ends IsDigestOutput
digest-ends by text line status (inl (bytes, of-text, is)) = (hex_digest bytes, is.line)
digest-ends by text line status (inr (refusal, of-text, is)) = (refused_text refusal.number refusal.place, is.line)

pub line-ends : (blank : List ℕ) (Output : Outputs) → Ends Output → Ends (IsLineOutput blank Output)
unfolding Ends
line-ends blank Output ends text line status (inl (white, is)) = (blank, is.line)
line-ends blank Output ends text line status (inr (plain, is)) = ends text line status is

abbrev pub PrefixedOutputs : PrefixParts → Outputs → Outputs
PrefixedOutputs prefix Output = λ text written status. IsPrefixed prefix (Output text) written status

-- what is written for texts, without the prefix
outputs-plain : (Output : Outputs) → Ends Output → (prefix : PrefixParts) (texts : List (List ℕ)) (written : List ℕ) (status : ℕ)
    → AreOutputs (PrefixedOutputs prefix Output) texts written status
    → (plain : List ℕ) × AreOutputs Output texts plain status × (written ≡ prefixed prefix plain)
unfolding Ends
outputs-plain Output ends prefix [] written status (none, zero-is) = ([], (refl, zero-is), none)
outputs-plain Output ends prefix (text ∷ texts) written status (line, rest, first, others, (own, one, is), more, joined, greatest) =
    let below = outputs-plain Output ends prefix texts rest others more in
    let end = ends text own first one in (
      own ++ below.0,
      (own, below.0, first, others, one, below.1, refl, greatest),
      joined ∙ (ap₂ (λ a b. a ++ b) is below.2
          ∙ (ap (λ l. prefixed prefix l ++ prefixed prefix below.0) end.1
          ∙ (sym (prefixed-ended true prefix end.0 below.0) ∙ ap (λ l. prefixed prefix (l ++ below.0)) (sym end.1)))),
    )

pub lines-plain : (Output : Outputs) → Ends Output → (prefix : PrefixParts) (bytes written : List ℕ) (status : ℕ)
    → IsLinesOutput (PrefixedOutputs prefix Output) bytes written status → IsPrefixed prefix (IsLinesOutput Output bytes) written status
lines-plain Output ends prefix bytes written status lines =
    let plain = outputs-plain Output ends prefix lines.texts written status lines.are_outputs in (
      plain.0,
      record { texts = lines.texts; are_texts = lines.are_texts; are_outputs = plain.1 },
      plain.2,
    )
