-- The answer of `check`, put together from what was read and what was found.
use Rattle.std.proofs.Common.{ℕ, List, inl, inr, Result, Ok, Err, MatchResult}
use Rattle.crs_text.specs.inner.Prelude.{RefusedAt}
use Rattle.crs_value.specs.declared.values.crs.Kind.{Kind}
use Rattle.crs_value.specs.inner.Prelude.{SpellsKind, Refuses}
use Rattle.crs_streams.specs.inner.Prelude.{SourceState, SinkState}
use Rattle.crs_desk.specs.Ending.{IsWritten, IsAnswered}
use Rattle.crs_desk.specs.Output.{IsCheckOutput}
use Rattle.crs_desk.specs.declared.runs.manner.Manner.{Manner}
use Rattle.crs_desk.specs.declared.runs.manner.Manner.TheVariants.{Lines}
use Rattle.crs_desk.specs.inner.Found.{WritesFound}
use Rattle.crs_desk.specs.inner.Pieces.{IsHeldOf, IsWholeHeld}

pub found-written : (how : Manner) (text : List ℕ) (found : Result Kind RefusedAt) (written : List ℕ) (status : ℕ)
    → MatchResult found (SpellsKind text) (Refuses text) → WritesFound how found written status → IsCheckOutput how text written status
unfolding IsCheckOutput
found-written how text (Ok kind) written status is line = inl (kind, is, line)
found-written how text (Err refusal) written status is line = inr (refusal, is, line)

pub check-answered : (old new : SourceState) (old_sink new_sink : SinkState) (held : List ℕ) (found : Result Kind RefusedAt) (status : ℕ)
    → IsHeldOf old new held
    → ((text : List ℕ) → IsWholeHeld text held → MatchResult found (SpellsKind text) (Refuses text))
    → IsWritten (WritesFound Lines found) old_sink new_sink status
    → IsAnswered (IsCheckOutput Lines) old new old_sink new_sink status
check-answered old new old_sink new_sink held found status read is sent = record {
  text = read.text;
  is_whole = read.is_whole;
  is_written = record {
    written = sent.written;
    is_output = found-written Lines read.text found sent.written status (is read.text read.is_held) sent.is_output;
    is_sent = sent.is_sent;
    is_used = sent.is_used;
    is_healthy = sent.is_healthy;
  };
}
