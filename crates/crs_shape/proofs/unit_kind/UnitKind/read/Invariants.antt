use Rattle.std.proofs.Common.{◌≡◌, ℕ, ◌<◌, get_or}
use Rattle.std.specs.Str.{str_to_ascii_lowercase}
use Rattle.crs_shape.specs.Words.{unit_word}
use Rattle.crs_shape.specs.declared.unit_kind.UnitKind.{UnitKind}
use Rattle.crs_shape.proofs.unit_kind.UnitKind.read.Given as goal

abbrev pub invariant-loop-kind : goal.invariant-loop-kind
invariant-loop-kind l =
    (k : ℕ) (d : UnitKind) → k < l.kind-index → str_to_ascii_lowercase (unit_word (get_or l.kind-items k d)) ≡ str_to_ascii_lowercase l.word → ⊥
