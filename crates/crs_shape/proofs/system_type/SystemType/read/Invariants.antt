use Rattle.std.proofs.Common.{◌≡◌, ℕ, ◌<◌, get_or}
use Rattle.std.specs.Str.{str_to_ascii_lowercase}
use Rattle.crs_shape.specs.Words.{system_word}
use Rattle.crs_shape.specs.declared.system_type.SystemType.{SystemType}
use Rattle.crs_shape.proofs.system_type.SystemType.read.Given as goal

abbrev pub invariant-loop-system_type : goal.invariant-loop-system_type
invariant-loop-system_type l =
    (k : ℕ) (d : SystemType) → k < l.system_type-index → str_to_ascii_lowercase (system_word (get_or l.system_type-items k d)) ≡ str_to_ascii_lowercase l.word → ⊥
