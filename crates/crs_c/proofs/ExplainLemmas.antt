-- The refusal in a fault is that of the text.
use Rattle.std.proofs.Common.{◌≡◌, ℕ, List, Some, subst}
use Rattle.crs_text.specs.inner.Prelude.{refusal_of, RefusedAt}
use Rattle.crs_text.specs.declared.fault.Fault.{Fault}
use Rattle.crs_text.specs.declared.fault.Fault.TheVariants as faults
use Rattle.crs_value.specs.inner.Prelude.{Refuses, IsFaultOfText}

pub refused_text : (text : List ℕ) (fault : Fault) (refusal : RefusedAt) → IsFaultOfText text fault → Some refusal ≡ refusal_of fault → Refuses text refusal
refused_text text (faults.Refused other) refusal h e = let same : other ≡ refusal = cc in subst (Refuses text) same h
refused_text text (faults.Memory error) refusal h e = cc
