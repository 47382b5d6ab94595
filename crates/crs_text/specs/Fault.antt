-- The refusal in a fault.
use Rattle.std.specs.Prelude.{Option, Some, None}
use Rattle.crs_text.specs.Refusal.{RefusedAt}
use Rattle.crs_text.specs.declared.fault.Fault.{Fault}
use Rattle.crs_text.specs.declared.fault.Fault.TheVariants as faults

-- the refusal that a fault is; none where it is out of memory
abbrev pub refusal_of : Fault → Option RefusedAt
refusal_of (faults.Refused refusal) = Some refusal
refusal_of (faults.Memory e) = None
