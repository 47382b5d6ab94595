-- A bridge: faults of a line's text, and out of memory.
use Rattle.std.specs.Prelude.{◌≡◌, ℕ}
use Rattle.crs_text.specs.declared.fault.Fault.{Fault}
use Rattle.crs_text.specs.declared.fault.Fault.TheVariants as text_faults
use Rattle.crs_rules.specs.declared.file.fault.RulesFault.{RulesFault}
use Rattle.crs_rules.specs.declared.file.fault.RulesFault.TheVariants as faults

-- a fault is out of memory
abbrev pub IsMemory : RulesFault → Type 0
IsMemory (faults.Refused f) = ⊥
IsMemory (faults.Memory e) = Unit {0}

-- a fault is that of this line's text
abbrev pub IsFaultIn : ℕ → Fault → RulesFault → Type 0
IsFaultIn line (text_faults.Refused refusal) (faults.Refused f) =
    (f.line ≡ line) × (f.number ≡ refusal.number) × (f.place ≡ refusal.place)
IsFaultIn line (text_faults.Refused refusal) (faults.Memory e) = ⊥
IsFaultIn line (text_faults.Memory e) fault = IsMemory fault
