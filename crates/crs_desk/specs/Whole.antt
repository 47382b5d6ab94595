-- A text read to its end, or the fault that came first.
use Rattle.std.specs.Prelude.{◌≡◌, ◌≤◌, ◌<◌, ℕ, true, false, List, length, IfSome}
use Rattle.crs_streams.specs.Streams.{SourceState}
use Rattle.crs_streams.specs.declared.fault.RunFault.{RunFault}
use Rattle.crs_streams.specs.declared.fault.RunFault.TheVariants.{ReadFailed, WriteFailed, TooLong, TooManyReads, Memory}

-- the source showed its end, and gave these bytes, which are all that it had, where all are known
pub record IsWhole (old new : SourceState) (text : List ℕ) : Type 0 where
  pub is_ended : new.ended ≡ true
  pub is_healthy : new.failed ≡ false
  pub is_counted : length text ≡ new.taken
  pub is_short : new.taken ≤ 1048576
  pub is_all : IfSome old.remaining (λ all. text ≡ all)

-- what a fault of reading says of the source
abbrev pub IsReadFault : SourceState → RunFault → Type 0
IsReadFault source ReadFailed = (source.failed ≡ true) × (source.taken ≤ 1048576)
IsReadFault source WriteFailed = ⊥
IsReadFault source (TooLong line) = (source.failed ≡ false) × (line ≡ 0) × (1048576 < source.taken)
IsReadFault source TooManyReads =
    (source.failed ≡ false) × (source.reads ≡ 1048576) × (source.ended ≡ false)
    × (source.taken ≤ 1048576)
IsReadFault source Memory = (source.failed ≡ false) × (source.taken ≤ 1048576)
