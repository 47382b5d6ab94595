-- The ends of CRSs have one form exactly where they are the same.
use Rattle.std.proofs.Common.{arith}
use Rattle.crs_value.specs.inner.Prelude.{IsTail}
use Rattle.crs_value.specs.declared.values.level.Level.{Level}
use Rattle.crs_same.specs.inner.Prelude.{AgreeTail}
use Rattle.crs_normal.specs.inner.Decides.{FormDecides, SetsDecide}
use Rattle.crs_normal.specs.inner.SpelledItems.{norm_tail}
use Rattle.crs_normal.proofs.made.TailLemmas.{usages-sound}

module _ (sets : SetsDecide) where
  pub tail-agrees : (level : Level) → FormDecides IsTail (norm_tail level) (AgreeTail level)
  tail-agrees level a b in-a in-b = grind (arith, usages-sound, sets.usages level, sets.idents level)
