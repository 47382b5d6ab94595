use Rattle.std.proofs.Common.{None, subst}
use Rattle.crs_text.specs.inner.Prelude.{Siblings}
use Rattle.crs_value.specs.Checks.{IsLeast, once, RepeatsAny}
use Rattle.crs_value.proofs.found.ArgumentLemmas.{ahead_at, holds_at}
use Rattle.crs_value.proofs.checks.own.repeated.Goals as goal

pub is_ascending-requires : goal.is_ascending-requires
is_ascending-requires c = holds_at _ _ _ c.arg.ensures

pub returns-then-is_ascending : goal.returns-then-is_ascending
returns-then-is_ascending c =
    subst (λ (items : Siblings). IsLeast (RepeatsAny c.args.node.now.class items once) None) (ahead_at _ _ _ c.arg.ensures) (c.is_ascending.ensures c.if-is_ascending.true)
