use Rattle.crs_value.specs.inner.Arguments.{ahead}
use Rattle.crs_value.proofs.found.ArgumentLemmas.{has-some, holds_at}
use Rattle.crs_value.proofs.walk.RestLemmas.{climbing-first, climbing-on}
use Rattle.crs_value.proofs.judging.quick_checks.is_ascending.Goals as goal

pub loop-at-init : goal.loop-at-init
loop-at-init c = record { holds = c.requires; climbing = climbing-first c.args.parent (ahead c.args.items.now c.args.from) }

pub loop-at-preserved : goal.loop-at-preserved
loop-at-preserved c = record {
  holds = holds_at _ _ _ c.next-at.ensures;
  climbing = climbing-on c.args.items.now _ _ _ c.in-Some.id c.next-at.result _ c.in-Some-climbed.next c.rank_of.result c.in-Some.is
      (has-some _ _ _ c.in-Some.is c.loop-at.invariant.holds) c.next-at.ensures c.rank_of.ensures c.in-Some-climbed.ensures c.loop-at.invariant.climbing;
}
