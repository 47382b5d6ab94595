use Rattle.std.proofs.Common.{◌∙◌, subst}
use Rattle.indexmap.specs.IndexMap.{set_value_at}
use Rattle.crs_group.specs.inner.Entries.{groups_of}
use Rattle.crs_group.specs.inner.Putting.{IsJoined}
use Rattle.crs_group.proofs.EntryLemmas.{joined, left, on-err}
use Rattle.crs_group.proofs.groups.Groups.join.Goals as goal

pub returns-in_err-push-clause-unchanged : goal.returns-in_err-push-clause-unchanged
returns-in_err-push-clause-unchanged c =
    on-err c.from_residual.result
    (left (λ lines. lines.items) c.self.inside.lines.entries c.args.at c.index_mut.result.now c.push.new.self
    c.index_mut.ensures.value c.in_err-push.ensures.items ∙ c.self.view_is)

pub returns-clause-groups : goal.returns-clause-groups
returns-clause-groups c =
    subst (λ groups. IsJoined c.args.at c.args.line groups
    (groups_of (λ lines. lines.items) (set_value_at c.self.inside.lines.entries c.args.at c.push.new.self)))
    c.self.view_is
    (joined (λ lines. lines.items) c.self.inside.lines.entries c.args.at c.args.line c.index_mut.result.now
    c.push.new.self c.index_mut.ensures.value c.in_ok-push.ensures.items)
