use Rattle.std.proofs.Common.{sym, ◌∙◌}
use Rattle.crs_group.proofs.KnownLemmas.{found-at}
use Rattle.crs_group.proofs.recent.Recent.group_at.Goals as goal

pub returns : goal.returns
returns c =
    rw (sym (c.deref.ensures.value ∙ c.self.view_is))
    (found-at c.deref.result.now c.args.place c.in_ok-line.line.now c.args.text.now c.group_of.result
    c.in_ok-line.ensures.lookup.3.0 c.in_ok-line.ensures.lookup.3.1 c.group_of.ensures)
