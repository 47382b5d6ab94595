use Rattle.crs_group.proofs.KnownLemmas.{changed-known}
use Rattle.crs_group.proofs.recent.Recent.keep_at.Goals as goal

pub returns : goal.returns
returns c level texts known has =
    changed-known level texts c.self.inside.lines.items c.args.place c.keep.new.self c.args.text.now c.args.group
    c.keep.ensures has (rw (← c.self.view_is) at known)
