use Rattle.crs_value.proofs.found.MemberLemmas.{are-all}
use Rattle.crs_value.proofs.values.list.List.as_set.Goals as goal

pub returns-in_default : goal.returns-in_default
returns-in_default g c =
    let all = are-all c.args.self.now in
    rw (c.as_slice.ensures) (all, all)
