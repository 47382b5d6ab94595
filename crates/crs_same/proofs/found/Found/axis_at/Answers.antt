use Rattle.std.proofs.Common.{rules}
use Rattle.std.specs.Option.{option_copied}
use Rattle.crs_same.proofs.WalkedLemmas.{inside}
use Rattle.crs_same.proofs.found.Found.axis_at.Goals as goal

pub returns-in-None-None : goal.returns-in-None-None
returns-in-None-None c =
    inside (option_copied c.axis_at-x.result) (search rules) (inside (option_copied c.axis_at-y.result) (search rules)
    (rw (c.in-None-None.is-0, c.in-None-None.is-1) (search rules)))

pub returns-in-Some-Some : goal.returns-in-Some-Some
returns-in-Some-Some c =
    inside (option_copied c.axis_at-x.result) (search rules) (inside (option_copied c.axis_at-y.result) (search rules)
    (rw (c.in-Some-Some.is-0, c.in-Some-Some.is-1) (search rules)))

pub returns-in-None-Some : goal.returns-in-None-Some
returns-in-None-Some c =
    inside (option_copied c.axis_at-x.result) (search rules) (inside (option_copied c.axis_at-y.result) (search rules)
    (rw (c.in-None-Some.is-0, c.in-None-Some.is-1) (search rules)))

pub returns-in-Some-None : goal.returns-in-Some-None
returns-in-Some-None c =
    inside (option_copied c.axis_at-x.result) (search rules) (inside (option_copied c.axis_at-y.result) (search rules)
    (rw (c.in-Some-None.is-0, c.in-Some-None.is-1) (search rules)))
