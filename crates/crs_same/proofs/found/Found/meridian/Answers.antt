use Rattle.std.proofs.Common.{rules}
use Rattle.crs_same.specs.Parts.{parts_of_meridian}
use Rattle.crs_same.proofs.WalkedLemmas.{done, greenwiches}
use Rattle.crs_same.proofs.found.Found.meridian.Goals as goal

pub returns-then-is_done : goal.returns-then-is_done
returns-then-is_done c = done (search rules)

pub returns-in-None-None : goal.returns-in-None-None
unfolding parts_of_meridian
returns-in-None-None c = rw (c.in-None-None.is-0, c.in-None-None.is-1) (greenwiches c.args.at.path c.args.at.level)

pub returns-in-Some-Some : goal.returns-in-Some-Some
unfolding parts_of_meridian
returns-in-Some-Some c = rw (c.in-Some-Some.is-0, c.in-Some-Some.is-1) c.given.ensures

pub returns-in-None-Some : goal.returns-in-None-Some
unfolding parts_of_meridian
returns-in-None-Some c = rw (c.in-None-Some.is-0, c.in-None-Some.is-1) c.behind_greenwich.ensures

pub returns-in-Some-None : goal.returns-in-Some-None
unfolding parts_of_meridian
returns-in-Some-None c = rw (c.in-Some-None.is-0, c.in-Some-None.is-1) c.before_greenwich.ensures
