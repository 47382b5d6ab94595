use Rattle.crs_value.specs.inner.Cursor.{item}
use Rattle.crs_value.proofs.found.ArgumentLemmas.{first-shaped}
use Rattle.crs_value.proofs.checked.CheckLemmas.{only-of}
use Rattle.crs_value.proofs.checks.only_of.Goals as goal

pub check-requires-clause-shaped : goal.check-requires-clause-shaped
check-requires-clause-shaped g c = first-shaped _ _ _ _ c.in-Some.found c.requires.shaped c.in-Some.ensures

pub returns-in-Some : goal.returns-in-Some
returns-in-Some g c =
    only-of c.slots_count.ensures.most (g.C.Check.Broken c.args.check.now c.args.node.now.items.now) _ (item c.args.node.now) _ _ c.in-Some.found _ c.requires.once c.requires.shaped c.in-Some.ensures
    c.check.ensures
