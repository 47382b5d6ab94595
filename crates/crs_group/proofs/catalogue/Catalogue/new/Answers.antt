use Rattle.std.proofs.Common.{[], refl}
use Rattle.crs_writer.specs.inner.Prelude.{IsCanonicalOf}
use Rattle.crs_rules.specs.Rewritten.{IsForm}
use Rattle.crs_group.specs.Catalogue.{CatalogueParts, canons}
use Rattle.crs_group.specs.GroupTexts.{ShareWhereSame}
use Rattle.crs_group.specs.UnderRules.{ShareWhereSameUnder}
use Rattle.crs_group.proofs.CatalogueLemmas.{by-parts, none-added}
use Rattle.crs_group.proofs.KnownLemmas.{none-known}
use Rattle.crs_group.proofs.catalogue.Catalogue.new.Goals as goal

pub returns-clause-catalogue : goal.returns-clause-catalogue
returns-clause-catalogue c =
    let made : CatalogueParts = record { level = c.args.level; groups = c.new.result; refused = c.new-2.result.items } in
    by-parts IsCanonicalOf ShareWhereSame [] c.args.level [] [] made refl c.new.ensures c.new-2.ensures.items
    (none-added IsCanonicalOf ShareWhereSame c.args.level)

pub returns-clause-lines : goal.returns-clause-lines
returns-clause-lines c = record { placed = []; are_lines = refl; whole = returns-clause-catalogue c }

pub returns-clause-under : goal.returns-clause-under
returns-clause-under c rules =
    let made : CatalogueParts = record { level = c.args.level; groups = c.new.result; refused = c.new-2.result.items } in
    by-parts (IsForm rules) (ShareWhereSameUnder rules) [] c.args.level [] [] made refl c.new.ensures c.new-2.ensures.items
    (none-added (IsForm rules) (ShareWhereSameUnder rules) c.args.level)

pub returns-clause-lines_under : goal.returns-clause-lines_under
returns-clause-lines_under c rules = record { placed = []; are_lines = refl; whole = returns-clause-under c rules }

pub invariant_of-result : goal.invariant_of-result
invariant_of-result c = none-known c.args.level (canons c.new.result) c.new-3.result c.new-3.ensures
