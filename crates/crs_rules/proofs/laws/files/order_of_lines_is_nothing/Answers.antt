use Rattle.std.proofs.Common.{subst}
use Rattle.crs_rules.specs.Rewritten.{IsForm}
use Rattle.crs_rules.proofs.OneLemmas.{Sharp, over-one}
use Rattle.crs_rules.proofs.LineOrderLemmas.{order-of-lines}
use Rattle.crs_rules.specs.RulesFile.{ReadsFile, RefusesFile, start}
use Rattle.crs_rules.proofs.laws.files.order_of_lines_is_nothing.Goals as goal

pub returns-clause-rules : goal.returns-clause-rules
returns-clause-rules c = order-of-lines c.lines_are_one.ensures.one

pub returns-clause-forms : goal.returns-clause-forms
returns-clause-forms c = λ files others s t level text bytes reordered read theirs form.
    let sharp : Sharp ReadsFile RefusesFile = record { one = c.one_answer.ensures.read; fault = c.one_answer.ensures.refused; apart = c.one_answer.ensures.apart } in
    let found = order-of-lines c.lines_are_one.ensures.one files others s reordered read in
    subst (λ r. IsForm r.rules level text bytes) (over-one sharp start found.0 t others found.1 theirs)
    (c.order_of_rules_is_nothing.ensures s.rules found.0.rules found.2
    (c.read_rules_are_steady.ensures.files files s read) level text bytes form)
