use Rattle.std.proofs.Common.{sym, ap, ◌∙◌}
use Rattle.crs_text.specs.inner.Prelude.{first_of}
use Rattle.crs_shape.specs.inner.Prelude.{class_of_root}
use Rattle.crs_value.specs.inner.Arguments.{item_at}
use Rattle.crs_value.proofs.some.AnswerLemmas.{judged-spells}
use Rattle.crs_value.proofs.walk.RootLemmas.{root-misplaced, root-unbroken, root-broken}
use Rattle.crs_value.proofs.one.RootLemmas.{root-among}
use Rattle.crs_value.proofs.reading.value.judge.Goals as goal

pub returns-in_default-clause-answer : goal.returns-in_default-clause-answer
returns-in_default-clause-answer c = root-misplaced _ _ _ (ap first_of c.root-root.ensures.root) (sym c.in_default.ensures) c.misplaced.ensures

pub root_judged-requires-clause-of : goal.root_judged-requires-clause-of
root_judged-requires-clause-of c = c.keywords_name_classes.ensures.root c.in-Some.class _ (sym c.in-Some.ensures)

pub root_judged-requires-clause-root : goal.root_judged-requires-clause-root
root_judged-requires-clause-root c = root-among (item_at c.args.items.now c.root-root.result) c.in-Some.class (sym c.in-Some.ensures)

pub returns-in-None-clause-answer : goal.returns-in-None-clause-answer
returns-in-None-clause-answer c =
    let same = ap first_of c.root-root.ensures.root in
    let root = ap class_of_root (sym same) ∙ sym c.in-Some.ensures in
    let judged = root-unbroken c.walk_finds_the_fault.ensures.none c.no_fault_is_shape.ensures _ _ _ _ same root (rw c.in-None.is at c.root_judged.ensures) in
    judged-spells c.denotes_some.ensures c.slots_count.ensures.least c.no_fault_is_shape.ensures _ _ _ same root judged.0 c.formed.ensures judged.1

pub returns-in-Some-found-clause-answer : goal.returns-in-Some-found-clause-answer
returns-in-Some-found-clause-answer c =
    let same = ap first_of c.root-root.ensures.root in
    root-broken c.walk_finds_the_fault.ensures.none c.walk_finds_the_fault.ensures.some c.no_fault_is_shape.ensures _ _ _ _ _ same (ap class_of_root (sym same) ∙ sym c.in-Some.ensures)
    (rw c.in-Some-found.is at c.root_judged.ensures)
