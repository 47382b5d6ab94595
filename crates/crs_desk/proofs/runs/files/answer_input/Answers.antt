use Rattle.std.proofs.Common.{◌≡◌, rules, subst, sym, IfErr, IfOk}
use Rattle.crs_desk.specs.inner.FileAnswers.{IsAnswerSent, IsFileFault}
use Rattle.crs_desk.specs.FilesRun.{IsTaskFront, IsTaskOutput}
use Rattle.crs_desk.specs.declared.runs.files.FileTask.{FileTask}
use Rattle.crs_desk.specs.declared.runs.files.FileTask.TheVariants as task
use Rattle.crs_desk.proofs.PrefixedLemmas.{canon-ends, check-ends, digest-ends, form-ends}
use Rattle.crs_desk.proofs.runs.files.answer_input.Goals as goal

pub answer_lines-requires-clause-ends : goal.answer_lines-requires-clause-ends
answer_lines-requires-clause-ends g c = canon-ends c.in-CanonLines.level

pub answer_lines-requires-in-CheckLines-clause-ends : goal.answer_lines-requires-in-CheckLines-clause-ends
answer_lines-requires-in-CheckLines-clause-ends g c = check-ends c.in-CheckLines.how

pub answer_lines-requires-in-DigestLines-clause-ends : goal.answer_lines-requires-in-DigestLines-clause-ends
answer_lines-requires-in-DigestLines-clause-ends g c = digest-ends c.in-DigestLines.by

pub answer_lines-requires-in-FormLines-clause-ends : goal.answer_lines-requires-in-FormLines-clause-ends
answer_lines-requires-in-FormLines-clause-ends g c = form-ends c.in-FormLines.rules.now c.in-FormLines.level

pub returns-in-FormGroup-clause-answered : goal.returns-in-FormGroup-clause-answered
returns-in-FormGroup-clause-answered g c =
    let asked : c.args.task ≡ task.FormGroup c.in-FormGroup.level c.in-FormGroup.listing c.in-FormGroup.rules = search rules in
    subst (λ (t : FileTask). IfOk c.answer_group-in-FormGroup.result
    (IsAnswerSent (IsTaskOutput t) c.args.prefix.now (g.R.Read.remaining c.args.reader) c.args.sink.now
    c.answer_group-in-FormGroup.new.sink)) (sym asked) c.answer_group-in-FormGroup.ensures.answered

pub returns-in-FormLines-clause-fault : goal.returns-in-FormLines-clause-fault
returns-in-FormLines-clause-fault g c =
    let asked : c.args.task ≡ task.FormLines c.in-FormLines.level c.in-FormLines.rules = search rules in
    subst (λ (t : FileTask). IfErr c.answer_lines-in-FormLines.result
    (IsFileFault (IsTaskFront t) c.args.prefix.now (g.R.Read.remaining c.args.reader) c.args.sink.now
    c.answer_lines-in-FormLines.new.sink)) (sym asked) c.answer_lines-in-FormLines.ensures.fault

pub returns-in-FormLines-clause-answered : goal.returns-in-FormLines-clause-answered
returns-in-FormLines-clause-answered g c =
    let asked : c.args.task ≡ task.FormLines c.in-FormLines.level c.in-FormLines.rules = search rules in
    subst (λ (t : FileTask). IfOk c.answer_lines-in-FormLines.result
    (IsAnswerSent (IsTaskOutput t) c.args.prefix.now (g.R.Read.remaining c.args.reader) c.args.sink.now
    c.answer_lines-in-FormLines.new.sink)) (sym asked) c.answer_lines-in-FormLines.ensures.answered

pub returns-in-CheckLines-clause-fault : goal.returns-in-CheckLines-clause-fault
returns-in-CheckLines-clause-fault g c =
    let asked : c.args.task ≡ task.CheckLines c.in-CheckLines.how = search rules in
    subst (λ (t : FileTask). IfErr c.answer_lines-in-CheckLines.result
    (IsFileFault (IsTaskFront t) c.args.prefix.now (g.R.Read.remaining c.args.reader) c.args.sink.now
    c.answer_lines-in-CheckLines.new.sink)) (sym asked) (rw c.blank_told.ensures at c.answer_lines-in-CheckLines.ensures.fault)
