use Rattle.std.proofs.Common.{rules}
use Rattle.crs_desk.proofs.FileLemmas.{file-failed, unopened}
use Rattle.crs_desk.proofs.runs.files.answer_file.Goals as goal

pub returns-in_default-clause-answered : goal.returns-in_default-clause-answered
returns-in_default-clause-answered g c =
    unopened c.args.task c.args.prefix.now (g.I.Inputs.known c.args.files.now c.args.name.now) c.args.sink.now c.requires

pub returns-clause-answered : goal.returns-clause-answered
returns-clause-answered g c =
    file-failed c.args.task c.args.prefix.now (g.I.Input.Read.remaining c.in-Some.input)
    (g.I.Inputs.known c.args.files.now c.args.name.now) c.args.sink.now c.answer_input.new.sink c.in-Err.fault
    (search rules) (search rules) (search rules) c.in-Err.ensures.fault
