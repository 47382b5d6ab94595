use Rattle.std.proofs.Common.{◌≡◌, rules}
use Rattle.std.proofs.lemmas.Result.{IfErr-weaker}
use Rattle.crs_desk.proofs.FileLemmas.{read-no-write, unread-file}
use Rattle.crs_desk.proofs.runs.files.answer_text.Goals as goal

pub returns-in_err-text-clause-fault : goal.returns-in_err-text-clause-fault
returns-in_err-text-clause-fault g c =
    IfErr-weaker c.from_residual.result (λ error. error ≡ c.in_err-text.field-0.0) _ (λ error is. rw is
    (unread-file c.args.prefix.now (g.R.Read.remaining c.args.reader) c.args.sink.now c.in_err-text.field-0.0 c.requires
    (read-no-write c.read_text.new.source c.in_err-text.field-0.0 c.in_err-text.ensures.err))) (search rules)
