use Rattle.std.proofs.Common.{◌≡◌, rules, Ok}
use Rattle.std.proofs.lemmas.Result.{IfOk-weaker}
use Rattle.crs_desk.proofs.CheckLemmas.{check-answered}
use Rattle.crs_desk.proofs.runs.text.run_check.Goals as goal

pub returns : goal.returns
returns g c =
    let got : c.judged.result ≡ Ok c.in_ok-found.found = search rules in
    let found = rw got at c.judged.ensures in
    let answered = IfOk-weaker c.write_answer.result _ _
    (λ status. check-answered c.args.r.now c.read_pieces.new.source c.args.w.now c.write_answer.new.w c.in_ok-feeder.feeder c.in_ok-found.found status
    c.in_ok-feeder.ensures.ok found)
    c.write_answer.ensures.answered in
    record {
      answered = answered;
      reads = search rules;
      past_end = search rules;
      fault = search rules;
      read_failed = search rules;
      write_failed = search rules;
      past_failure = search rules;
      too_long = search rules;
    }
