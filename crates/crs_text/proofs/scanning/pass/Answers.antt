use Rattle.std.proofs.Common.{arith, rules}
use Rattle.crs_text.proofs.tokens.ScanLemmas.{passed_next, taken_some, fault_of_stop}
use Rattle.crs_text.proofs.scanning.pass.Goals as goal

pub past_comma-end-requires : goal.past_comma-end-requires
past_comma-end-requires c =
    passed_next c.args.text.now c.args.at.now c.take_lexed.new.taken c.args.table.now c.take_lexed.new.table c.requires.reached c.in_ok-take_lexed.ensures

pub returns : goal.returns
returns c = (
  rw c.after_white.ensures c.past_comma-end.ensures.passed.0,
  omega (arith, taken_some c.args.text.now c.args.at.now c.take_lexed.new.taken c.args.table.now c.take_lexed.new.table c.in_ok-take_lexed.ensures, c.after_white.ensures, c.past_comma-end.ensures.further),
)

pub returns-in_err-take_lexed : goal.returns-in_err-take_lexed
returns-in_err-take_lexed c =
    let fault = fault_of_stop c.args.text.now c.args.at.now c.args.table.now c.in_err-take_lexed.field-0.0 c.requires.reached c.in_err-take_lexed.ensures in
    search (rules, fault)
