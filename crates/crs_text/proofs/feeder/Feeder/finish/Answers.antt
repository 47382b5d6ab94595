use Rattle.std.proofs.Common.{◌≡◌, Ok, rules}
use Rattle.crs_text.proofs.settled.FeedingLemmas.{known_fault, fed_none, reached_from_settled}
use Rattle.crs_text.proofs.feeder.Feeder.finish.Goals as goal

pub items_in-requires : goal.items_in-requires
items_in-requires c =
    let f = c.self.inside in
    let got : c.copied.result ≡ Ok c.in_ok-table.table = search rules in
    rw (rw got at c.copied.ensures) (rw c.deref.ensures.value (reached_from_settled f.bytes.items f.table f.held.at (fed_none f.bytes.items f.table f.held f.refusal c.self.invariant c.in_ok-refused.ensures).settled))

pub returns-in_err-refused-clause-answer : goal.returns-in_err-refused-clause-answer
returns-in_err-refused-clause-answer c =
    let f = c.self.inside in
    let fault = rw c.self.view_is at (known_fault f.bytes.items f.table f.held f.refusal c.in_err-refused.field-0.0 c.self.invariant c.in_err-refused.ensures) in
    search (rules, fault)
