use Rattle.std.proofs.Common.{◌≡◌, Err, Ok, inl, rules}
use Rattle.std.proofs.lemmas.Result.{IfOk-weaker, MatchResult-at_err, MatchResult-at_ok}
use Rattle.crs_desk.specs.RulesOutput.{IsPairOf}
use Rattle.crs_desk.proofs.FormsLemmas.{pair-written}
use Rattle.crs_desk.proofs.runs.under.ExplainedFormsAnswer.output.Goals as goal

pub explained-requires-clause-a : goal.explained-requires-clause-a
explained-requires-clause-a c =
    let found : c.in_ok-a.field-0 ≡ Ok (c.in-Ok.a, c.in-Ok.b) = search rules in
    let both = MatchResult-at_ok _ _ (c.in-Ok.a, c.in-Ok.b) found c.in_ok-a.ensures in
    rw c.bytes.ensures ((c.main_theorem.ensures c.args.self.now.under.level).accepted _ _ both.0)

pub explained-requires-clause-b : goal.explained-requires-clause-b
explained-requires-clause-b c =
    let found : c.in_ok-a.field-0 ≡ Ok (c.in-Ok.a, c.in-Ok.b) = search rules in
    let both = MatchResult-at_ok _ _ (c.in-Ok.a, c.in-Ok.b) found c.in_ok-a.ensures in
    rw c.bytes-in-Ok.ensures ((c.main_theorem.ensures c.args.self.now.under.level).accepted _ _ both.1)

pub returns-in-Ok : goal.returns-in-Ok
returns-in-Ok c =
    let found : c.in_ok-a.field-0 ≡ Ok (c.in-Ok.a, c.in-Ok.b) = search rules in
    IfOk-weaker c.explained.result _ _
    (λ output. pair-written _ _ _ _ _ c.in-Ok.a c.in-Ok.b _ _ _ _ (MatchResult-at_ok _ _ (c.in-Ok.a, c.in-Ok.b) found c.in_ok-a.ensures)
    c.bytes.ensures c.bytes-in-Ok.ensures)
    c.explained.ensures

pub returns-in-Err : goal.returns-in-Err
unfolding IsPairOf
returns-in-Err c =
    let found : c.in_ok-a.field-0 ≡ Err c.in-Err.output = search rules in
    inl (MatchResult-at_err _ _ c.in-Err.output found c.in_ok-a.ensures)
