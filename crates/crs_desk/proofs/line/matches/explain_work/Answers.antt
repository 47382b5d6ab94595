use Rattle.std.proofs.Common.{◌≡◌, ◌∙◌, IfOk, None, Some, ap₂, refl, rules, subst}
use Rattle.clap.specs.Words.{found_of, rows_of}
use Rattle.crs_desk.specs.Requests.{explain_operands}
use Rattle.crs_desk.specs.declared.line.requests.Comparison.TheVariants.{Explain}
use Rattle.crs_desk.specs.declared.line.requests.Work.{Work}
use Rattle.crs_desk.specs.declared.line.requests.Work.TheVariants.{Pair}
use Rattle.crs_desk.proofs.MatchesLemmas.{operands_read}
use Rattle.crs_desk.proofs.line.matches.explain_work.Goals as goal

pub returns-in-None-default : goal.returns-in-None-default
returns-in-None-default c =
    subst (λ (wanted : Work). IfOk c.nothing_work.result (λ work. work ≡ wanted))
    (operands_read (explain_operands (rows_of (found_of c.args.operands.now))) (found_of c.args.operands.now) c.get_str.result
    c.get_str-2.result None c.get_str-2.result c.get_str.ensures c.get_str-2.ensures (search rules) refl)
    c.nothing_work.ensures

pub returns-in-Some-None : goal.returns-in-Some-None
returns-in-Some-None c =
    subst (λ (wanted : Work). IfOk c.one_work.result (λ work. work ≡ wanted))
    (operands_read (explain_operands (rows_of (found_of c.args.operands.now))) (found_of c.args.operands.now) c.get_str.result
    c.get_str-2.result (Some c.in-Some-None.first) None c.get_str.ensures c.get_str-2.ensures (search rules) (search rules))
    c.one_work.ensures

pub returns-in_ok-pair-in-Some-Some : goal.returns-in_ok-pair-in-Some-Some
returns-in_ok-pair-in-Some-Some c =
    ap₂ (λ how p. Pair (Explain how) p) c.manner.ensures c.in_ok-pair-in-Some-Some.ensures
    ∙ operands_read (explain_operands (rows_of (found_of c.args.operands.now))) (found_of c.args.operands.now) c.get_str.result
    c.get_str-2.result (Some c.in-Some-Some.first) (Some c.in-Some-Some.second) c.get_str.ensures c.get_str-2.ensures (search rules)
    (search rules)
