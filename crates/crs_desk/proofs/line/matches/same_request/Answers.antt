use Rattle.std.proofs.Common.{◌∙◌, Some, ap, ap₂, rules, sym}
use Rattle.std.proofs.lemmas.Result.{IfOk-weaker}
use Rattle.clap.specs.Words.{found_of, rows_of}
use Rattle.crs_desk.specs.Requests.{asked_for, same_operands}
use Rattle.crs_desk.specs.declared.line.requests.Comparison.TheVariants.{Same}
use Rattle.crs_desk.specs.declared.line.requests.Work.TheVariants.{Pair}
use Rattle.crs_desk.proofs.MatchesLemmas.{neither_missing, operands_read}
use Rattle.crs_desk.proofs.line.matches.same_request.Goals as goal
use Rattle.crs_desk.proofs.line.matches.same_request.Goals.{in_default-via-in-Some+in_default, in_default-via-in_default}

pub unreachable-requires : goal.unreachable-requires
unreachable-requires c =
    let there = neither_missing (found_of c.args.operands.now) c.get_str.result c.get_str-2.result c.get_str.ensures c.get_str-2.ensures c.requires in
    elim c.in_default.branch [
      | in_default-via-in-Some+in_default w ↦ there.1 w.in_default.is-1
      | in_default-via-in_default w ↦ there.0 w.in_default.is-0
    ]

pub returns : goal.returns
returns c =
    let rows = rows_of (found_of c.args.operands.now) in
    let read = operands_read (same_operands rows) (found_of c.args.operands.now) c.get_str.result c.get_str-2.result
    (Some c.in-Some-Some.first) (Some c.in-Some-Some.second) c.get_str.ensures c.get_str-2.ensures (search rules) (search rules) in
    IfOk-weaker c.asked_for.result _ _
    (λ found is. sym read
    ∙ ap Some (ap₂ (λ how p. asked_for (Pair (Same how) p) rows) (sym c.manner.ensures) (sym c.in_ok-pair-in-Some-Some.ensures) ∙ sym is))
    c.asked_for.ensures
