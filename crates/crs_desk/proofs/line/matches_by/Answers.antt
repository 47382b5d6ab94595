use Rattle.std.proofs.Common.{◌≡◌, ap, ◌∙◌, map, IsSome, List, subst}
use Rattle.clap.specs.Words.{App, HasKind, Text, app_of, fault_of, is_simple_and_free, takes}
use Rattle.crs_desk.specs.CommandLine.{desk}
use Rattle.crs_desk.proofs.CommandLemmas.{asked_is, is_refusal, no_fault, taken_asks}
use Rattle.crs_desk.proofs.FaultLemmas.{line_taken}
use Rattle.crs_desk.proofs.line.matches_by.Goals as goal

pub returns-in-Ok-clause-faultless : goal.returns-in-Ok-clause-faultless
returns-in-Ok-clause-faultless c =
    no_fault c.args.command _ c.requires c.in-Ok.ensures.kinds

pub returns-in-Ok-clause-ok : goal.returns-in-Ok-clause-ok
returns-in-Ok-clause-ok c =
    let words : List Text = map (λ word. word.now) c.args.words.now in
    let shape : app_of c.args.command ≡ desk = c.requires in
    asked_is c.args.command words c.in-Ok.matches shape c.in-Ok.ensures.matches
    (line_taken words (no_fault c.args.command words shape c.in-Ok.ensures.kinds))

pub returns-in-Err-clause-refused : goal.returns-in-Err-clause-refused
returns-in-Err-clause-refused c =
    let words : List Text = map (λ word. word.now) c.args.words.now in
    let shape : app_of c.args.command ≡ desk = c.requires in
    is_refusal words c.in-Err.error c.refusal.result
    (λ taken. c.in-Err.ensures.passes (ap (λ (a : App). takes a words) shape ∙ taken))
    (subst (λ (a : App). HasKind (fault_of a words) c.in-Err.error) shape (c.in-Err.ensures.kinds (ap is_simple_and_free shape)))
    c.refusal.ensures

pub returns-in-Ok-clause-some : goal.returns-in-Ok-clause-some
returns-in-Ok-clause-some c =
    let words : List Text = map (λ word. word.now) c.args.words.now in
    let shape : app_of c.args.command ≡ desk = c.requires in
    let taken = line_taken words (no_fault c.args.command words shape c.in-Ok.ensures.kinds) in
    subst IsSome (asked_is c.args.command words c.in-Ok.matches shape c.in-Ok.ensures.matches taken) (taken_asks words taken)
