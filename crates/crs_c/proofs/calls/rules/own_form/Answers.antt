use Rattle.std.proofs.Common.{MatchResult, subst}
use Rattle.std.proofs.lemmas.Result.{MatchResult-weaker}
use Rattle.crs_value.specs.Spells.{IsFaultOfText}
use Rattle.crs_c.specs.Held.{HeldParts}
use Rattle.crs_c.specs.RulesCalls.{IsOwnForm}
use Rattle.crs_c.proofs.calls.rules.own_form.Goals as goal

pub returns : goal.returns
returns c =
    let (files, over) = c.held.invariant in
    let rules = c.held.inside.reader.rules in
    let steady = c.read_rules_are_steady.ensures.files files c.held.inside.reader over in
    subst (λ (h : HeldParts). MatchResult c.canon_under.result (λ form. IsOwnForm h.reading.rules c.args.level c.args.text.now form.bytes)
    (IsFaultOfText c.args.text.now)) c.held.view_is
    (MatchResult-weaker c.canon_under.result (rw c.rules-rules.ensures at c.canon_under.ensures.answer)
    (λ form is. (
      is,
      c.forms_are_their_own.ensures rules c.args.level c.args.text.now form.bytes (rw c.rules-rules.ensures at c.rules_are_sound.ensures) steady is,
    ))
    (λ fault is. is))
