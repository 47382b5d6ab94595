use Rattle.std.proofs.Common.{MatchOption, MatchResult, None, Some}
use Rattle.std.specs.Prelude.{ok_or}
use Rattle.crs_decimal.specs.declared.fault.NumberFault.TheVariants.{Range}
use Rattle.crs_decimal.specs.Fault.{IsFault}
use Rattle.crs_decimal.specs.Numbers.{Denotes, IsBounded, number_of, SameNumber, IsNormal, exact}
use Rattle.crs_decimal.specs.inner.Split.{parts_of}
use Rattle.crs_decimal.proofs.SplitLemmas.{parts_form, form_whole, spells_parts, parts_only}
use Rattle.crs_decimal.proofs.reading.parse_any.Goals as goal

pub decimal-requires-clause-cut : goal.decimal-requires-clause-cut
decimal-requires-clause-cut c =
    let bytes = c.args.bytes.now in
    let w = c.in-Some.ensures.cut in
    (parts_of bytes, w.1, (parts_form bytes w.0).digits)

pub returns-in-None : goal.returns-in-None
returns-in-None c = λ form. absurd (c.in-None.ensures.cut (form_whole c.args.bytes.now form))

pub returns-in-Some : goal.returns-in-Some
returns-in-Some c =
    let bytes = c.args.bytes.now in
    let w = c.in-Some.ensures.cut in
    let s = spells_parts bytes w.0 in
    let p = parts_of bytes in
    rw c.ok_or.ensures.value (elim c.decimal.result as (λ d.
    MatchOption d (¬ (IsBounded p)) (λ v. IsNormal v × IsBounded p × SameNumber (number_of p) (exact v)) →
    MatchResult (ok_or d Range) (λ v. IsNormal v × Denotes bytes (exact v)) (IsFault bytes)) [
      | None ↦ λ far. ((p, s), λ h. far (rw (parts_only bytes h.0 h.1) at h.2))
      | Some v ↦ λ h. (h.0, (p, s, h.1, h.2))
    ] (c.decimal.ensures p w.1 s.1.digits))
