use Rattle.std.proofs.Common.{sym, ◌∙◌, arith}
use Rattle.crs_text.proofs.tokens.Utf8Lemmas.{IsUtf8Front-cut, not-IsUtf8Front, IsLongestUtf8-from}
use Rattle.crs_text.proofs.lexing.valid_length.Goals as goal

pub returns-in-None : goal.returns-in-None
returns-in-None c =
    let e = c.in-Err.ensures in (
      (omega (arith, e.cases.1.short, c.valid_up_to.ensures), rw c.valid_up_to.ensures e.cases.1.front),
      IsUtf8Front-cut c.args.bytes.now _ e.cases.1 (sym e.fault ∙ sym c.in-None.ensures),
    )

pub returns-in-Some : goal.returns-in-Some
returns-in-Some c =
    let e = c.in-Err.ensures in
    (not-IsUtf8Front c.args.bytes.now _ _ e.cases.1 (sym e.fault ∙ sym c.in-Some.ensures), rw c.valid_up_to-in-Some.ensures (IsLongestUtf8-from _ _ e.cases.1))
