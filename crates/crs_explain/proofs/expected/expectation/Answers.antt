use Rattle.std.proofs.Common.{refl}
use Rattle.std.proofs.lemmas.Result.{IfOk-weaker}
use Rattle.crs_explain.proofs.expected.expectation.Goals as goal

pub returns-in-Ok : goal.returns-in-Ok
returns-in-Ok c =
    IfOk-weaker c.in_items.result _ _
    (λ found is. record {
      of_item = λ other spelled. rw (← c.one_answer.ensures.node c.args.text.now _ other c.in-Ok.ensures spelled) is;
      of_none = λ none. absurd (none _ c.in-Ok.ensures);
    })
    c.in_items.ensures

pub returns-in-Err-Refused : goal.returns-in-Err-Refused
returns-in-Err-Refused c =
    let refused = rw c.in-Err-Refused.field-0-is at c.in-Err-Refused.ensures in
    record {
      of_item = λ item spells. absurd (c.one_answer.ensures.apart c.args.text.now item _ _ spells refused);
      of_none = λ none. refl;
    }
