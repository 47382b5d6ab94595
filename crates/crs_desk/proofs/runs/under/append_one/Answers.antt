use Rattle.std.proofs.Common.{◌∙◌, ◌++◌, ap, append_assoc}
use Rattle.std.proofs.lemmas.Result.{IfOk-weaker}
use Rattle.crs_explain.specs.Differing.{difference_line}
use Rattle.crs_explain.specs.Json.{difference_members}
use Rattle.crs_desk.proofs.runs.under.append_one.Goals as goal

pub returns-in_ok-extend_from_slice-in-Lines : goal.returns-in_ok-extend_from_slice-in-Lines
returns-in_ok-extend_from_slice-in-Lines c =
    IfOk-weaker c.append_difference_line.result _ _
    (λ _ told. rw c.in-Lines.is (told ∙ (
    ap (λ front. front ++ difference_line c.args.difference.now) c.in_ok-extend_from_slice-in-Lines.ensures.items
    ∙ append_assoc c.args.out.now.items _ _)))
    c.append_difference_line.ensures

pub returns-in_ok-extend_from_slice-in-Objects : goal.returns-in_ok-extend_from_slice-in-Objects
returns-in_ok-extend_from_slice-in-Objects c =
    IfOk-weaker c.append_difference_members.result _ _
    (λ _ told. rw c.in-Objects.is (told ∙ (
    ap (λ front. front ++ difference_members c.args.difference.now) c.in_ok-extend_from_slice-in-Objects.ensures.items
    ∙ append_assoc c.args.out.now.items _ _)))
    c.append_difference_members.ensures
