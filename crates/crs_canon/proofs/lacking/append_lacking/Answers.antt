use Rattle.std.proofs.Common.{◌≡◌, ◌++◌, ◌∙◌, ℕ, List, ap, rules}
use Rattle.crs_writer.specs.inner.Prelude.{lacking, spellings, commas}
use Rattle.crs_canon.proofs.LackingLemmas.{lacking-spelled}
use Rattle.crs_canon.proofs.lacking.append_lacking.Goals as goal

pub loop-bytes-init : goal.loop-bytes-init
loop-bytes-init c =
    let these = c.args.these.now.keys in
    let others = c.args.others.now.keys in
    ap (λ texts. c.new-text.result.items ++ commas texts)
    (ap (λ keys. spellings keys) (c.into_iter-bytes-iterator.ensures.into_iter_gives ∙ c.difference-bytes-items.ensures.rest)
    ∙ lacking-spelled these others)
    ∙ ap (λ (x : List ℕ). x ++ commas (lacking (spellings these) (spellings others))) c.new-text.ensures.items

pub returns : goal.returns
returns c =
    let members = lacking (spellings c.args.these.now.keys) (spellings c.args.others.now.keys) in
    let all : c.loop-bytes.text.items ≡ commas members = search rules in
    c.append_members.ensures members (c.as_slice.ensures.value ∙ all)
