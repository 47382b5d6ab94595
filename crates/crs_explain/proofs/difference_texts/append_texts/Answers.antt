use Rattle.std.proofs.Common.{◌≡◌, ◌∷◌, ◌++◌, ◌+◌, [], arith, drop, refl, subst, sym, ◌∙◌, append-nil}
use Rattle.std.proofs.lemmas.Grind.{common_steps}
use Rattle.crs_explain.specs.Differing.{AreTexts}
use Rattle.crs_explain.proofs.DifferingLemmas.{more}
use Rattle.crs_explain.proofs.difference_texts.append_texts.Goals as goal

pub loop-difference-preserved : goal.loop-difference-preserved
loop-difference-preserved c rest are =
    let all = c.as_slice-difference-items.result.now in
    let here : drop c.loop-difference.difference-index all ≡ c.difference-item.result ∷ drop (c.loop-difference.difference-index + 1) all =
    grind (arith, common_steps, c.difference-item.is, c.loop-difference-test.true) in
    let (these, is, new) = c.in_ok-append_part.ensures in
    more (AreTexts c.args.level all) these rest c.args.out.now.items c.loop-difference.out.items c.append_part.new.out.items new
    (c.loop-difference.invariant (these ++ rest) (rw here (these, rest, refl, is, are)))

pub returns : goal.returns
returns c =
    let none : drop c.loop-difference.difference-index c.as_slice-difference-items.result.now ≡ [] = grind (arith, common_steps, c.loop-difference-test.false) in
    let (texts, are, same) = c.loop-difference.invariant [] (rw none refl) in
    (texts, subst (λ all. AreTexts c.args.level all texts) c.as_slice-difference-items.ensures are, sym (append-nil c.loop-difference.out.items) ∙ same)
