use Rattle.std.proofs.Common.{◌∙◌, arith, refl, sym}
use Rattle.std.proofs.lemmas.List.Sums.{prefix_len-drop_all, prefix_len-drop_no, prefix_len-drop_yes}
use Rattle.crs_text.specs.Tokens.{is_white}
use Rattle.crs_text.proofs.scanning.after_white.Goals as goal

pub loop-at-init : goal.loop-at-init
loop-at-init c = (refl, c.requires)

pub returns-then-not-is_white : goal.returns-then-not-is_white
returns-then-not-is_white c =
    let none = prefix_len-drop_no is_white c.args.text.now c.loop-at.at 0 c.loop-at-test.true (sym c.is_white.ensures ∙ c.if-not-is_white.true) in
    omega (arith, none, c.loop-at.invariant.0)

pub loop-at-preserved : goal.loop-at-preserved
loop-at-preserved c =
    let one = prefix_len-drop_yes is_white c.args.text.now c.loop-at.at 0 c.loop-at-test.true (sym c.is_white.ensures ∙ c.if-not-is_white.false) in
    (omega (arith, one, c.loop-at.invariant.0), omega (arith, c.loop-at-test.true))

pub returns : goal.returns
returns c =
    let none = prefix_len-drop_all is_white c.args.text.now c.loop-at.at (omega (arith, c.loop-at-test.false)) in
    omega (arith, none, c.loop-at.invariant.0)
