use Rattle.std.proofs.Common.{◌≡◌, ℕ, suc, ap, ◌∙◌, subst, arith, drop, ◌+◌, ◌∷◌}
use Rattle.std.proofs.Math.Seq.{drop-cons}
use Rattle.std.proofs.lemmas.List.Sums.{prefix_len-drop_no}
use Rattle.crs_text.specs.Tokens.{comma, is_white}
use Rattle.crs_text.proofs.tokens.ScanLemmas.{passed_on, taken_by}
use Rattle.crs_text.proofs.scanning.past_comma.Goals as goal

pub returns-then-comma-clause-passed : goal.returns-then-comma-clause-passed
returns-then-comma-clause-passed c =
    let text = c.args.text.now in
    let at = c.args.at in
    let dark = prefix_len-drop_no is_white text at 0 c.if-at-text.true (ap is_white c.if-text-at-eq44.true) in
    let next : suc at ≡ at + 1 = omega arith in
    let front = subst (λ (k : ℕ). drop at text ≡ 44 ∷ drop k text) next (drop-cons text at 0 c.if-at-text.true ∙ ap (λ (b : ℕ). b ∷ drop (suc at) text) c.if-text-at-eq44.true) in
    passed_on text at 1 c.args.table.now c.comma.new.self c.requires dark
    (taken_by text at 1 c.args.table.now c.comma.new.self c.comma.result comma (omega (arith, c.if-at-text.true)) (record { spelled = front; formed = tt; ends = tt; placed = tt }) c.comma.ensures c.if-comma.true)
