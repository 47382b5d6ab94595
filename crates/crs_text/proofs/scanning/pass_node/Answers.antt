use Rattle.std.proofs.Common.{◌≡◌, Ok, true, ap, ◌∙◌, take, arith, rules}
use Rattle.crs_text.proofs.tokens.ScanLemmas.{passed_node}
use Rattle.crs_text.proofs.scanning.pass_node.Goals as goal

pub returns : goal.returns
returns c =
    let raw = c.front_of.ensures ∙ ap (take c.args.count) c.rest_of-left.ensures in
    let got : c.node.result ≡ Ok true = search rules in
    let begun = rw raw at (rw got at c.node.ensures) in
    let passed = passed_node c.args.text.now c.args.at.now c.args.count c.args.table.now c.node.new.self c.requires.within c.requires.reached c.requires.lexed c.requires.opening begun in (
      rw c.after_white.ensures passed.0,
      omega (arith, c.after_white.ensures),
    )
