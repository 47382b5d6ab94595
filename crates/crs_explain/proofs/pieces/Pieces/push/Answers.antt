use Rattle.std.proofs.Common.{ap, ◌∙◌, ◌++◌, ◌∷◌, [], rules}
use Rattle.crs_explain.proofs.PieceLemmas.{more}
use Rattle.crs_explain.proofs.pieces.Pieces.push.Goals as goal

pub invariant_of-self-2 : goal.invariant_of-self-2
invariant_of-self-2 c =
    let (is, laid, ended) = more _ _ c.extend_from_slice.new.self.items c.push.new.self.items c.args.text.now c.self.invariant.0 c.self.invariant.1
    (search rules) (search rules) in
    (laid, ended)

pub returns : goal.returns
returns c =
    (more _ _ c.extend_from_slice.new.self.items c.push.new.self.items c.args.text.now c.self.invariant.0 c.self.invariant.1 (search rules) (search rules)).0
    ∙ ap (λ z. z ++ c.args.text.now ∷ []) c.self.view_is
