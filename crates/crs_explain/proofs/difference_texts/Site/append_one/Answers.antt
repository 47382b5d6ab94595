use Rattle.std.proofs.Common.{◌∷◌, [], append-nil, refl}
use Rattle.std.proofs.lemmas.Result.{on_ok_weaker}
use Rattle.crs_explain.proofs.difference_texts.Site.append_one.Goals as goal

pub returns : goal.returns
returns c =
    on_ok_weaker c.push.result
    (λ new. (_ ∷ [], (_, refl, (append-nil c.args.self.path.now, c.in_ok-first.ensures, c.in_ok-second.ensures)), new)) c.push.ensures
