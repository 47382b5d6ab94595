use Rattle.std.proofs.Common.{◌≡◌, ◌∷◌, [], append-nil, false, refl, rules, sym, true}
use Rattle.std.proofs.lemmas.Result.{on_ok_weaker}
use Rattle.crs_explain.specs.Differing.{are_empty}
use Rattle.crs_explain.proofs.difference_texts.Sets.append_others.Goals as goal

pub returns-then-are_empty : goal.returns-then-are_empty
returns-then-are_empty c =
    let none : are_empty c.in_ok-first.first.items c.in_ok-second.second.items ≡ true = search rules in (
      [],
      (
        record { path = c.args.self.at.path.now; first = c.in_ok-first.first.items; second = c.in_ok-second.second.items },
        rw none refl,
        (refl, c.in_ok-first.ensures, c.in_ok-second.ensures),
      ),
      sym (append-nil c.args.out.now.items),
    )

pub returns : goal.returns
returns c =
    let some : are_empty c.in_ok-first.first.items c.in_ok-second.second.items ≡ false = search rules in
    on_ok_weaker c.push.result
    (λ new. (_ ∷ [], (_, rw some refl, (append-nil c.args.self.at.path.now, c.in_ok-first.ensures, c.in_ok-second.ensures)), new)) c.push.ensures
