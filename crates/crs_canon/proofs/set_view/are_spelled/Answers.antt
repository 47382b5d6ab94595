use Rattle.std.proofs.Common.{◌≡◌, ◌∷◌, ◌+◌, arith, drop, map, subst, sym}
use Rattle.std.proofs.lemmas.Grind.{common_steps}
use Rattle.crs_value.specs.Sound.{Each}
use Rattle.crs_writer.specs.inner.Prelude.{AreSpellingsOf}
use Rattle.crs_canon.proofs.SetTextLemmas.{only-spelling}
use Rattle.crs_canon.proofs.set_view.are_spelled.Goals as goal

pub loop-member-preserved : goal.loop-member-preserved
loop-member-preserved g c =
    let IsValue = g.T.Canonical.IsValue in
    let others = drop (c.loop-member.member-index + 1) c.args.members.now in
    let here : drop c.loop-member.member-index c.args.members.now ≡ c.member-item.result ∷ others = grind (arith, common_steps, c.member-item.is, c.loop-member-test.true) in (
      λ values. c.loop-member.invariant.0 (subst (λ xs. Each IsValue xs) (sym here) (c.laws.ensures.value, values)),
      λ level rest.
          let Spells = g.T.Canonical.IsSpelling level in
          let text = g.T.Spell.spelling level in
          c.loop-member.invariant.1 level (subst (λ xs. AreSpellingsOf Spells xs (map text xs)) (sym here) (
            only-spelling Spells _ _ text (c.laws.ensures.form level) (c.laws.ensures.written level) c.member-item.result c.laws.ensures.value,
            rest,
          )),
    )
