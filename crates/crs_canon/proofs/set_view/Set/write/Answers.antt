use Rattle.std.proofs.Common.{map, refl, subst}
use Rattle.std.proofs.lemmas.Result.{MatchResult-weaker}
use Rattle.crs_normal.specs.inner.Prelude.{in_order}
use Rattle.crs_writer.specs.inner.Prelude.{AppendsSpelling, IsSetText, commas, set_text}
use Rattle.crs_canon.proofs.SetTextLemmas.{set-text}
use Rattle.crs_canon.proofs.SpellingLemmas.{whole}
use Rattle.crs_canon.proofs.set_view.Set.write.Goals as goal

pub returns : goal.returns
unfolding set_text
returns g c =
    let Spells = g.T.Canonical.IsSpelling c.args.level in
    let law = c.texts_are_in_order.ensures in
    let values = c.self.inside.members.now in
    let texts = map (g.T.Spell.spelling c.args.level) values in
    let members = in_order (λ bytes. bytes) texts in
    MatchResult-weaker c.append_members.result (c.append_members.ensures members
    (whole _ (commas members) _ _ c.as_slice.ensures.value (c.in_ok-write_set.ensures.writes values refl) c.new-text.ensures.items))
    (λ x e. subst (λ vs. AppendsSpelling (IsSetText Spells vs) c.args.out.now.items c.append_members.new.out.items) c.self.view_is
    (set-text Spells law.ascend law.members values texts _ _ (c.are_spelled.ensures.spelled c.args.level) e)) (λ y e. e)
