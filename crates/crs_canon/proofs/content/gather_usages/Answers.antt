use Rattle.std.proofs.Common.{◌≡◌, ◌∷◌, ◌∙◌, ap, map, refl, rules, subst}
use Rattle.std.proofs.lemmas.Result.{on_ok_weaker}
use Rattle.crs_normal.specs.inner.Prelude.{put_all, IsSpelledUsage, usage_text}
use Rattle.crs_writer.specs.inner.Prelude.{AreSpellingsOf}
use Rattle.crs_canon.proofs.SetTextLemmas.{only-spelling}
use Rattle.crs_canon.proofs.content.gather_usages.Goals as goal

pub returns-in-None : goal.returns-in-None
returns-in-None c =
    let Spells = IsSpelledUsage c.args.level in
    let texts = map (usage_text c.args.level) c.parts.result.1.now in
    let all : c.parts.result.1.now ≡ c.args.usages.now = search rules in
    on_ok_weaker c.gather_all.result (λ e. record {
      texts = texts;
      spelled = subst (λ usages. AreSpellingsOf Spells usages texts) all (c.are_spelled.ensures.spelled c.args.level);
      all_put = e c.parts.result.1.now refl;
    }) c.gather_all.ensures

pub returns-in_ok-gather-in-Some : goal.returns-in_ok-gather-in-Some
returns-in_ok-gather-in-Some c =
    let Spells = IsSpelledUsage c.args.level in
    let text = usage_text c.args.level in
    let bare = c.in-Some.usage.now in
    let rest = c.parts.result.1.now in
    let both : bare ∷ rest ≡ c.args.usages.now = search rules in
    on_ok_weaker c.gather_all-in-Some.result (λ e. record {
      texts = map text (bare ∷ rest);
      spelled = subst (λ usages. AreSpellingsOf Spells usages (map text (bare ∷ rest))) both (
        only-spelling Spells _ _ text (c.laws.ensures.form c.args.level) (c.laws.ensures.written c.args.level) bare c.laws.ensures.value,
        c.are_spelled.ensures.spelled c.args.level,
      );
      all_put = e rest refl ∙ ap (λ keys. put_all (λ bytes. bytes) keys (map text rest)) (c.in_ok-gather-in-Some.ensures bare refl);
    }) c.gather_all-in-Some.ensures
