use Rattle.std.proofs.Common.{◌≡◌, ◌+◌, ◌≤◌, length, take, drop, refl, ap, subst, ◌∙◌}
use Rattle.crs_text.specs.Position.{feeds, characters, BeginsLine, EndsLine}
use Rattle.crs_text.proofs.texts.PositionLemmas.{position}
use Rattle.crs_text.proofs.position.position_of.Goals as goal

pub returns-clause-position : goal.returns-clause-position
returns-clause-position c =
    let text = c.args.text.now in
    let place = c.args.place in
    let begin = c.last_line-begin.result in
    let n = c.first_line.result in
    let front = c.front_of-front.ensures in
    let rest = c.rest_of-2.ensures in
    position text place begin n _ c.requires
    (subst (λ z. begin ≤ length z) front c.last_line-begin.ensures.within)
    (subst (λ z. BeginsLine (take begin z)) front c.last_line-begin.ensures.begins)
    (subst (λ z. feeds (drop begin z) ≡ 0) front c.last_line-begin.ensures.one_line)
    (subst (λ z. n ≤ length z) rest c.first_line.ensures.within)
    (subst (λ z. feeds (take n z) ≡ 0) rest c.first_line.ensures.one_line)
    (subst (λ z. EndsLine (drop n z)) rest c.first_line.ensures.ends)
    (ap (λ z. 1 + z) (c.feeds.ensures ∙ ap feeds (c.front_of.ensures ∙ ap (take begin) front)))
    (ap (λ z. 1 + z) (c.characters.ensures ∙ ap characters (c.rest_of.ensures ∙ ap (drop begin) front)))
    refl refl
