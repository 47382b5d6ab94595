use Rattle.std.proofs.Common.{◌≡◌, ◌++◌, ◌∷◌, ◌∙◌, [], append-nil, map, refl, rules, sym}
use Rattle.crs_explain.specs.Differing.{AreTextsOfNames}
use Rattle.crs_explain.proofs.DifferingLemmas.{more}
use Rattle.crs_explain.proofs.difference_texts.Sets.append_names.Goals as goal

pub loop-name-preserved : goal.loop-name-preserved
loop-name-preserved c rest are =
    let sets = c.args.self in
    let here : c.loop-name.name-iterator ≡ c.in-Some.name.now ∷ c.next.new.self = search rules in
    let (these, told, new) = c.in_ok-append_name.ensures in
    let is = rw c.deref.ensures.value at told in
    more (AreTextsOfNames sets.at.level sets.at.path.now sets.these.now sets.others.now (map (λ name. name.items) c.args.names.now.keys))
    these rest c.args.out.now.items c.loop-name.out.items c.append_name.new.out.items new
    (c.loop-name.invariant (these ++ rest) (rw here (these, rest, refl, is, are)))

pub returns : goal.returns
returns c =
    let none : c.loop-name.name-iterator ≡ [] = search rules in
    let (texts, are, same) = c.loop-name.invariant [] (rw none refl) in
    (texts, are, sym (append-nil c.loop-name.out.items) ∙ same)
