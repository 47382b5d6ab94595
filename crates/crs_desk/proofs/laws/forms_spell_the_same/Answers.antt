use Rattle.crs_desk.proofs.laws.forms_spell_the_same.Goals as goal

pub returns : goal.returns
returns c = λ r level first second a b x y h f g s t.
    let equal = c.same_under_rules_is_equivalence.ensures.equal r level first second a b h f g in
    let same = (c.main_theorem.ensures level).equal a b a b x y s t (c.forms_are_canonical.ensures r level first a f)
    (c.forms_are_canonical.ensures r level second b g) in
    (λ k. same.0 (equal.1 k), λ k. equal.0 (same.1 k))
