use Rattle.crs_rules.proofs.laws.forms_are_canonical.Goals as goal

pub returns : goal.returns
returns c = λ r level text bytes f.
    let v = f.form.value in
    let same = (c.same_crs_is_equivalence.ensures level).reflexive v (c.spelled_crs_is_sound.ensures bytes v f.form.spells) in
    (v, f.form.spells, record { normal = f.form.normal; value = v; spells = f.form.spells; same = same })
