use Rattle.crs_canon.proofs.laws.canonical_texts_are_equal_where_same.Goals as goal

pub returns-clause-there : goal.returns-clause-there
returns-clause-there c level = (c.crss_are_canonical.ensures level).form.there

pub returns-clause-equal : goal.returns-clause-equal
returns-clause-equal c level = (c.crss_are_canonical.ensures level).form.equal
