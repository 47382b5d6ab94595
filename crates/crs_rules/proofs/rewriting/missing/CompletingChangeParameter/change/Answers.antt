use Rattle.crs_rules.proofs.rewriting.missing.CompletingChangeParameter.change.Goals as goal

pub returns-then-is_none : goal.returns-then-is_none
returns-then-is_none c =
    simp (c.fill.ensures, c.missing_unit.ensures, c.of.ensures, c.first_name-name.ensures.name, ← c.rules.view_is, ← c.value.view_is)
