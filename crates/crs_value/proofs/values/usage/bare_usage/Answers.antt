use Rattle.std.proofs.Common.{inl, inr, rules}
use Rattle.crs_value.proofs.sound.CrsLemmas.{usage-tells}
use Rattle.crs_value.proofs.values.usage.bare_usage.Goals as goal
use Rattle.crs_value.proofs.values.usage.bare_usage.Goals.{else-is_none-via-then-is_none+then-is_none-2+then-is_none-3+else-is_none-4, else-is_none-via-then-is_none+then-is_none-2+else-is_none-3, else-is_none-via-then-is_none+else-is_none-2, else-is_none-via-else-is_none}

pub invariant_of-result : goal.invariant_of-result
invariant_of-result c =
    usage-tells _ _ _ c.requires.sound (search rules) (elim c.else-is_none.branch [
      | else-is_none-via-then-is_none+then-is_none-2+then-is_none-3+else-is_none-4 w ↦ inr (inr (inr (search rules)))
      | else-is_none-via-then-is_none+then-is_none-2+else-is_none-3 w ↦ inr (inr (inl (search rules)))
      | else-is_none-via-then-is_none+else-is_none-2 w ↦ inr (inl (search rules))
      | else-is_none-via-else-is_none w ↦ inl (search rules)
    ])
