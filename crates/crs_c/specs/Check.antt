-- What crsdesk_check answers.
use Rattle.std.specs.Prelude.{◌≡◌, ◌⊎◌, ℕ, List}
use Rattle.crs_value.specs.declared.values.crs.Kind.{Kind}
use Rattle.crs_value.specs.Spells.{SpellsKind}
use Rattle.crs_c.specs.Answers.{Answer, IsRefusedBy, IsWithoutMemory}
use Rattle.crs_c.specs.Codes.{kind_number}

-- the kind with code 0, the refusal with code 1, or code 3; all else is as before
unfoldable pub IsCheckAnswer : List ℕ → Answer ℕ
IsCheckAnswer text old new code =
    ((kind : Kind) × SpellsKind text kind × (code ≡ 0)
    × (new ≡ record old { answer = kind_number kind }))
    ⊎ IsRefusedBy 1 text old new code ⊎ IsWithoutMemory old new code
