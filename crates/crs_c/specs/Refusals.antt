-- A refusal as C sees it.
use Rattle.crs_text.specs.Refusal.{RefusedAt}
use Rattle.crs_c.specs.declared.calls.refused.Refused.{Refused}

-- no refusal
abbrev pub no_refusal : Refused
no_refusal = record { place = 0; number = 0 }

-- a refusal as C has it: its place and its number
abbrev pub place_and_number : RefusedAt → Refused
place_and_number refusal = record { place = refusal.place; number = refusal.number }
