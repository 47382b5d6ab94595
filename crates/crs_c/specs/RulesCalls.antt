-- What the calls on rules answer.
use Rattle.std.specs.Prelude.{◌≡◌, ◌⊎◌, [], ℕ, List, Option, Some, None, MatchOption, length}
use Rattle.crs_text.specs.Refusal.{RefusedAt}
use Rattle.crs_value.specs.Spells.{Refuses}
use Rattle.crs_value.specs.declared.values.level.Level.{Level}
use Rattle.crs_rules.specs.Rewritten.{IsForm}
use Rattle.crs_rules.specs.Rules.{RulesParts}
use Rattle.crs_rules.specs.RulesFile.{ReadsFile, RefusesFile}
use Rattle.crs_rules.specs.declared.file.fault.RulesFault.{RulesFault}
use Rattle.crs_rules.specs.declared.file.fault.RulesFault.TheVariants as faults
use Rattle.crs_rules.specs.declared.file.fault.RulesRefusal.{RulesRefusal}
use Rattle.crs_c.specs.declared.calls.rules.Form.{Form}
use Rattle.crs_c.specs.declared.calls.rules.RulesStanding.{RulesStanding}
use Rattle.crs_c.specs.Codes.{level_numbered}
use Rattle.crs_c.specs.Held.{HeldParts}
use Rattle.crs_c.specs.Refusals.{no_refusal, place_and_number}

-- a file was read
abbrev pub file_read : RulesStanding
file_read = record { line = 0; place = 0; number = 0; code = 0 }

-- a file was refused, or there was no memory
abbrev pub file_fault : RulesFault → RulesStanding
file_fault (faults.Refused f) = record { line = f.line; place = f.place; number = f.number; code = 1 }
file_fault (faults.Memory e) = record { line = 0; place = 0; number = 0; code = 3 }

-- the rules of one more file are added, with code 0, and no form is kept; or it is refused at its
-- first refused line, with code 1, or out of memory, with code 3, and all is as before
unfoldable pub IsFileRead : List ℕ → HeldParts → HeldParts → RulesStanding → Type 0
IsFileRead text old new told =
    (ReadsFile old.reading text new.reading × (new.form ≡ []) × (told ≡ file_read))
    ⊎ ((f : RulesRefusal) × RefusesFile old.reading text f × (new ≡ old)
    × (told ≡ file_fault (faults.Refused f)))
    ⊎ ((new ≡ old) × (told ≡ record file_read { code = 3 }))

-- a text is refused with code 1; without a refusal there was no memory, with code 3
abbrev pub form_fault : Option RefusedAt → Form
form_fault (Some refusal) = record { length = 0; refused = place_and_number refusal; code = 1 }
form_fault None = record { length = 0; refused = no_refusal; code = 3 }

-- there is no such level
abbrev pub form_without_level : Form
form_without_level = record { length = 0; refused = no_refusal; code = 4 }

-- the form of a text, which is its own form
abbrev pub IsOwnForm : RulesParts → Level → List ℕ → List ℕ → Type 0
IsOwnForm rules level text form = IsForm rules level text form × IsForm rules level form form

-- the form of a text under the rules is kept, with its length and code 0; or the text is refused,
-- with code 1, or out of memory, with code 3, and all is as before
unfoldable pub IsFormAt : Level → List ℕ → HeldParts → HeldParts → Form → Type 0
IsFormAt level text old new told =
    (IsOwnForm old.reading.rules level text new.form × (new.reading ≡ old.reading)
    × (told ≡ record { length = length new.form; refused = no_refusal; code = 0 }))
    ⊎ ((refusal : RefusedAt) × Refuses text refusal × (new ≡ old)
    × (told ≡ form_fault (Some refusal)))
    ⊎ ((new ≡ old) × (told ≡ form_fault None))

-- at the level of this number; code 4, and all as before, where there is no such level
unfoldable pub IsFormed : ℕ → List ℕ → HeldParts → HeldParts → Form → Type 0
IsFormed number text old new told =
    MatchOption (level_numbered number) ((new ≡ old) × (told ≡ form_without_level))
    (λ level. IsFormAt level text old new told)
