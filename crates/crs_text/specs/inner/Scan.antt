-- A bridge: how far the scan has come.
use Rattle.std.specs.Prelude.{◌≡◌, ℕ, ◌+◌, ◌<◌, ◌≤◌, List, [], length, drop, Some}
use Rattle.std.specs.List.{prefix_len}
use Rattle.crs_text.specs.Tokens.{Token, Forms, Fronts, is_white}
use Rattle.crs_text.specs.TextFault.{reason_number, IsStop, SpellsNode}
use Rattle.crs_text.specs.inner.Table.{Flat, flat_step, Shows, flat}
use Rattle.crs_text.specs.inner.State.{after}
use Rattle.crs_text.specs.Items.{Item}
use Rattle.crs_text.specs.Refusal.{RefusedAt}
use Rattle.crs_text.specs.declared.refusal.Reason.{Reason}
use Rattle.crs_text.specs.declared.fault.Fault.{Fault}
use Rattle.crs_text.specs.declared.fault.Fault.TheVariants as faults

-- the table shows the tokens before this place, at which there is no white space
pub record IsReached (text : List ℕ) (table : Flat) (at : ℕ) : Type 0 where
  pub tokens : List Token
  pub shows : Shows tokens table
  pub fronts : Fronts (length text) text tokens (drop at text)
  pub within : at ≤ length text

-- the table shows the tokens before this place, which is further on than the one that it was at
abbrev pub IsFurther : List ℕ → ℕ → Flat → ℕ → Type 0
IsFurther text from table at = IsReached text table at × (from < at)

-- the table shows the tokens before this place, at which white space may come
abbrev pub IsPassed : List ℕ → Flat → ℕ → Type 0
IsPassed text table at = IsReached text table (at + prefix_len is_white (drop at text)) × (at ≤ length text)

-- the table takes the token of n bytes at this place
pub record IsTaken (text : List ℕ) (at : ℕ) (before behind : Flat) (n : ℕ) : Type 0 where
  pub token : Token
  pub forms : Forms (length text) token (drop at text) (drop (at + n) text)
  pub step : flat_step before token ≡ Some behind
  pub within : at + n ≤ length text

-- at this place nothing goes on, whatever tokens the table shows
pub record IsStopped (text : List ℕ) (at : ℕ) (table : Flat) (refusal : RefusedAt) : Type 0 where
  pub reason : Reason
  pub skip : ℕ
  pub is_number : refusal.number ≡ reason_number reason
  pub is_place : refusal.place ≡ at + skip
  pub stop : (ts : List Token) → Shows ts table → IsStop reason (length text) ts (drop at text) skip

-- a fault that is a refusal stops the scan at this place
abbrev pub IsStoppedBy : List ℕ → ℕ → Flat → Fault → Type 0
IsStoppedBy text at table (faults.Refused refusal) = IsStopped text at table refusal
IsStoppedBy text at table (faults.Memory e) = Unit {0}

-- the whole text is a node, and these are its rows
abbrev pub IsScanned : List ℕ → Flat → Type 0
IsScanned text table = (item : Item) × SpellsNode text item × (table ≡ flat (after item []))
