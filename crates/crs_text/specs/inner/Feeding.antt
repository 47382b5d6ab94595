-- A bridge: how far the front of a text is settled, and what is known of the token that isn't.
use Rattle.std.specs.Prelude.{◌≡◌, ℕ, ◌+◌, ◌≤◌, ◌<◌, IsTrue, ◌⊎◌, Option, Some, None, List, ◌∷◌, ◌++◌, [], length, take, drop}
use Rattle.std.specs.List.{list_all}
use Rattle.crs_decimal.specs.Numbers.{is_run_byte, is_run_start}
use Rattle.crs_text.specs.Tokens.{BeginsWith, StopsAt, IsInside, Token, is_white, is_letter, is_word_byte}
use Rattle.crs_text.specs.TextFault.{FormsSettled, SettledFronts, IsRunSettled, IsSettledStop, IsSettledRefusal, IsTakenSoFar}
use Rattle.crs_text.specs.inner.Table.{Flat, Shows}
use Rattle.crs_text.specs.inner.Lexing.{IsValidTo}
use Rattle.crs_text.specs.Refusal.{RefusedAt}
use Rattle.crs_text.specs.declared.refusal.Reason.{Reason}
use Rattle.crs_text.specs.declared.refusal.Reason.TheVariants.{BadCharacter, BadNumber, NumberRange, NotUtf8, OpenText, Unexpected, UnexpectedEnd, TooDeep}
use Rattle.crs_text.specs.declared.lexing.Lexed.{Lexed}
use Rattle.crs_text.specs.declared.lexing.Lexed.TheVariants as lexed
use Rattle.crs_text.specs.declared.feeding.Pending.{Pending}
use Rattle.crs_text.specs.declared.feeding.Pending.TheVariants as pending
use Rattle.crs_text.specs.declared.feeding.Held.{Held}
use Rattle.crs_text.specs.declared.fault.Fault.{Fault}
use Rattle.crs_text.specs.declared.fault.Fault.TheVariants as faults

-- the flaw at the front of what is left is settled
abbrev pub IsFlawSettled : Reason → List ℕ → Type 0
IsFlawSettled BadCharacter left = Unit {0}
IsFlawSettled BadNumber left = IsRunSettled left
IsFlawSettled NumberRange left = IsRunSettled left
IsFlawSettled NotUtf8 left = Unit {0}
IsFlawSettled OpenText left = ⊥
IsFlawSettled Unexpected left = ⊥
IsFlawSettled UnexpectedEnd left = ⊥
IsFlawSettled TooDeep left = ⊥

-- the token or the flaw at the front of what is left is settled
abbrev pub IsLexedSettled : List ℕ → Lexed → Type 0
IsLexedSettled left (lexed.Number n) = n < length left
IsLexedSettled left (lexed.Text n) = n + 2 < length left
IsLexedSettled left (lexed.Word n) = n < length left
IsLexedSettled left lexed.Comma = Unit {0}
IsLexedSettled left (lexed.Opening square) = Unit {0}
IsLexedSettled left (lexed.Closing square) = Unit {0}
IsLexedSettled left (lexed.Flaw reason skip) = IsFlawSettled reason left

-- what is left of a text of this length, after these tokens, begins with nothing that is settled
pub record IsUnsettled (total : ℕ) (ts : List Token) (left : List ℕ) : Type 0 where
  pub no_token : (t : Token) (rest : List ℕ) → ¬ (FormsSettled total t left rest)
  pub no_stop : (r : Reason) (k : ℕ) → ¬ (IsSettledStop r total ts left k)

-- the table shows the settled tokens before this place, at which there is no white space
pub record IsSettledTo (text : List ℕ) (table : Flat) (at : ℕ) : Type 0 where
  pub tokens : List Token
  pub shows : Shows tokens table
  pub fronts : SettledFronts (length text) text tokens (drop at text)
  pub within : at ≤ length text

-- so many of the bytes after an opening quote are inside the text
abbrev pub IsInsideTo : List ℕ → ℕ → Type 0
IsInsideTo after n = (n ≤ length after) × IsInside (take n after)

-- so many of the bytes after an opening quote are inside the text, and no more follow them than a
-- quote that may still be doubled
abbrev pub IsOpenTo : List ℕ → ℕ → Type 0
IsOpenTo after n = IsInsideTo after n × ((drop n after ≡ []) ⊎ (drop n after ≡ 34 ∷ []))

-- what is left and isn't settled: nothing is known; a word or a run to the end; a quote, after
-- which so many bytes are inside the text, and so many are well-formed
abbrev pub IsPendingIn : List ℕ → Pending → Type 0
IsPendingIn left pending.Unknown = Unit {0}
IsPendingIn left pending.Word = BeginsWith is_letter left × IsTrue (list_all is_word_byte left)
IsPendingIn left pending.Run = BeginsWith is_run_start left × IsTrue (list_all is_run_byte left)
IsPendingIn left (pending.Text inside valid) =
    (left ≡ 34 ∷ drop 1 left) × IsInsideTo (drop 1 left) inside × IsValidTo (drop 1 left) valid

-- what is left, without this piece at its end, is pending so
abbrev pub IsPendingBefore : List ℕ → List ℕ → Pending → Type 0
IsPendingBefore left piece p = (before : List ℕ) × (left ≡ before ++ piece) × IsPendingIn before p

-- what is left begins with nothing that is settled, whatever the text and the tokens before
abbrev pub IsUnsettledIn : List ℕ → Type 0
IsUnsettledIn left = (total : ℕ) → length left ≤ total → (ts : List Token) → IsUnsettled total ts left

-- what is left stays pending, and begins with no white space
abbrev pub StaysPending : List ℕ → Pending → Type 0
StaysPending left p = IsPendingIn left p × IsUnsettledIn left × StopsAt is_white left

-- nothing is settled at this place, whatever tokens come before it
abbrev pub IsUnsettledAt : List ℕ → ℕ → Type 0
IsUnsettledAt text at = (ts : List Token) → IsUnsettled (length text) ts (drop at text)

-- what is settled of the text is taken
pub record IsFedTo (text : List ℕ) (table : Flat) (held : Held) : Type 0 where
  pub settled : IsSettledTo text table held.at
  pub pending : IsPendingIn (drop held.at text) held.pending
  pub so_far : IsTakenSoFar text

-- what is settled of the text, without this piece at its end, is taken
abbrev pub IsFedBefore : List ℕ → List ℕ → Flat → Held → Type 0
IsFedBefore text piece table held = (before : List ℕ) × (text ≡ before ++ piece) × IsFedTo before table held

-- a fault that is a refusal is settled
abbrev pub IsSettledFault : List ℕ → Fault → Type 0
IsSettledFault text (faults.Refused refusal) = IsSettledRefusal text refusal.number refusal.place
IsSettledFault text (faults.Memory e) = Unit {0}

-- what a feeder knows of its bytes: their refusal, or how far they are settled
abbrev pub IsFed : List ℕ → Flat → Held → Option RefusedAt → Type 0
IsFed text table held None = IsFedTo text table held
IsFed text table held (Some refusal) = IsSettledRefusal text refusal.number refusal.place

-- the fault is the refusal that is known
abbrev pub IsRefusalOf : Option RefusedAt → Fault → Type 0
IsRefusalOf known (faults.Refused refusal) = known ≡ Some refusal
IsRefusalOf known (faults.Memory e) = ⊥
