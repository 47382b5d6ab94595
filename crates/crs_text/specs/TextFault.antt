-- The refusals of a text that is no node: the first token, from left
-- to right, that can't be formed or after which no text can follow.
use Rattle.std.specs.Prelude.{◌≡◌, ℕ, ◌+◌, ◌||◌, ◌==◌, Bool, IsTrue, IsFalse, List, [], ◌∷◌, ◌++◌, length, ◌≢◌, ◌⊎◌}
use Rattle.std.specs.List.{list_all}
use Rattle.crs_decimal.specs.Numbers.{is_run_byte, is_run_start, HasForm, IsInBounds}
use Rattle.crs_text.specs.Tokens.{StopsAt, BeginsWith, is_quote, IsInside, Through, IsUtf8Front, IsLongestUtf8, Token, single, comma, opening, closing, is_letter, Forms, Fronts, AreTokens, IsAfterWhite}
use Rattle.crs_text.specs.Items.{Item, AreNode}
use Rattle.crs_text.specs.Viable.{IsViable, IsViableAtAnyDepth}
use Rattle.crs_text.specs.declared.fault.Fault.{Fault}
use Rattle.crs_text.specs.declared.refusal.Reason.{Reason}
use Rattle.crs_text.specs.declared.refusal.Reason.TheVariants.{BadCharacter, BadNumber, NumberRange, NotUtf8, OpenText, Unexpected, UnexpectedEnd, TooDeep}
use Rattle.crs_text.specs.declared.fault.Fault.TheVariants as faults

-- the text is this node
abbrev pub SpellsNode : List ℕ → Item → Type 0
SpellsNode bytes item = (ts : List Token) × AreTokens bytes ts × AreNode item ts

-- the number of a refusal, by its reason
abbrev pub reason_number : Reason → ℕ
reason_number BadCharacter = 1
reason_number BadNumber = 2
reason_number NumberRange = 3
reason_number NotUtf8 = 4
reason_number OpenText = 5
reason_number Unexpected = 6
reason_number UnexpectedEnd = 7
reason_number TooDeep = 8

-- a comma, or an opening or closing delimiter
abbrev pub is_delimiter : ℕ → Bool
is_delimiter b = b == 44 || b == 91 || b == 40 || b == 93 || b == 41

-- a byte that a token may begin with
abbrev pub begins_token : ℕ → Bool
begins_token b = is_letter b || is_run_start b || is_quote b || is_delimiter b

-- the bytes begin with one that begins no token
abbrev pub BeginsNoToken : List ℕ → Type 0
BeginsNoToken [] = ⊥
BeginsNoToken (b ∷ bs) = IsFalse (begins_token b)

-- the bytes begin with a run: a digit, a sign or a period, and all bytes after it that a number could take
pub record IsFirstRun (left run rest : List ℕ) : Type 0 where
  pub parts : left ≡ run ++ rest
  pub starts : BeginsWith is_run_start run
  pub taken : IsTrue (list_all is_run_byte run)
  pub ends : StopsAt is_run_byte rest

-- no token can be formed at the front of what is left; the fault is `skip` bytes further on
abbrev pub IsFlaw : Reason → List ℕ → ℕ → Type 0
IsFlaw BadCharacter left skip = BeginsNoToken left × (skip ≡ 0)
IsFlaw BadNumber left skip = (run rest : List ℕ) × IsFirstRun left run rest × ¬ (HasForm run) × (skip ≡ 0)
IsFlaw NumberRange left skip =
    (run rest : List ℕ) × IsFirstRun left run rest × HasForm run × ¬ (IsInBounds run) × (skip ≡ 0)
IsFlaw NotUtf8 left skip =
    (after inside : List ℕ) × (left ≡ 34 ∷ after) × Through after inside × ¬ (IsUtf8Front inside)
    × (n : ℕ) × IsLongestUtf8 after n × (skip ≡ 1 + n)
IsFlaw OpenText left skip = (after : List ℕ) × (left ≡ 34 ∷ after) × IsInside after × IsUtf8Front after × (skip ≡ 0)
IsFlaw Unexpected left skip = ⊥
IsFlaw UnexpectedEnd left skip = ⊥
IsFlaw TooDeep left skip = ⊥

-- an opening delimiter that is one too many, and nothing else is wrong with it
abbrev pub IsTooDeep : List Token → Token → Type 0
IsTooDeep ts (single kind place raw) = ⊥
IsTooDeep ts comma = ⊥
IsTooDeep ts (opening square) =
    IsViableAtAnyDepth (ts ++ opening square ∷ []) × ¬ (IsViable (ts ++ opening square ∷ []))
IsTooDeep ts (closing place square) = ⊥

-- the tokens are no node
abbrev pub IsNoNode : List Token → Type 0
IsNoNode ts = (item : Item) → ¬ (AreNode item ts)

-- why nothing goes on after these tokens, with this left of a text of this length
abbrev pub IsStop : Reason → ℕ → List Token → List ℕ → ℕ → Type 0
IsStop BadCharacter total ts left skip = IsFlaw BadCharacter left skip
IsStop BadNumber total ts left skip = IsFlaw BadNumber left skip
IsStop NumberRange total ts left skip = IsFlaw NumberRange left skip
IsStop NotUtf8 total ts left skip = IsFlaw NotUtf8 left skip
IsStop OpenText total ts left skip = IsFlaw OpenText left skip
IsStop Unexpected total ts left skip =
    (t : Token) × (rest : List ℕ) × Forms total t left rest × ¬ (IsViable (ts ++ t ∷ []))
    × ¬ (IsTooDeep ts t) × (skip ≡ 0)
IsStop UnexpectedEnd total ts left skip = (left ≡ []) × IsNoNode ts × (skip ≡ 0)
IsStop TooDeep total ts left skip =
    (t : Token) × (rest : List ℕ) × Forms total t left rest × IsTooDeep ts t × (skip ≡ 0)

-- the text is refused with this number at this place: the tokens before are viable, and there it stops
pub record RefusesText (bytes : List ℕ) (number place : ℕ) : Type 0 where
  pub reason : Reason
  pub before : List Token
  pub left : List ℕ
  pub skip : ℕ
  pub fronts : Fronts (length bytes) bytes before left
  pub viable : IsViable before
  pub stop : IsStop reason (length bytes) before left skip
  pub is_number : number ≡ reason_number reason
  pub is_place : place + length left ≡ length bytes + skip

-- a fault that is a refusal is that of the text
abbrev pub IsTextFault : List ℕ → Fault → Type 0
IsTextFault text (faults.Refused refusal) = RefusesText text refusal.number refusal.place
IsTextFault text (faults.Memory e) = Unit {0}

-- ---- what is settled at the front of a text while more of it may come: the tokens, and the first refusal, which no further byte can change

-- a number, text or word is settled once a byte follows it, a comma or delimiter at once
abbrev pub IsSettled : Token → List ℕ → Type 0
IsSettled (single kind place raw) rest = rest ≢ []
IsSettled comma rest = Unit {0}
IsSettled (opening square) rest = Unit {0}
IsSettled (closing place square) rest = Unit {0}

-- what is left of a text of this length begins with a settled token, and the rest comes after it
pub record FormsSettled (total : ℕ) (t : Token) (left rest : List ℕ) : Type 0 where
  pub forms : Forms total t left rest
  pub settled : IsSettled t rest

-- the bytes are settled tokens with white space before, between and after them, and then what is left
abbrev pub SettledFronts : ℕ → List ℕ → List Token → List ℕ → Type 0
SettledFronts total bytes [] left = IsAfterWhite bytes left
SettledFronts total bytes (t ∷ ts) left =
    (at rest : List ℕ) × IsAfterWhite bytes at × FormsSettled total t at rest
    × SettledFronts total rest ts left

-- a run is settled once what is left has a byte that it doesn't take
abbrev pub IsRunSettled : List ℕ → Type 0
IsRunSettled left = IsFalse (list_all is_run_byte left)

-- why nothing goes on after these tokens, whatever comes after what is left of a text of this length
abbrev pub IsSettledStop : Reason → ℕ → List Token → List ℕ → ℕ → Type 0
IsSettledStop BadCharacter total ts left skip = IsFlaw BadCharacter left skip
IsSettledStop BadNumber total ts left skip = IsFlaw BadNumber left skip × IsRunSettled left
IsSettledStop NumberRange total ts left skip = IsFlaw NumberRange left skip × IsRunSettled left
-- no more bytes make it well-formed
IsSettledStop NotUtf8 total ts left skip = IsFlaw NotUtf8 left skip
-- an open text may still be closed
IsSettledStop OpenText total ts left skip = ⊥
IsSettledStop Unexpected total ts left skip =
    (t : Token) × (rest : List ℕ) × FormsSettled total t left rest × ¬ (IsViable (ts ++ t ∷ []))
    × ¬ (IsTooDeep ts t) × (skip ≡ 0)
-- more may come
IsSettledStop UnexpectedEnd total ts left skip = ⊥
IsSettledStop TooDeep total ts left skip =
    (t : Token) × (rest : List ℕ) × FormsSettled total t left rest × IsTooDeep ts t × (skip ≡ 0)

-- the bytes are refused with this number at this place, whatever comes after them: the settled
-- tokens before are viable, and there it stops
pub record IsSettledRefusal (bytes : List ℕ) (number place : ℕ) : Type 0 where
  pub reason : Reason
  pub before : List Token
  pub left : List ℕ
  pub skip : ℕ
  pub fronts : SettledFronts (length bytes) bytes before left
  pub viable : IsViable before
  pub stop : IsSettledStop reason (length bytes) before left skip
  pub is_number : number ≡ reason_number reason
  pub is_place : place + length left ≡ length bytes + skip

-- nothing that is settled refuses the bytes: the settled tokens before are viable, and no refusal is settled
pub record IsTakenSoFar (bytes : List ℕ) : Type 0 where
  pub viable : (ts : List Token) (left : List ℕ) → SettledFronts (length bytes) bytes ts left → IsViable ts
  pub unrefused : (number place : ℕ) → ¬ (IsSettledRefusal bytes number place)

-- why a piece after these bytes isn't taken, and which bytes are held then: the refusal is settled, and was settled
-- before where the piece isn't held; out of memory, the bytes are as before, and nothing settled refuses them
abbrev pub IsPieceFault : List ℕ → List ℕ → List ℕ → Fault → Type 0
IsPieceFault bytes piece held (faults.Refused refusal) =
    IsSettledRefusal held refusal.number refusal.place × ((held ≡ bytes ++ piece) ⊎ (held ≡ bytes))
IsPieceFault bytes piece held (faults.Memory e) = (held ≡ bytes) × IsTakenSoFar bytes

-- where the fault is out of memory, nothing settled refuses the bytes
abbrev pub IsWantUnrefused : List ℕ → Fault → Type 0
IsWantUnrefused bytes (faults.Refused refusal) = Unit {0}
IsWantUnrefused bytes (faults.Memory e) = IsTakenSoFar bytes

-- ---- what is settled of VERTCRS["H"]x and of texts that begin like it
