-- Every text is a node or is refused, within its bytes.
use Rattle.std.proofs.Common.{◌≡◌, ◌≢◌, ℕ, zero, suc, ◌+◌, ◌-◌, ◌≤◌, List, [], ◌∷◌, ◌++◌, length, drop, Option, Some, None, refl, sym, ◌∙◌, arith, inl, inr, ◌⊎◌}
use Rattle.std.specs.List.{prefix_len}
use Rattle.std.proofs.lemmas.Bool.{cases_Bool}
use Rattle.crs_text.specs.Tokens.{Token, opening, is_white, Forms, IsAfterWhite, Fronts}
use Rattle.crs_text.specs.Items.{Item}
use Rattle.crs_text.specs.Viable.{IsViable}
use Rattle.crs_text.specs.inner.State.{start}
use Rattle.crs_text.specs.inner.Table.{Flat, flat_step, is_whole, Shows, flat}
use Rattle.crs_text.specs.declared.refusal.Reason.{Reason}
use Rattle.crs_text.specs.declared.refusal.Reason.TheVariants.{Unexpected, UnexpectedEnd, TooDeep}
use Rattle.crs_text.specs.declared.table.Progress.{Progress}
use Rattle.crs_text.specs.declared.table.Progress.TheVariants.{AfterWord}
use Rattle.crs_text.specs.TextFault.{SpellsNode, reason_number, IsFlaw, IsStop, RefusesText}
use Rattle.crs_text.proofs.tokens.TokenLemmas.{fronts_more, forms_shorter}
use Rattle.crs_text.proofs.rows.ShowsLemmas.{shows_start, viable_from_shows, shows_more, not_viable_from_shows, refused_from_shows, deep_from_shows, whole_from_shows, not_whole_from_shows}
use Rattle.crs_text.proofs.tokens.ScanLemmas.{stop_flaw, after_white, fronts_short}
use Rattle.crs_text.proofs.tokens.LeftLemmas.{DecidesNumbers, token_or_flaw}

abbrev pub IsEither : List ℕ → Type 0
IsEither bytes = ((item : Item) × SpellsNode bytes item) ⊎ ((n place : ℕ) × RefusesText bytes n place)

-- ---- where it stops

-- a token that the table doesn't take is one too many, or unexpected
abbrev pub IsMisplaced : ℕ → List Token → List ℕ → Type 0
IsMisplaced total ts left = (r : Reason) × IsStop r total ts left 0

misplaced : (total : ℕ) (ts : List Token) (left rest : List ℕ) (table : Flat) (t : Token) → Shows ts table → Forms total t left rest → flat_step table t ≡ None → IsMisplaced total ts left
misplaced total ts left rest table (opening square) shows f none = by table.progress refl
  where
    not : ¬ (IsViable (ts ++ opening square ∷ []))
    not = not_viable_from_shows ts table (opening square) shows none

    by : (progress : Progress) → table.progress ≡ progress → IsMisplaced total ts left
    by AfterWord e = (TooDeep, (opening square, rest, f, (deep_from_shows ts table square shows e, not), refl))
    by progress e = (Unexpected, (opening square, rest, f, not, λ deep. refused_from_shows ts table square shows (λ is_word. let h = sym is_word ∙ e in cc) deep.0, refl))
misplaced total ts left rest table t shows f none = (Unexpected, (t, rest, f, not_viable_from_shows ts table t shows none, λ h. h, refl))

-- ---- token by token

-- a result for each text, from what follows at its end, at a flaw and at a token; AreFronts says how the tokens before stand
module _ (bytes : List ℕ) (Result : Type 0) (AreFronts : List Token → List ℕ → Type 0) (first : (left : List ℕ) → IsAfterWhite bytes left → AreFronts [] left)
    (at_end : (ts : List Token) (table : Flat) → AreFronts ts [] → Shows ts table → Result)
    (at_flaw : (ts : List Token) (left : List ℕ) (table : Flat) (r : Reason) (k : ℕ) → left ≢ [] → length left ≤ length bytes → AreFronts ts left → Shows ts table → IsFlaw r left k → Result)
    (at_token : (ts : List Token) (left rest : List ℕ) (table : Flat) (t : Token) → left ≢ [] → length left ≤ length bytes → AreFronts ts left → Shows ts table → Forms (length bytes) t left rest
    → Result ⊎ ((IsMisplaced (length bytes) ts left → Result) × ((far : List ℕ) → IsAfterWhite rest far → AreFronts (ts ++ t ∷ []) far))) where
  -- what holds after some tokens with at most so many bytes left
  abbrev IsDecided : ℕ → Type 0
  IsDecided fuel = (ts : List Token) (left : List ℕ) (table : Flat) → length left ≤ fuel → length left ≤ length bytes → AreFronts ts left → Shows ts table → Result

  behind : (fuel : ℕ) → IsDecided fuel → (ts : List Token) (left rest : List ℕ) (table : Flat) (t : Token) → length left ≤ suc fuel → length left ≤ length bytes → Shows ts table
      → Forms (length bytes) t left rest → (IsMisplaced (length bytes) ts left → Result) → ((far : List ℕ) → IsAfterWhite rest far → AreFronts (ts ++ t ∷ []) far)
      → (o : Option Flat) → flat_step table t ≡ o → Result
  behind fuel next ts left rest table t short within shows f stop more None e = stop (misplaced (length bytes) ts left rest table t shows f e)
  behind fuel next ts left rest table t short within shows f stop more (Some g) e =
      let w = after_white rest (prefix_len is_white rest) refl in
      let far = drop (prefix_len is_white rest) rest in
      let lt = forms_shorter (length bytes) t left rest f in
      let le : length far ≤ length rest = fronts_short (length bytes) [] rest far w in
      next (ts ++ t ∷ []) far g (omega arith) (omega arith) (more far w) (shows_more ts table g t shows e)

  decided_from : DecidesNumbers → (fuel : ℕ) → IsDecided fuel
  decided_from decides fuel ts [] table short within fronts shows = at_end ts table fronts shows
  decided_from decides zero ts (b ∷ bs) table short within fronts shows = absurd (omega arith)
  decided_from decides (suc fuel) ts (b ∷ bs) table short within fronts shows =
      let some : (b ∷ bs) ≢ [] = λ e. absurd cc in
      elim (token_or_flaw decides (length bytes) b bs within) [
        | inl (t, rest, f) ↦ elim (at_token ts (b ∷ bs) rest table t some within fronts shows f) [
          | inl found ↦ found
          | inr (stop, more) ↦ behind fuel (decided_from decides fuel) ts (b ∷ bs) rest table t short within shows f stop more (flat_step table t) refl
        ]
        | inr (r, k, f) ↦ at_flaw ts (b ∷ bs) table r k some within fronts shows f
      ]

  pub decided : DecidesNumbers → Result
  decided decides =
      let w = after_white bytes (prefix_len is_white bytes) refl in
      let left = drop (prefix_len is_white bytes) bytes in
      let le : length left ≤ length bytes = fronts_short (length bytes) [] bytes left w in
      decided_from decides (length bytes) [] left (flat start) le le (first left w) shows_start

-- ---- a node, or refused

module _ (bytes : List ℕ) where
  refused : (reason : Reason) (ts : List Token) (left : List ℕ) (skip : ℕ) (table : Flat) → length left ≤ length bytes → Fronts (length bytes) bytes ts left → Shows ts table
      → IsStop reason (length bytes) ts left skip → IsEither bytes
  refused reason ts left skip table within fronts shows stop = inr (
    reason_number reason,
    length bytes + skip - length left,
    record {
      reason = reason;
      before = ts;
      left = left;
      skip = skip;
      fronts = fronts;
      viable = viable_from_shows ts table shows;
      stop = stop;
      is_number = refl;
      is_place = omega arith;
    },
  )

  at_end : (ts : List Token) (table : Flat) → Fronts (length bytes) bytes ts [] → Shows ts table → IsEither bytes
  at_end ts table fronts shows = elim (cases_Bool (is_whole table)) [
    | inl whole ↦ let w = whole_from_shows ts table shows whole in inl (w.0, (ts, fronts, w.1))
    | inr part ↦ refused UnexpectedEnd ts [] 0 table (omega arith) fronts shows (refl, not_whole_from_shows ts table shows part, refl)
  ]

-- each list of bytes is one node, or is refused with some number at some place
pub either : DecidesNumbers → (bytes : List ℕ) → ((item : Item) × SpellsNode bytes item) ⊎ ((n place : ℕ) × RefusesText bytes n place)
either decides bytes =
    decided bytes (IsEither bytes) (Fronts (length bytes) bytes) (λ left w. w) (at_end bytes)
    (λ ts left table r k some within fronts shows f. refused bytes r ts left k table within fronts shows (stop_flaw r (length bytes) ts left k f))
    (λ ts left rest table t some within fronts shows f.
    inr (λ m. refused bytes m.0 ts left 0 table within fronts shows m.1, λ far w. fronts_more (length bytes) ts bytes left rest far t fronts f w))
    decides
