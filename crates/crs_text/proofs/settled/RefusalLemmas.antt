-- Bytes have a settled refusal, or nothing settled refuses them.
use Rattle.std.proofs.Common.{◌≢◌, ℕ, ◌+◌, ◌-◌, ◌≤◌, List, [], ◌∷◌, length, refl, arith, inl, inr, ◌⊎◌}
use Rattle.std.specs.List.{list_all}
use Rattle.std.proofs.lemmas.Bool.{cases_Bool}
use Rattle.crs_decimal.specs.inner.Prelude.{is_run_byte}
use Rattle.crs_text.specs.Tokens.{Token, single}
use Rattle.crs_text.specs.inner.Table.{Flat, Shows}
use Rattle.crs_text.specs.declared.refusal.Reason.{Reason}
use Rattle.crs_text.specs.declared.refusal.Reason.TheVariants.{BadCharacter, BadNumber, NumberRange, NotUtf8}
use Rattle.crs_text.specs.TextFault.{reason_number, IsStop, IsSettled, SettledFronts, IsRunSettled, IsSettledRefusal, IsTakenSoFar}
use Rattle.crs_text.specs.inner.Feeding.{IsFlawSettled, IsUnsettled}
use Rattle.crs_text.proofs.tokens.QuotedLemmas.{true_not_false}
use Rattle.crs_text.proofs.rows.ShowsLemmas.{viable_from_shows}
use Rattle.crs_text.proofs.tokens.ScanLemmas.{stop_flaw}
use Rattle.crs_text.proofs.tokens.LeftLemmas.{DecidesNumbers}
use Rattle.crs_text.proofs.texts.AnswerLemmas.{decided}
use Rattle.crs_text.proofs.settled.StayLemmas.{taken_so_far}
use Rattle.crs_text.proofs.settled.FeedingLemmas.{AllSettled, token_all, flaw_all, settled_stop, token_held, flaw_held, nothing_held, fronts_more}

abbrev pub IsSettledEither : List ℕ → Type 0
IsSettledEither bytes = ((n place : ℕ) × IsSettledRefusal bytes n place) ⊎ IsTakenSoFar bytes

-- a byte follows the token where one is asked for, or doesn't
settled_or_not : (t : Token) (rest : List ℕ) → IsSettled t rest ⊎ ¬ (IsSettled t rest)
settled_or_not (single kind place raw) [] = inr (λ some. some refl)
settled_or_not (single kind place raw) (b ∷ bs) = inl (λ e. absurd cc)
settled_or_not t rest = inl tt

run_settled_or_not : (left : List ℕ) → IsRunSettled left ⊎ ¬ (IsRunSettled left)
run_settled_or_not left = elim (cases_Bool (list_all is_run_byte left)) [ inl e ↦ inr (true_not_false (list_all is_run_byte left) e) | inr e ↦ inl e ]

flaw_settled_or_not : (r : Reason) (left : List ℕ) → IsFlawSettled r left ⊎ ¬ (IsFlawSettled r left)
flaw_settled_or_not BadCharacter left = inl tt
flaw_settled_or_not BadNumber left = run_settled_or_not left
flaw_settled_or_not NumberRange left = run_settled_or_not left
flaw_settled_or_not NotUtf8 left = inl tt
flaw_settled_or_not r left = inr (λ s. s)

module _ (bytes : List ℕ) where
  refused : (reason : Reason) (ts : List Token) (left : List ℕ) (skip : ℕ) (table : Flat) → left ≢ [] → length left ≤ length bytes → SettledFronts (length bytes) bytes ts left → Shows ts table
      → AllSettled (length bytes) left → IsStop reason (length bytes) ts left skip → IsSettledEither bytes
  refused reason ts left skip table some within fronts shows all stop = inl (
    reason_number reason,
    length bytes + skip - length left,
    record {
      reason = reason;
      before = ts;
      left = left;
      skip = skip;
      fronts = fronts;
      viable = viable_from_shows ts table shows;
      stop = settled_stop (length bytes) left reason ts skip all some stop;
      is_number = refl;
      is_place = omega arith;
    },
  )

  held : (ts : List Token) (left : List ℕ) (table : Flat) → SettledFronts (length bytes) bytes ts left → Shows ts table → IsUnsettled (length bytes) ts left → IsSettledEither bytes
  held ts left table fronts shows h = inr (taken_so_far bytes ts left fronts (viable_from_shows ts table shows) h)

pub settled_either : DecidesNumbers → (bytes : List ℕ) → IsSettledEither bytes
settled_either decides bytes =
    decided bytes (IsSettledEither bytes) (SettledFronts (length bytes) bytes) (λ left w. w)
    (λ ts table fronts shows. held bytes ts [] table fronts shows (nothing_held (length bytes) ts [] refl))
    (λ ts left table r k some within fronts shows f. elim (flaw_settled_or_not r left) [
      | inl s ↦ refused bytes r ts left k table some within fronts shows (flaw_all (length bytes) left r k f s) (stop_flaw r (length bytes) ts left k f)
      | inr not ↦ held bytes ts left table fronts shows (flaw_held (length bytes) left ts r k f not)
    ])
    (λ ts left rest table t some within fronts shows f. elim (settled_or_not t rest) [
      | inl s ↦ inr (
        λ m. refused bytes m.0 ts left 0 table some within fronts shows (token_all (length bytes) left t rest f s) m.1,
        λ far w. fronts_more (length bytes) ts bytes left rest far t fronts (record { forms = f; settled = s }) w,
      )
      | inr not ↦ inl (held bytes ts left table fronts shows (token_held (length bytes) left ts t rest f not))
    ])
    decides
