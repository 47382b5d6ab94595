-- The worked texts of which a part is settled.
use Rattle.std.proofs.Common.{◌≡◌, ℕ, ◌+◌, Some, None, true, false, codes, List, [], ◌∷◌, ◌++◌, length, refl, arith, IsUtf8}
use Rattle.crs_text.specs.Tokens.{is_quote, Token, single, comma, opening, closing, is_white}
use Rattle.crs_text.specs.Tokens as tokens
use Rattle.crs_text.specs.inner.State.{State, start, step, run}
use Rattle.crs_text.specs.TextFault.{IsTooDeep, FormsSettled, SettledFronts, IsSettledRefusal, IsTakenSoFar}
use Rattle.crs_text.specs.declared.refusal.Reason.TheVariants.{BadCharacter, Unexpected}
use Rattle.crs_text.specs.inner.Examples.{begun}
use Rattle.crs_text.proofs.tokens.TokenLemmas.{at_once}
use Rattle.crs_text.proofs.tokens.ViableLemmas.{viable_from_run}
use Rattle.crs_text.proofs.tokens.AllowedLemmas.{not_viable_from_none}
use Rattle.crs_text.proofs.settled.StayLemmas.{taken_so_far}
use Rattle.crs_text.proofs.settled.FeedingLemmas.{fronts_more, token_held, run_held}

-- VERTCRS[
abbrev opened : List Token
opened = single tokens.word 0 (codes "VERTCRS") ∷ opening true ∷ []

-- and the name "H" after it
abbrev with_name : List Token
with_name = opened ++ single tokens.text 8 (codes "H") ∷ []

name_utf8 : IsUtf8 (codes "H")
unfolding lib.Utf8.encode
name_utf8 = (codes "H", (refl, refl))

opened_fronts : (bs : List ℕ) → SettledFronts (length (codes "VERTCRS[" ++ 34 ∷ bs)) (codes "VERTCRS[" ++ 34 ∷ bs) opened (34 ∷ bs)
opened_fronts bs = (
  codes "VERTCRS[" ++ 34 ∷ bs,
  91 ∷ 34 ∷ bs,
  at_once (codes "VERTCRS[" ++ 34 ∷ bs) refl,
  record { forms = record { spelled = refl; formed = (refl, refl); ends = refl; placed = omega arith }; settled = λ e. absurd cc },
  (
    91 ∷ 34 ∷ bs,
    34 ∷ bs,
    at_once (91 ∷ 34 ∷ bs) refl,
    record { forms = record { spelled = refl; formed = tt; ends = tt; placed = tt }; settled = tt },
    at_once (34 ∷ bs) refl,
  ),
)

name_forms : (b : ℕ) (bs : List ℕ) → is_quote b ≡ false → FormsSettled (length (begun ++ b ∷ bs)) (single tokens.text 8 (codes "H")) (34 ∷ 72 ∷ 34 ∷ b ∷ bs) (b ∷ bs)
name_forms b bs other = record {
  forms = record { spelled = refl; formed = ((codes "H", refl), name_utf8); ends = other; placed = omega arith };
  settled = λ e. absurd cc;
}

named_fronts : (b : ℕ) (bs : List ℕ) → is_white b ≡ false → is_quote b ≡ false → SettledFronts (length (begun ++ b ∷ bs)) (begun ++ b ∷ bs) with_name (b ∷ bs)
named_fronts b bs dark other =
    fronts_more (length (begun ++ b ∷ bs)) opened (begun ++ b ∷ bs) (34 ∷ 72 ∷ 34 ∷ b ∷ bs) (b ∷ bs) (b ∷ bs) (single tokens.text 8 (codes "H")) (opened_fronts (72 ∷ 34 ∷ b ∷ bs)) (name_forms b bs other) (at_once (b ∷ bs) dark)

-- VERTCRS["H"]
closed_fronts : (b : ℕ) (bs : List ℕ) → is_white b ≡ false → SettledFronts (length (begun ++ 93 ∷ b ∷ bs)) (begun ++ 93 ∷ b ∷ bs) (with_name ++ closing 11 true ∷ []) (b ∷ bs)
closed_fronts b bs dark =
    fronts_more (length (begun ++ 93 ∷ b ∷ bs)) with_name (begun ++ 93 ∷ b ∷ bs) (93 ∷ b ∷ bs) (b ∷ bs) (b ∷ bs) (closing 11 true) (named_fronts 93 (b ∷ bs) refl refl)
    (record { forms = record { spelled = refl; formed = tt; ends = tt; placed = omega arith }; settled = tt }) (at_once (b ∷ bs) dark)

-- VERTCRS["H",
listed_fronts : (b : ℕ) (bs : List ℕ) → is_white b ≡ false → SettledFronts (length (begun ++ 44 ∷ b ∷ bs)) (begun ++ 44 ∷ b ∷ bs) (with_name ++ comma ∷ []) (b ∷ bs)
listed_fronts b bs dark =
    fronts_more (length (begun ++ 44 ∷ b ∷ bs)) with_name (begun ++ 44 ∷ b ∷ bs) (44 ∷ b ∷ bs) (b ∷ bs) (b ∷ bs) comma (named_fronts 44 (b ∷ bs) refl refl)
    (record { forms = record { spelled = refl; formed = tt; ends = tt; placed = tt }; settled = tt }) (at_once (b ∷ bs) dark)

pub name_so_far : IsTakenSoFar begun
name_so_far =
    taken_so_far begun opened (34 ∷ 72 ∷ 34 ∷ []) (opened_fronts (72 ∷ 34 ∷ [])) (viable_from_run opened _ refl)
    (token_held 11 (34 ∷ 72 ∷ 34 ∷ []) opened (single tokens.text 8 (codes "H")) []
    (record { spelled = refl; formed = ((codes "H", refl), name_utf8); ends = tt; placed = refl }) (λ some. some refl))

pub word_so_far : IsTakenSoFar (begun ++ codes "]x")
word_so_far =
    taken_so_far (begun ++ codes "]x") (with_name ++ closing 11 true ∷ []) (codes "x") (closed_fronts 120 [] refl) (viable_from_run (with_name ++ closing 11 true ∷ []) _ refl)
    (token_held 13 (codes "x") (with_name ++ closing 11 true ∷ []) (single tokens.word 12 (codes "x")) []
    (record { spelled = refl; formed = (refl, refl); ends = tt; placed = refl }) (λ some. some refl))

pub run_so_far : IsTakenSoFar (begun ++ codes ",1")
run_so_far =
    taken_so_far (begun ++ codes ",1") (with_name ++ comma ∷ []) (codes "1") (listed_fronts 49 [] refl) (viable_from_run (with_name ++ comma ∷ []) _ refl)
    (run_held (codes "1") (refl, refl) 13 (omega arith) (with_name ++ comma ∷ []))

-- a settled token that the state after those before it doesn't take
unexpected : (bytes : List ℕ) (before : List Token) (left rest : List ℕ) (t : Token) (place : ℕ) (s : State) → SettledFronts (length bytes) bytes before left → run 12 start before ≡ Some s
    → FormsSettled (length bytes) t left rest → step 12 s t ≡ None → ¬ (IsTooDeep before t) → place + length left ≡ length bytes + 0 → IsSettledRefusal bytes 6 place
unexpected bytes before left rest t place s fronts e f none few at = record {
  reason = Unexpected;
  before = before;
  left = left;
  skip = 0;
  fronts = fronts;
  viable = viable_from_run before s e;
  stop = (t, rest, f, not_viable_from_none before s t e none, few, refl);
  is_number = refl;
  is_place = at;
}

pub word_refused : IsSettledRefusal (begun ++ codes "]x ") 6 12
word_refused =
    unexpected (begun ++ codes "]x ") (with_name ++ closing 11 true ∷ []) (codes "x ") (32 ∷ []) (single tokens.word 12 (codes "x")) 12 _ (closed_fronts 120 (32 ∷ []) refl) refl
    (record { forms = record { spelled = refl; formed = (refl, refl); ends = refl; placed = refl }; settled = λ e. absurd cc }) refl (λ deep. deep) refl

pub closing_refused : IsSettledRefusal (begun ++ codes ",]") 6 12
closing_refused =
    unexpected (begun ++ codes ",]") (with_name ++ comma ∷ []) (codes "]") [] (closing 12 true) 12 _ (listed_fronts 93 [] refl) refl
    (record { forms = record { spelled = refl; formed = tt; ends = tt; placed = refl }; settled = tt }) refl (λ deep. deep) refl

pub character_refused : IsSettledRefusal (begun ++ codes "#") 1 11
character_refused = record {
  reason = BadCharacter;
  before = with_name;
  left = codes "#";
  skip = 0;
  fronts = named_fronts 35 [] refl refl;
  viable = viable_from_run with_name _ refl;
  stop = (refl, refl);
  is_number = refl;
  is_place = refl;
}
