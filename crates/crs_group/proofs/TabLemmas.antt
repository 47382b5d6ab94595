-- The first tab of a line, as it is searched for, and a test by two functions.
use Rattle.std.proofs.Common.{◌≡◌, ◌↔◌, ◌<◌, ◌∷◌, [], ℕ, Bool, IsTrue, zero, suc, List, Option, Some, None, MatchOption, false, sym, true, length, arith, refl, ◌==◌, slice_index}
use Rattle.std.proofs.lemmas.Bool.{false_from_ne_true}
use Rattle.bstr.specs.Find.{IsFirstByte, is_byte}
use Rattle.crs_group.specs.Names.{tab_at}

tab-here : (line : List ℕ) (at : ℕ) → at < length line → (slice_index line at == 9) ≡ true
    → ((k : ℕ) → k < at → ¬ ((slice_index line k == 9) ≡ true)) → tab_at line ≡ at
tab-here [] at within is before = absurd (omega arith)
tab-here (b ∷ line) zero within is before = rw is refl
tab-here (b ∷ line) (suc at) within is before =
    rw (false_from_ne_true (b == 9) (before 0 (omega arith)))
    (omega (arith, tab-here line at (omega arith) is (λ k l. before (suc k) (omega arith))))

tab-nowhere : (line : List ℕ) → ((k : ℕ) → k < length line → ¬ ((slice_index line k == 9) ≡ true)) → tab_at line ≡ length line
tab-nowhere [] none = refl
tab-nowhere (b ∷ line) none =
    rw (false_from_ne_true (b == 9) (none 0 (omega arith))) (omega (arith, tab-nowhere line (λ k l. none (suc k) (omega arith))))

pub tab_found : (line : List ℕ) (found : Option ℕ) → IsFirstByte (is_byte 9) line found
    → MatchOption found (tab_at line ≡ length line) (λ at. (tab_at line ≡ at) × (at < length line))
tab_found line None none = tab-nowhere line (λ k l. none k (omega arith) l)
tab_found line (Some at) (none, is) = (tab-here line at none.high is (λ k l. none.before k (omega arith) l), none.high)

-- two tests of one fact are the same
pub same_test : {P : Type 0} (one other : Bool) → IsTrue one ↔ P → (P → other ≡ true) → (other ≡ true → P) → one ≡ other
same_test true true is to from = refl
same_test true false is to from = sym (to (is.0 refl))
same_test false true is to from = is.1 (from refl)
same_test false false is to from = refl
