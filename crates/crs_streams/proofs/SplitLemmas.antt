-- The first line feed among bytes, as it is searched for.
use Rattle.std.proofs.Common.{◌≡◌, ◌+◌, ◌-◌, ◌<◌, ◌++◌, ◌∷◌, [], ℕ, zero, suc, List, Some, None, true, length, take, drop, refl, arith, length-drop, ◌==◌, slice_index}
use Rattle.std.proofs.lemmas.Bool.{eqb-true, false_from_ne_true}
use Rattle.std.proofs.lemmas.List.{take_all}
use Rattle.std.proofs.lemmas.List.Folds.{list_all-append}
use Rattle.bstr.specs.Find.{IsFirstByte, is_byte}
use Rattle.crs_streams.specs.Lines.{HasNoFeed, IsSplit}
use Rattle.crs_streams.proofs.LineLemmas.{feed-more, head-tail}

pub plain-append : (a b : List ℕ) → HasNoFeed a → HasNoFeed b → HasNoFeed (a ++ b)
plain-append a b p q = rw (list_all-append, p, q) refl

-- the first feed, as it is searched for
nowhere-plain : (bytes : List ℕ) → ((k : ℕ) → k < length bytes → ¬ ((slice_index bytes k == 10) ≡ true)) → HasNoFeed bytes
nowhere-plain [] none = refl
nowhere-plain (b ∷ bs) none =
    feed-more b bs (false_from_ne_true (b == 10) (none 0 (omega arith))) (nowhere-plain bs (λ k l. none (suc k) (omega arith)))

split-at : (bytes : List ℕ) (at : ℕ) → at < length bytes → (slice_index bytes at == 10) ≡ true
    → ((k : ℕ) → k < at → ¬ ((slice_index bytes k == 10) ≡ true))
    → IsSplit bytes (take at bytes) (drop (suc at) bytes)
split-at [] at within is before = absurd (omega arith)
split-at (b ∷ bs) zero within is before = (head-tail (eqb-true b 10 is) refl, refl)
split-at (b ∷ bs) (suc at) within is before =
    let further = split-at bs at (omega arith) is (λ k l. before (suc k) (omega arith)) in (
      head-tail refl further.0,
      feed-more b (take at bs) (false_from_ne_true (b == 10) (before 0 (omega arith))) further.1,
    )

split-found : (bytes : List ℕ) (at : ℕ) → IsFirstByte (is_byte 10) bytes (Some at)
    → IsSplit bytes (take at bytes) (drop (suc at) bytes)
split-found bytes at (none, is) = split-at bytes at none.high is (λ k l. none.before k (omega arith) l)

-- as the code cuts them
pub split-sliced : (bytes : List ℕ) (at : ℕ) → IsFirstByte (is_byte 10) bytes (Some at)
    → IsSplit bytes (take at bytes) (take (length bytes - (at + 1)) (drop (at + 1) bytes))
split-sliced bytes at found =
    let next : at + 1 ≡ suc at = omega arith in
    rw (take_all (length bytes - (at + 1)) (drop (at + 1) bytes) (omega (arith, length-drop (at + 1) bytes)), next)
    (split-found bytes at found)

pub split-none : (bytes : List ℕ) → IsFirstByte (is_byte 10) bytes None → HasNoFeed bytes
split-none bytes none = nowhere-plain bytes (λ k l. none k (omega arith) l)
