-- Where aliases are looked for: none is missed, and the first is met first.
use Rattle.std.proofs.Common.{◌≡◌, ◌≤◌, ◌+◌, ℕ, zero, suc, Bool, true, false, List, [], ◌∷◌, ◌++◌, Some, None, drop, take, length, refl, sym, ap, ◌∙◌, if◌then◌else◌, arith}
use Rattle.std.proofs.Math.Seq.{drop-length}
use Rattle.crs_value.specs.Sound.{Each}
use Rattle.crs_rules.specs.inner.Firsts.{AreFound, IsFound, IsNoted, place_of}
use Rattle.crs_rules.specs.Rules.{first_that}

module _ {A : Type 0} (digest : A → ℕ) where
  pub found-more : (before behind : List (ℕ × ℕ)) → ((d n : ℕ) → IsFound before d n → IsFound behind d n)
      → (at : ℕ) (xs : List A) → AreFound digest before at xs → AreFound digest behind at xs
  found-more before behind more at [] h = tt
  found-more before behind more at (x ∷ xs) h = (more (digest x) at h.0, found-more before behind more (suc at) xs h.1)

  found-append : (firsts : List (ℕ × ℕ)) (at end : ℕ) (xs : List A) (x : A) → end ≡ at + length xs
      → AreFound digest firsts at xs → IsFound firsts (digest x) end → AreFound digest firsts at (xs ++ x ∷ [])
  found-append firsts at end [] x e h k = (rw (let same : end ≡ at = omega arith in same) at k, tt)
  found-append firsts at end (y ∷ ys) x e h k = (h.0, found-append firsts (suc at) end ys x (omega arith) h.1 k)

  -- one more, which was noted
  pub found-noted : (before behind : List (ℕ × ℕ)) (xs : List A) (x : A) → AreFound digest before 0 xs
      → IsNoted (digest x) (length xs) before behind → AreFound digest behind 0 (xs ++ x ∷ [])
  found-noted before behind xs x h noted =
      found-append behind 0 (length xs) xs x (omega arith) (found-more before behind noted.1 0 xs h) noted.0

  pub found-take : (firsts : List (ℕ × ℕ)) (n at : ℕ) (xs : List A) → AreFound digest firsts at xs
      → AreFound digest firsts at (take n xs)
  found-take firsts zero at xs h = tt
  found-take firsts (suc n) at [] h = tt
  found-take firsts (suc n) at (x ∷ xs) h = (h.0, found-take firsts n (suc at) xs h.1)

  -- the places of what passes are kept under this digest
  module _ (test : A → Bool) (d : ℕ) (firsts : List (ℕ × ℕ)) where
    -- none of the first n passes, where no place is kept before the next
    passed-over : (at n : ℕ) (xs : List A) → Each (λ x. test x ≡ true → digest x ≡ d) xs → AreFound digest firsts at xs
        → ((k : ℕ) → place_of firsts d ≡ Some k → at + n ≤ k) → first_that test (drop n xs) ≡ first_that test xs
    passed-over at zero xs has found low = refl
    passed-over at (suc n) [] has found low = refl
    passed-over at (suc n) (x ∷ xs) has found low =
        passed-over (suc at) n xs has.1 found.1 (λ k e. omega (arith, low k e))
        ∙ sym (ap (λ b. if b then Some x else first_that test xs) (fails (test x) refl))
      where
        fails : (b : Bool) → test x ≡ b → b ≡ false
        fails true t = absurd (omega (arith, found.0.2, low found.0.0 (rw (has.0 t) at found.0.1)))
        fails false t = refl

    pub none-there : (xs : List A) → Each (λ x. test x ≡ true → digest x ≡ d) xs → AreFound digest firsts 0 xs
        → None ≡ place_of firsts d → None ≡ first_that test xs
    none-there xs has found none =
        rw drop-length at (passed-over 0 (length xs) xs has found (λ k e. absurd cc))

    -- else the first that passes isn't before the place that is kept
    pub from-first : (first : ℕ) (xs : List A) → Each (λ x. test x ≡ true → digest x ≡ d) xs → AreFound digest firsts 0 xs
        → Some first ≡ place_of firsts d → first_that test (drop first xs) ≡ first_that test xs
    from-first first xs has found is =
        passed-over 0 first xs has found (λ k e. let same : first ≡ k = cc in omega arith)
