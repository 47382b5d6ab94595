-- From sixteen lanes to the length of a run, and what quoted ASCII is.
use Rattle.std.proofs.Common.{◌≡◌, ℕ, ◌+◌, ◌%◌, ◌^◌, ◌<◌, ◌≤◌, Bool, true, not, cond, eqb, List, [], ◌∷◌, ◌++◌, map, length, take, drop, Fits, w8, refl, sym, ap, ap₂, subst, ◌∙◌, arith, IsUtf8, get_or}
use Rattle.std.proofs.lemmas.Bool.{agree_below, agree_below_at, and_parts, ltb-true}
use Rattle.std.proofs.lemmas.Simd.{map-map, mask_l-mod, length-chunk, chunk-drop, first_set_mask_l}
use Rattle.std.proofs.lemmas.List.{length-map, length-drop, length-take, get_or-take, drop-drop}
use Rattle.std.proofs.lemmas.List.Folds.{prefix_len-append}
use Rattle.std.proofs.lemmas.List.Sums.{prefix_len-le-length, prefix_len_is, prefix_len_passes}
use Rattle.std.proofs.lemmas.Str.{IsUtf8-from_ascii}
use Rattle.std.proofs.lemmas.Str.Ascii.{IsAscii-from_all}
use Rattle.std.proofs.lemmas.Bool.Decides.{nat_tests}
use Rattle.std.proofs.lemmas.List.Elements.{All-from_get_or}
use Rattle.std.proofs.Math.Seq.{drop-cons}
use Rattle.std.specs.Str.{IsAscii}
use Rattle.std.specs.List.{prefix_len}
use lib.Lanes.{chunk, mask_l, top, Each1}
use Rattle.crs_text.specs.Tokens.{StopsAt, is_quote}
use Rattle.crs_text.specs.inner.Lexing.{IsShutAt}
use Rattle.crs_text.specs.inner.Runs.{is_plain, first_set, is_plain_ascii}
use Rattle.crs_text.proofs.tokens.QuotedLemmas.{shut_at, within_at}
use Rattle.crs_text.proofs.tokens.Utf8Lemmas.{IsUtf8-at_quote}

-- a quote comes first, and no other after it
abbrev pub IsClosing : List ℕ → Type 0
IsClosing bytes = (bytes ≡ 34 ∷ drop 1 bytes) × StopsAt is_quote (drop 1 bytes)

-- ---- lanes

same_run : (p q : ℕ → Bool) (v : List ℕ) → Each1 (Fits w8) v → agree_below p q 256 ≡ true → prefix_len p v ≡ prefix_len q v
same_run p q [] fits all = refl
same_run p q (x ∷ xs) fits all =
    ap₂ (λ b n. cond b (1 + n) 0) (agree_below_at p q 256 x all fits.0.fits) (same_run p q xs fits.1 all)

-- a lane is set just where q fails
pub counted : (q : ℕ → Bool) (f : ℕ → ℕ) (v : List ℕ) (r : ℕ) {z : List ℕ} → length v ≡ 16 → Each1 (Fits w8) v → z ≡ map f v
    → r ≡ first_set (mask_l (map (top 7) z) % 2 ^ 64) → agree_below (λ x. not (top 7 (f x))) q 256 ≡ true → r ≡ prefix_len q v
counted q f v r long fits lanes found all =
    let set : ℕ → Bool = λ x. top 7 (f x) in
    let mask = ap (λ l. mask_l l % 2 ^ 64) (ap (map (top 7)) lanes ∙ map-map (top 7) f v) ∙ mask_l-mod (map set v) 64 (omega (arith, length-map v set, long)) in
    found ∙ ap first_set mask ∙ first_set_mask_l set v 16 long (omega arith) ∙ same_run (λ x. not (set x)) q v fits all

-- ---- blocks

-- the bytes before this place are all of a run
abbrev pub IsRunTo : (ℕ → Bool) → List ℕ → ℕ → Type 0
IsRunTo q d at = (prefix_len q d ≡ at + prefix_len q (drop at d)) × (at ≤ length d)

split : (q : ℕ → Bool) (d : List ℕ) (at n : ℕ)
    → prefix_len q (drop at d) ≡ cond (eqb (prefix_len q (chunk at n d)) (length (chunk at n d))) (length (chunk at n d) + prefix_len q (drop (at + n) d)) (prefix_len q (chunk at n d))
split q d at n = ap (prefix_len q) (chunk-drop at n d) ∙ prefix_len-append q (chunk at n d) (drop (at + n) d)

pub run_stops : (q : ℕ → Bool) (d : List ℕ) (at n : ℕ) → at + n ≤ length d → prefix_len q (chunk at n d) < n → prefix_len q (drop at d) ≡ prefix_len q (chunk at n d)
run_stops q d at n room short = grind (arith, nat_tests, split q d at n, length-chunk at n d room)

-- a block in which the run ends, one that it passes, and what is left behind the last
module _ (q : ℕ → Bool) (d : List ℕ) (at count : ℕ) (before : IsRunTo q d at) where
  pub run_ends : at + 16 ≤ length d → count ≡ prefix_len q (chunk at 16 d) → count < 16 → at + count ≡ prefix_len q d
  run_ends room found short = omega (arith, run_stops q d at 16 room (omega (arith, found)), found, before.0)

  pub run_passes : at + 16 ≤ length d → count ≡ prefix_len q (chunk at 16 d) → 16 ≤ count → IsRunTo q d (at + 16)
  run_passes room found whole = (grind (arith, nat_tests, split q d at 16, length-chunk at 16 d room, prefix_len-le-length q (chunk at 16 d), before.0), omega arith)

  pub run_bound : (rest : List ℕ) → count ≡ prefix_len q rest → rest ≡ drop at d → at + count ≤ length d
  run_bound rest found e = omega (arith, found ∙ ap (prefix_len q) e, prefix_len-le-length q (drop at d), length-drop at d, before.1)

-- ---- what a narrower run ends

-- a run that ends where a wider one must is that one too
pub wider : (p q : ℕ → Bool) → ((b : ℕ) → p b ≡ true → q b ≡ true) → (xs : List ℕ) → StopsAt q (drop (prefix_len p xs) xs) → prefix_len p xs ≡ prefix_len q xs
wider p q is xs e =
    let n = prefix_len p xs in
    sym (prefix_len_is q xs n 0 (prefix_len-le-length p xs) (λ k lt. is (get_or xs k 0) (prefix_len_passes p xs k 0 lt)) (λ lt. subst (StopsAt q) (drop-cons xs n 0 lt) e))

-- ---- quoted ASCII

plain_is_ascii : (xs : List ℕ) → IsAscii (take (prefix_len is_plain_ascii xs) xs)
plain_is_ascii xs =
    let n = prefix_len is_plain_ascii xs in
    IsAscii-from_all (take n xs) (All-from_get_or (λ b. b < 128) (take n xs) 0 (λ k lt.
    let short : k < n = omega (arith, length-take n xs) in
    rw (get_or-take n xs k 0 short) (ltb-true _ 128 (and_parts _ _ (prefix_len_passes is_plain_ascii xs k 0 short)).1)))

-- the plain ASCII up to a closing quote is the inside of a quoted text
module _ (after : List ℕ) (n : ℕ) (is_length : n ≡ prefix_len is_plain_ascii after) (closing : IsClosing (drop n after)) where
  pub ascii_shut : IsShutAt after n
  ascii_shut =
      let lt : n < length after = within_at after _ 34 n closing.0 in
      let plain : n ≡ prefix_len is_plain after = is_length ∙ wider is_plain_ascii is_plain (λ b t. (and_parts _ _ t).0) after (rw (← is_length, closing.0) refl) in
      (shut_at after 0 n (omega arith) ([], refl) (omega (arith, plain)) lt (subst (StopsAt is_quote) (drop-drop 1 n after) closing.1), lt)

  pub ascii_utf8 : IsUtf8 (take n after ++ 34 ∷ [])
  ascii_utf8 = IsUtf8-at_quote (take n after) (IsUtf8-from_ascii (take n after) (subst (λ k. IsAscii (take k after)) (sym is_length) (plain_is_ascii after)))
