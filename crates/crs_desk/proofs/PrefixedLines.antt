-- Lines after a prefix, line by line.
use Rattle.std.proofs.Common.{◌≡◌, ◌∙◌, ◌++◌, ◌∷◌, ◌≤◌, [], ℕ, zero, suc, List, Bool, true, false, length, take, drop, ap, ap₂, arith, append_assoc, refl, sym, length-drop, inl, inr, ◌==◌, if◌then◌else◌}
use Rattle.std.specs.List.{flat_map}
use Rattle.std.proofs.lemmas.Bool.{cases_Bool}
use Rattle.bstr.specs.Text.{line_len, lines_of}
use Rattle.bstr.proofs.lemmas.LineLemmas.{line_len-bounds, lines-nil, lines-step}
use Rattle.crs_desk.specs.LinesRun.{PrefixParts, begun, prefixed, prefixed_from}

abbrev pub behind_prefix : PrefixParts → List ℕ → List ℕ
behind_prefix prefix line = prefix.bytes ++ (if prefix.in_object then drop 1 line else line)

-- the rest of a line, and what follows it
line-goes-on : (prefix : PrefixParts) (bytes : List ℕ)
    → prefixed_from false prefix bytes ≡ take (line_len bytes) bytes ++ prefixed prefix (drop (line_len bytes) bytes)
unfolding line_len
line-goes-on prefix [] = refl
line-goes-on prefix (b ∷ bytes) = elim (cases_Bool (b == 10)) [
  | inl is ↦ rw is refl
  | inr other ↦ rw other (ap (λ l. b ∷ l) (line-goes-on prefix bytes))
]

begun-line : (prefix : PrefixParts) (b : ℕ) (line more : List ℕ)
    → begun prefix b ++ (line ++ more) ≡ behind_prefix prefix (b ∷ line) ++ more
begun-line prefix b line more = elim (cases_Bool prefix.in_object) [
  | inl is ↦ rw is (simp append_assoc refl)
  | inr other ↦ rw other (simp append_assoc refl)
]

line-first : (prefix : PrefixParts) (b : ℕ) (bytes : List ℕ)
    → let all : List ℕ = b ∷ bytes in prefixed prefix all ≡ behind_prefix prefix (take (line_len all) all) ++ prefixed prefix (drop (line_len all) all)
unfolding line_len
line-first prefix b bytes = elim (cases_Bool (b == 10)) [
  | inl is ↦ rw is (begun-line prefix b [] (prefixed prefix bytes))
  | inr other ↦ rw other (ap (λ l. begun prefix b ++ l) (line-goes-on prefix bytes)
      ∙ begun-line prefix b (take (line_len bytes) bytes) (prefixed prefix (drop (line_len bytes) bytes)))
]

within : (prefix : PrefixParts) (n : ℕ) (bytes : List ℕ) → length bytes ≤ n
    → flat_map (behind_prefix prefix) (lines_of bytes) ≡ prefixed prefix bytes
within prefix n [] fits = rw lines-nil refl
within prefix zero (b ∷ bytes) fits = absurd (omega arith)
within prefix (suc n) (b ∷ bytes) fits =
    let all : List ℕ = b ∷ bytes in
    let long = line_len-bounds all (omega arith) in
    rw (lines-step all (omega arith))
    (ap (λ l. behind_prefix prefix (take (line_len all) all) ++ l)
    (within prefix n (drop (line_len all) all) (omega (arith, length-drop (line_len all) all, long.0, long.1, fits)))
    ∙ sym (line-first prefix b bytes))

-- the lines of some bytes, one after another, each behind the prefix
pub prefixed_lines : (prefix : PrefixParts) (bytes : List ℕ)
    → flat_map (behind_prefix prefix) (lines_of bytes) ≡ prefixed prefix bytes
prefixed_lines prefix bytes = within prefix (length bytes) bytes (omega arith)

-- nothing stands before them
unprefixed-from : (begins : Bool) (prefix : PrefixParts) (bytes : List ℕ) → prefix.bytes ≡ [] → prefix.in_object ≡ false
    → prefixed_from begins prefix bytes ≡ bytes
unprefixed-from begins prefix [] none lines = refl
unprefixed-from true prefix (b ∷ bytes) none lines =
    ap₂ (λ front own. (front ++ (if own then [] else b ∷ [])) ++ prefixed_from (b == 10) prefix bytes) none lines
    ∙ ap (λ l. b ∷ l) (unprefixed-from (b == 10) prefix bytes none lines)
unprefixed-from false prefix (b ∷ bytes) none lines = ap (λ l. b ∷ l) (unprefixed-from (b == 10) prefix bytes none lines)

pub unprefixed : (prefix : PrefixParts) (bytes : List ℕ) → prefix.bytes ≡ [] → prefix.in_object ≡ false → prefixed prefix bytes ≡ bytes
unprefixed prefix bytes = unprefixed-from true prefix bytes
