-- Laws of the fronts of bytes that are well-formed UTF-8.
use Rattle.std.proofs.Common.{◌≡◌, ℕ, zero, suc, ◌+◌, ◌-◌, ◌<◌, ◌≤◌, List, [], ◌∷◌, ◌++◌, length, take, drop, Some, None, refl, sym, ap, subst, ◌∙◌, inl, inr, arith, IsUtf8, append_assoc, append-nil, length-append, length-drop, take-append-drop, take_at, take-add, drop_at, take_all}
use Rattle.std.proofs.lemmas.Bool.{cases_lt}
use Rattle.std.proofs.lemmas.List.{take-append-le, get_or_at, drop-append-le}
use Rattle.std.proofs.lemmas.Str.{IsUtf8-append, IsUtf8-take, IsUtf8-drop, IsCharBoundary-before_ascii, IsCharBoundary-from_take}
use Rattle.std.specs.Str.{IsValidUpTo}
use Rattle.std.specs.Str.Lossy.{utf8_error_len}
use Rattle.std.proofs.str.Valid.{longer}
use Rattle.crs_text.proofs.tokens.Utf8CutLemmas.{HasNoFront, completion, not_completed, IsCut-from_error_len, error_len_from_IsCut}
use Rattle.crs_text.specs.Tokens.{IsUtf8Front, IsLongestUtf8}

-- an ASCII byte is in no sequence but its own
pub IsUtf8-before_ascii : (raw rest : List ℕ) (b : ℕ) → b < 128 → IsUtf8 (raw ++ b ∷ rest) → IsUtf8 raw
IsUtf8-before_ascii raw rest b low u =
    let at = get_or_at raw b rest 0 (length raw) refl in
    let cut = IsCharBoundary-before_ascii (raw ++ b ∷ rest) (length raw) (omega (arith, length-append raw (b ∷ rest))) (omega arith) in
    subst IsUtf8 (take_at raw (b ∷ rest) (length raw) refl) (IsUtf8-take _ (length raw) u cut)

pub IsUtf8-before_quote : (raw rest : List ℕ) → IsUtf8 (raw ++ 34 ∷ rest) → IsUtf8 raw
IsUtf8-before_quote raw rest u = IsUtf8-before_ascii raw rest 34 (omega arith) u

pub IsUtf8-at_quote : (raw : List ℕ) → IsUtf8 raw → IsUtf8 (raw ++ 34 ∷ [])
unfolding lib.Utf8.encode
IsUtf8-at_quote raw u = IsUtf8-append raw (34 ∷ []) u (34 ∷ [], (refl, refl))

-- ---- fronts
pub IsUtf8Front-from : (bytes : List ℕ) → IsUtf8 bytes → IsUtf8Front bytes
IsUtf8Front-from bytes u = ([], rw append-nil u)

pub IsUtf8Front-shorter : (a b : List ℕ) → IsUtf8Front (a ++ b) → IsUtf8Front a
IsUtf8Front-shorter a b f = (b ++ f.0, rw (← append_assoc a b f.0) f.1)

pub not-IsUtf8Front-before_quote : (raw : List ℕ) → ¬ (IsUtf8 raw) → ¬ (IsUtf8Front (raw ++ 34 ∷ []))
not-IsUtf8Front-before_quote raw ill f = ill (IsUtf8-before_quote raw f.0 (rw append_assoc at f.1))

-- at a closing quote nothing is cut
pub IsUtf8-from_front_at_quote : (raw : List ℕ) → IsUtf8Front (raw ++ 34 ∷ []) → IsUtf8 (raw ++ 34 ∷ [])
IsUtf8-from_front_at_quote raw f = IsUtf8-at_quote raw (IsUtf8-before_quote raw f.0 (rw append_assoc at f.1))

-- after the longest front no further one begins
HasNoFront-behind : (bytes : List ℕ) (n : ℕ) → IsValidUpTo bytes n → HasNoFront (drop n bytes)
HasNoFront-behind bytes n v w some u = v.longest (n + w) (omega arith) (longer bytes n w v.front u)

-- bytes that end within a sequence are a front
pub IsUtf8Front-cut : (bytes : List ℕ) (n : ℕ) → IsValidUpTo bytes n → utf8_error_len (drop n bytes) ≡ None → IsUtf8Front bytes
IsUtf8Front-cut bytes n v e =
    let rest = drop n bytes in
    let some : 0 < length rest = omega (arith, length-drop n bytes) in
    let done = completion rest (IsCut-from_error_len rest some e) (HasNoFront-behind bytes n v) in
    let whole = IsUtf8-append (take n bytes) (rest ++ done.0) v.front done.1 in
    (done.0, subst IsUtf8 (sym (append_assoc (take n bytes) rest done.0) ∙ ap (λ l. l ++ done.0) (take-append-drop n bytes)) whole)

-- where an error has a length, no bytes mend it
pub not-IsUtf8Front : (bytes : List ℕ) (n k : ℕ) → IsValidUpTo bytes n → utf8_error_len (drop n bytes) ≡ Some k → ¬ (IsUtf8Front bytes)
not-IsUtf8Front bytes n k v e f =
    let rest = drop n bytes in
    let le : n ≤ length bytes = omega arith in
    let all = bytes ++ f.0 in
    let some : 0 < length rest = omega (arith, length-drop n bytes) in
    let front : IsUtf8 (take n all) = rw (take-append-le n bytes f.0 le) v.front in
    let cut = IsCharBoundary-from_take all n f.1 (omega (arith, length-append bytes f.0)) front in
    let back : IsUtf8 (rest ++ f.0) = subst IsUtf8 (drop-append-le n bytes f.0 le) (IsUtf8-drop all n f.1 cut) in
    not_completed rest f.0 some (HasNoFront-behind bytes n v) (λ c. let none = error_len_from_IsCut rest c in cc) back

-- ---- the longest front

pub IsLongestUtf8-from : (bytes : List ℕ) (n : ℕ) → IsValidUpTo bytes n → IsLongestUtf8 bytes n
IsLongestUtf8-from bytes n v = record {
  within = omega arith;
  well_formed = v.front;
  longest = λ m _ u. elim (cases_lt n m) [ inl more ↦ absurd (v.longest m more u) | inr le ↦ le ];
}

-- m bytes of a list with more after it, where m reaches past its end
take_over : (bytes more : List ℕ) (m : ℕ) → length bytes ≤ m → take m (bytes ++ more) ≡ bytes ++ take (m - length bytes) more
take_over bytes more m le =
    let n = length bytes in
    let split : m ≡ n + (m - n) = omega arith in
    ap (λ k. take k (bytes ++ more)) split ∙ take-add n (m - n) (bytes ++ more)
    ∙ (λ i. take_at bytes more n refl i ++ take (m - n) (drop_at bytes more n refl i))

-- where no front that reaches over the bytes is UTF-8, their longest stays
longest_stays : (bytes more : List ℕ) (n : ℕ) → ((m : ℕ) → ¬ (IsUtf8 (bytes ++ take m more))) → IsLongestUtf8 bytes n → IsLongestUtf8 (bytes ++ more) n
longest_stays bytes more n ill p = record {
  within = omega (arith, p.within, length-append bytes more);
  well_formed = rw (take-append-le n bytes more p.within) p.well_formed;
  longest = λ m _ u. elim (cases_lt m (length bytes)) [
    | inl lt ↦ p.longest m (omega arith) (rw (take-append-le m bytes more (omega arith)) at u)
    | inr le ↦ absurd (ill (m - length bytes) (rw (take_over bytes more m le) at u))
  ];
}

pub IsLongestUtf8-longer : (bytes more : List ℕ) (n : ℕ) → ¬ (IsUtf8Front bytes) → IsLongestUtf8 bytes n → IsLongestUtf8 (bytes ++ more) n
IsLongestUtf8-longer bytes more n ill = longest_stays bytes more n (λ m u. ill (take m more, u))

pub not-IsUtf8 : (bytes : List ℕ) (n : ℕ) → IsValidUpTo bytes n → ¬ (IsUtf8 bytes)
not-IsUtf8 bytes n v u = v.longest (length bytes) v.short (rw (take_all (length bytes) bytes (omega arith)) u)

-- the same under a closing quote
pub IsLongestUtf8-before_quote : (raw rest : List ℕ) (n : ℕ) → IsValidUpTo raw n → IsLongestUtf8 (raw ++ 34 ∷ rest) n
IsLongestUtf8-before_quote raw rest n v = longest_stays raw (34 ∷ rest) n over (IsLongestUtf8-from raw n v)
  where
    over : (m : ℕ) → ¬ (IsUtf8 (raw ++ take m (34 ∷ rest)))
    over zero u = not-IsUtf8 raw n v (rw append-nil at u)
    over (suc m) u = not-IsUtf8 raw n v (IsUtf8-before_quote raw (take m rest) u)
