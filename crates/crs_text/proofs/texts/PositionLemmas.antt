-- The line in which a place of a text is.
use Rattle.std.proofs.Common.{◌≡◌, ℕ, suc, ◌+◌, ◌≤◌, ◌<◌, ◌==◌, true, cond, inl, inr, List, [], ◌∷◌, length, get_or, take, drop, refl, sym, ap, ◌∙◌, append_assoc, arith}
use Rattle.std.proofs.lemmas.Bool.{cases_Bool}
use Rattle.std.proofs.lemmas.List.{length-take, length-drop, take-append-drop, get_or-take, get_or-drop}
use Rattle.std.proofs.lemmas.List.Sums.{sum_by-append}
use Rattle.crs_text.specs.Position.{feeds, characters, BeginsLine, EndsLine, IsPosition}
use Rattle.crs_text.specs.declared.position.Position.{Position}

-- no line feed at any place, so none among the bytes
pub no_feed : (bytes : List ℕ) → ((k : ℕ) → k < length bytes → (get_or bytes k 0 == 10) ≡ true → ⊥) → feeds bytes ≡ 0
no_feed [] none = refl
no_feed (b ∷ bs) none = elim (cases_Bool (b == 10)) [
  | inl found ↦ absurd (none 0 (omega arith) found)
  | inr other ↦
      let rest : feeds bs ≡ 0 = no_feed bs (λ k lt e. none (suc k) (omega arith) e) in
      rw (other, rest) refl
]

-- none from here on
pub none_behind : (bytes : List ℕ) (n : ℕ) → ((k : ℕ) → n ≤ k → k < length bytes → (get_or bytes k 0 == 10) ≡ true → ⊥) → feeds (drop n bytes) ≡ 0
none_behind bytes n none =
    no_feed (drop n bytes) (λ k lt e. none (n + k) (omega arith) (omega (arith, length-drop n bytes)) (ap (λ z. z == 10) (sym (get_or-drop n bytes k 0)) ∙ e))

-- none up to here
pub none_before : (bytes : List ℕ) (n : ℕ) → n ≤ length bytes → ((k : ℕ) → k < n → (get_or bytes k 0 == 10) ≡ true → ⊥) → feeds (take n bytes) ≡ 0
none_before bytes n le none =
    no_feed (take n bytes) (λ k lt e. let short : k < n = omega (arith, length-take n bytes) in none k short (ap (λ z. z == 10) (sym (get_or-take n bytes k 0 short)) ∙ e))

-- the four parts of a text around a place
pub position : (text : List ℕ) (place begin n : ℕ) (p : Position) → place ≤ length text → begin ≤ length (take place text)
    → BeginsLine (take begin (take place text)) → feeds (drop begin (take place text)) ≡ 0
    → n ≤ length (drop place text) → feeds (take n (drop place text)) ≡ 0 → EndsLine (drop n (drop place text))
    → p.line ≡ 1 + feeds (take begin (take place text)) → p.column ≡ 1 + characters (drop begin (take place text)) → p.begin ≡ begin → p.end ≡ place + n → IsPosition text place p
position text place begin n p le within begins left short right ends line column is_begin is_end =
    let front = take place text in
    let behind = drop place text in
    record {
      before = take begin front;
      left = drop begin front;
      right = take n behind;
      after = drop n behind;
      parts = rw (take-append-drop n behind, ← append_assoc (take begin front) (drop begin front) behind, take-append-drop begin front, take-append-drop place text);
      is_place = omega (arith, length-take begin front, length-drop begin front, length-take place text);
      begins = begins;
      one_line = sum_by-append (λ b. cond (b == 10) 1 0) (drop begin front) (take n behind) ∙ omega (arith, left, right);
      ends = ends;
      is_line = line;
      is_column = column;
      is_begin = omega (arith, is_begin, length-take begin front, within);
      is_end = omega (arith, is_end, length-take n behind, short);
    }
