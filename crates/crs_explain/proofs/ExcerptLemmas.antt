-- The piece of a line at a place, put together.
use Rattle.std.proofs.Common.{◌≡◌, ℕ, ◌+◌, ◌-◌, ◌==◌, true, cond, List, ◌++◌, codes, length, take, drop, refl, sym, ap, ◌∙◌, append_assoc, arith}
use Rattle.std.proofs.lemmas.Bool.{eq-eqb}
use Rattle.std.proofs.lemmas.List.{drop_at, take_at, length-append, length-take-le, take-append-drop}
use Rattle.std.proofs.lemmas.List.Sums.{sum_by-append}
use Rattle.std.proofs.lemmas.Str.Ascii.{trim_ascii_end_is}
use Rattle.std.specs.List.{suffix_len}
use Rattle.std.specs.Char.{is_ascii_whitespace}
use Rattle.std.specs.Str.{IsTrimAsciiEnd}
use Rattle.crs_text.specs.inner.Prelude.{feeds, IsPosition}
use Rattle.crs_text.specs.declared.position.Position.{Position}
use Rattle.crs_explain.specs.Excerpt.{IsExcerpt, shown_place, printed_text, blanks_below}

-- a piece behind other bytes
pub piece : (text before middle after : List ℕ) (from to : ℕ) → text ≡ before ++ (middle ++ after) → from ≡ length before → to ≡ length before + length middle →
    take (to - from) (drop from text) ≡ middle
piece text before middle after from to parts begin end =
    ap (λ t. take (to - from) (drop from t)) parts ∙ ap (take (to - from)) (drop_at before (middle ++ after) from (sym begin))
    ∙ take_at middle after (to - from) (omega (arith, begin, end))

-- the end of bytes, and their front
pub end_of : (bytes end : List ℕ) (n : ℕ) → end ≡ drop n bytes → (front : List ℕ) × (bytes ≡ front ++ end)
end_of bytes end n is = (take n bytes, rw (is, take-append-drop n bytes) refl)

pub front_of : (bytes middle front : List ℕ) (n m : ℕ) → middle ≡ take n bytes → front ≡ take m middle → (rest : List ℕ) × (bytes ≡ front ++ rest)
front_of bytes middle front n m is begins = (
  drop m middle ++ drop n bytes,
  rw (begins, ← append_assoc (take m middle) (drop m middle) (drop n bytes), take-append-drop m middle, is, take-append-drop n bytes) refl,
)

-- the place of the last byte but white space
pub trimmed : (text kept : List ℕ) (place : ℕ) → place ≡ length text → IsTrimAsciiEnd text kept → length kept ≡ shown_place text place
trimmed text kept place at is =
    let end : (place == length text) ≡ true = eq-eqb place (length text) at in
    let n : length kept ≡ length text - suffix_len is_ascii_whitespace text =
    ap length (trim_ascii_end_is text kept is) ∙ length-take-le (length text - suffix_len is_ascii_whitespace text) text (omega arith) in
    rw end n

-- how many feeds there are
feeds-append : (a b : List ℕ) → feeds (a ++ b) ≡ feeds a + feeds b
feeds-append a b = sum_by-append (λ x. cond (x == 10) 1 0) a b

-- the lines of an excerpt
pub excerpt_of : (text : List ℕ) (place shown : ℕ) (p : Position) (line_left line_right front left right rest lines : List ℕ) →
    shown ≡ shown_place text place → IsPosition text shown p →
    line_left ≡ take (shown - p.begin) (drop p.begin text) → line_right ≡ take (p.end - shown) (drop shown text) →
    line_left ≡ front ++ left → line_right ≡ right ++ rest →
    lines ≡ codes "  " ++ printed_text left ++ printed_text right ++ codes "\n  " ++ blanks_below left ++ codes "^\n" →
    IsExcerpt text place lines
excerpt_of text place shown p line_left line_right front left right rest lines is x a b c d e =
    let l : x.left ≡ front ++ left = sym (piece text x.before x.left (x.right ++ x.after) p.begin shown x.parts x.is_begin x.is_place) ∙ sym a ∙ c in
    let n : shown ≡ length (x.before ++ x.left) = x.is_place ∙ sym (length-append x.before x.left) in
    let m : p.end ≡ length (x.before ++ x.left) + length x.right = x.is_end ∙ ap (λ k. k + length x.right) n in
    let r : x.right ≡ right ++ rest = sym (piece text (x.before ++ x.left) x.right x.after shown p.end (x.parts ∙ sym (append_assoc x.before x.left (x.right ++ x.after))) n m) ∙ sym b ∙ d in
    let left_x : feeds x.left ≡ feeds front + feeds left = ap feeds l ∙ feeds-append front left in
    let right_x : feeds x.right ≡ feeds right + feeds rest = ap feeds r ∙ feeds-append right rest in
    let none : feeds (left ++ right) ≡ 0 =
    omega (arith, left_x, right_x, feeds-append left right, feeds-append x.left x.right, x.one_line) in
    record {
      before = x.before ++ front;
      left = left;
      right = right;
      after = rest ++ x.after;
      parts = x.parts ∙ simp (l, r, append_assoc) refl;
      is_place = omega (arith, is, x.is_place, ap length l, length-append front left, length-append x.before front);
      one_line = none;
      is_shown = e;
    }
