-- A place of a text has one position.
use Rattle.std.proofs.Common.{◌≡◌, ℕ, ◌+◌, ◌==◌, cond, inl, inr, List, [], ◌∷◌, ◌++◌, length, take, drop, refl, sym, ap, ◌∙◌, append_assoc, arith, subst}
use Rattle.std.proofs.lemmas.List.Sums.{sum_by-append}
use Rattle.std.proofs.lemmas.List.{append_cancel_left, length-append}
use Rattle.std.proofs.Math.Seq.{take-append_seam, drop-append_seam}
use Rattle.crs_text.specs.Position.{feeds, characters, BeginsLine, EndsLine, IsPosition}
use Rattle.crs_text.specs.declared.position.Position.{Position}
use Rattle.crs_text.proofs.tokens.QuotedLemmas.{same_head, same_tail}

feeds-append : (a b : List ℕ) → feeds (a ++ b) ≡ feeds a + feeds b
feeds-append a b = sum_by-append (λ x. cond (x == 10) 1 0) a b

-- a line begins before the last bytes too
begins_later : (b : ℕ) (before : List ℕ) → BeginsLine (b ∷ before) → BeginsLine before
begins_later b before (inl e) = cc
begins_later b before (inr ([], e)) = inl (same_tail b 10 before [] e)
begins_later b before (inr (c ∷ lines, e)) = inr (lines, same_tail b c before (lines ++ 10 ∷ []) e)

-- bytes after which a line begins have a line feed
begun_feed : (b : ℕ) (before rest : List ℕ) → BeginsLine (b ∷ before) → feeds (b ∷ before ++ rest) ≡ 0 → ⊥
begun_feed b before rest (inl e) none = cc
begun_feed b before rest (inr (lines, e)) none =
    let all : feeds ((lines ++ 10 ∷ []) ++ rest) ≡ 0 = ap (λ z. feeds (z ++ rest)) (sym e) ∙ none in
    absurd (omega (arith, feeds-append (lines ++ 10 ∷ []) rest, feeds-append lines (10 ∷ [])))

-- the line of a place begins at one place
one_begin : (a left b other : List ℕ) → a ++ left ≡ b ++ other → BeginsLine a → BeginsLine b → feeds left ≡ 0 → feeds other ≡ 0 → a ≡ b
one_begin [] left [] other e begins there none neither = refl
one_begin [] left (y ∷ b) other e begins there none neither = absurd (begun_feed y b other there (ap feeds (sym e) ∙ none))
one_begin (x ∷ a) left [] other e begins there none neither = absurd (begun_feed x a left begins (ap feeds e ∙ neither))
one_begin (x ∷ a) left (y ∷ b) other e begins there none neither =
    let later : a ≡ b = one_begin a left b other (same_tail x y (a ++ left) (b ++ other) e) (begins_later x a begins) (begins_later y b there) none neither in
    let first : x ≡ y = same_head x y (a ++ left) (b ++ other) e in
    cc

-- and ends at one
ended_feed : (y : ℕ) (right after : List ℕ) → EndsLine (y ∷ right ++ after) → feeds (y ∷ right) ≡ 0 → ⊥
ended_feed y right after (inl e) none = cc
ended_feed y right after (inr (lines, e)) none =
    let all : feeds (10 ∷ right) ≡ 0 = rw (same_head y 10 (right ++ after) lines e) at none in
    absurd (omega (arith, feeds-append (10 ∷ []) right))

one_end : (right a other b : List ℕ) → right ++ a ≡ other ++ b → EndsLine a → EndsLine b → feeds right ≡ 0 → feeds other ≡ 0 → right ≡ other
one_end [] a [] b e ends there none neither = refl
one_end [] a (y ∷ other) b e ends there none neither = absurd (ended_feed y other b (subst EndsLine e ends) neither)
one_end (x ∷ right) a [] b e ends there none neither = absurd (ended_feed x right a (subst EndsLine (sym e) there) none)
one_end (x ∷ right) a (y ∷ other) b e ends there none neither =
    let first : x ≡ y = same_head x y (right ++ a) (other ++ b) e in
    let later : right ≡ other = one_end right a other b (same_tail x y (right ++ a) (other ++ b) e) ends there (omega (arith, feeds-append (x ∷ []) right)) (omega (arith, feeds-append (y ∷ []) other)) in
    cc

-- the bytes before a place, and those from it on
split : (text before left right after : List ℕ) (place : ℕ) → text ≡ before ++ (left ++ (right ++ after)) → place ≡ length before + length left →
    (take place text ≡ before ++ left) × (drop place text ≡ right ++ after)
split text before left right after place parts is =
    rw (parts, is, ← append_assoc before left (right ++ after), ← length-append before left)
    (take-append_seam (before ++ left) (right ++ after), drop-append_seam (before ++ left) (right ++ after))

no_left : (left right : List ℕ) → feeds (left ++ right) ≡ 0 → (feeds left ≡ 0) × (feeds right ≡ 0)
no_left left right none = (omega (arith, feeds-append left right), omega (arith, feeds-append left right))

pub one_position : (text : List ℕ) (place : ℕ) (a b : Position) → IsPosition text place a → IsPosition text place b → a ≡ b
one_position text place a b x y =
    let p = split text x.before x.left x.right x.after place x.parts x.is_place in
    let q = split text y.before y.left y.right y.after place y.parts y.is_place in
    let front : x.before ++ x.left ≡ y.before ++ y.left = sym p.0 ∙ q.0 in
    let back : x.right ++ x.after ≡ y.right ++ y.after = sym p.1 ∙ q.1 in
    let m = no_left x.left x.right x.one_line in
    let n = no_left y.left y.right y.one_line in
    let before : x.before ≡ y.before = one_begin x.before x.left y.before y.left front x.begins y.begins m.0 n.0 in
    let left : x.left ≡ y.left = append_cancel_left x.before x.left y.left (front ∙ ap (λ z. z ++ y.left) (sym before)) in
    let right : x.right ≡ y.right = one_end x.right x.after y.right y.after back x.ends y.ends m.1 n.1 in
    λ i. record {
      line = (x.is_line ∙ ap (λ z. 1 + feeds z) before ∙ sym y.is_line) i;
      column = (x.is_column ∙ ap (λ z. 1 + characters z) left ∙ sym y.is_column) i;
      begin = (x.is_begin ∙ ap length before ∙ sym y.is_begin) i;
      end = (x.is_end ∙ ap (λ z. place + length z) right ∙ sym y.is_end) i;
    }
