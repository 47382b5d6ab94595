-- The table of the state after a token is the table with that token.
use Rattle.std.proofs.Common.{◌≡◌, ℕ, suc, ◌+◌, ◌-◌, nat_lt, Bool, true, false, Some, None, if◌then◌else◌, List, [], ◌∷◌, ◌++◌, length, get_or, ◌≢◌, refl, sym, ◌∙◌, ap, append_assoc, length-append, add-one, arith}
use Rattle.std.specs.Option.{option_map}
use Rattle.std.proofs.Math.ListN.{set}
use Rattle.std.proofs.Math.Seq.{get_or-append_seam, set-append_seam}
use Rattle.std.proofs.lemmas.Bool.{lt-ltb}
use Rattle.std.proofs.lemmas.List.{append-nil}
use Rattle.crs_text.specs.Tokens.{Kind, number, word, Token, single, comma, opening, closing}
use Rattle.crs_text.specs.Items.{Item, leaf, Siblings, End, More, count}
use Rattle.crs_text.specs.inner.State.{Frame, State, wants, worded, after, gather, only_if, same_square, behind_leaf, behind_item, step}
use Rattle.crs_text.specs.inner.Table.{Flat, item_kind, leaf_row, no_row, may_begin, counted, flat_step, flat_single, flat_comma, flat_open, flat_close, with_leaf, with_open, with_close, IsNodeBegun}
use Rattle.crs_text.specs.inner.Table.{node_rows, rows, rows_of_items, rows_before, open_row, rows_of_frames, opens_of, flat}
use Rattle.crs_text.specs.declared.items.ItemKind.TheVariants.{Word, Node}
use Rattle.crs_text.specs.declared.table.Row.{Row}
use Rattle.crs_text.specs.declared.table.Open.{Open}
use Rattle.crs_text.specs.declared.table.Progress.{Progress}
use Rattle.crs_text.specs.declared.table.Progress.TheVariants.{BeforeItem, AfterWord, AfterItem}
use Rattle.crs_text.proofs.rows.TableLemmas.{length-counted}

pub length-opens_of : (fs : List Frame) → length (opens_of fs) ≡ length fs
length-opens_of [] = refl
length-opens_of (f ∷ fs) = ap (λ n. suc n) (length-opens_of fs)

rows-gather : (place : ℕ) (keyword : List ℕ) (square : Bool) (before : List Item) (item : Item) (later : Siblings) (close depth : ℕ) →
    rows depth (gather place keyword square before item later close) ≡
    node_rows place keyword square close (length before + suc (count later)) depth (rows_before (suc depth) before ++ (rows (suc depth) item ++ rows_of_items (suc depth) later))
rows-gather place keyword square [] item later close depth =
    let e : 0 + suc (count later) ≡ suc (count later) = omega arith in rw e refl
rows-gather place keyword square (b ∷ before) item later close depth =
    let e : suc (length before) + suc (count later) ≡ length before + suc (suc (count later)) = omega arith in
    rw (e, rows-gather place keyword square before b (More item later) close depth) (simp append_assoc)

length-seam : (xs : List Row) (y : Row) (ys : List Row) → length (xs ++ y ∷ ys) - length xs ≡ suc (length ys)
length-seam xs y ys = omega (arith, length-append xs (y ∷ ys))

-- the rows with the row of an open node complete
close-rows : (f : Frame) (fs : List Frame) (item : Item) (place : ℕ) →
    set (rows_of_frames (f ∷ fs) ++ rows (suc (length fs)) item) (length (rows_of_frames fs))
    (record (get_or (rows_of_frames (f ∷ fs) ++ rows (suc (length fs)) item) (length (rows_of_frames fs)) no_row)
    { close = place; count = suc (length f.before); size = length (rows_of_frames (f ∷ fs) ++ rows (suc (length fs)) item) - length (rows_of_frames fs) })
    ≡ rows_of_frames fs ++ rows (length fs) (gather f.place f.keyword f.square f.before item End place)
close-rows f fs item place =
    let A = rows_of_frames fs in
    let r = open_row f (length fs) in
    let B = rows_before (suc (length fs)) f.before in
    let C = rows (suc (length fs)) item in
    rw (append_assoc A (r ∷ B) C, get_or-append_seam A r (B ++ C) no_row, length-seam A r (B ++ C), rows-gather f.place f.keyword f.square f.before item End place (length fs), append-nil C, add-one)
    (set-append_seam A r (B ++ C) _)

comma-rows : (f : Frame) (fs : List Frame) (item : Item) →
    rows_of_frames (f ∷ fs) ++ rows (suc (length fs)) item ≡ rows_of_frames (record f { before = item ∷ f.before } ∷ fs)
comma-rows f fs item = append_assoc (rows_of_frames fs) (open_row f (length fs) ∷ rows_before (suc (length fs)) f.before) (rows (suc (length fs)) item)

leaf-rows : (kind : Kind) (place : ℕ) (raw : List ℕ) (f : Frame) (fs : List Frame) →
    with_leaf (flat (wants (f ∷ fs))) (item_kind kind) place raw ≡ flat (behind_leaf kind place raw (f ∷ fs))
leaf-rows number place raw f fs = rw (add-one, length-opens_of)
leaf-rows kind place raw f fs = rw (add-one, length-opens_of)

-- the table of a state after a complete item, which may be a word alone
abbrev flat_behind : Item → List Frame → Progress → Flat
flat_behind item fs progress = record { rows = rows_of_frames fs ++ rows (length fs) item; opens = opens_of fs; progress = progress }

flat-comma : (item : Item) (fs : List Frame) (progress : Progress) → progress ≢ BeforeItem → flat_comma (flat_behind item fs progress) ≡ option_map flat (behind_item item fs comma)
flat-comma item fs BeforeItem h = absurd (h refl)
flat-comma item (f ∷ fs) AfterWord h = rw (comma-rows f fs item) refl
flat-comma item (f ∷ fs) AfterItem h = rw (comma-rows f fs item) refl
flat-comma item [] progress h = refl

close-flat : (f : Frame) (fs : List Frame) (item : Item) (place : ℕ) (square : Bool) (progress : Progress) →
    (b : Bool) → same_square square f.square ≡ b →
    (if b then Some (with_close (flat_behind item (f ∷ fs) progress) place) else None) ≡
    option_map flat (only_if b (after (gather f.place f.keyword f.square f.before item End place) fs))
close-flat f fs item place square progress false e = refl
close-flat f fs item place square progress true e = ap (λ rs. Some (record { rows = rs; opens = opens_of fs; progress = AfterItem })) (close-rows f fs item place)

flat-close : (item : Item) (fs : List Frame) (progress : Progress) (place : ℕ) (square : Bool) → progress ≢ BeforeItem →
    flat_close (flat_behind item fs progress) place square ≡ option_map flat (behind_item item fs (closing place square))
flat-close item fs BeforeItem place square h = absurd (h refl)
flat-close item (f ∷ fs) AfterWord place square h = close-flat f fs item place square AfterWord (same_square square f.square) refl
flat-close item (f ∷ fs) AfterItem place square h = close-flat f fs item place square AfterItem (same_square square f.square) refl
flat-close item [] progress place square h = refl

-- the last row, of a word, becomes that of a node
last_opened : (A : List Row) (r : Row) (os : List Open) (progress : Progress) (square : Bool) →
    with_open (record { rows = A ++ r ∷ []; opens = os; progress = progress }) square ≡
    record { rows = A ++ record r { kind = Node; square = square } ∷ []; opens = record { row = length A; square = square; count = 0 } ∷ os; progress = BeforeItem }
last_opened A r os progress square =
    let len : length (A ++ r ∷ []) - 1 ≡ length A = omega (arith, length-append A (r ∷ [])) in
    rw (len, get_or-append_seam A r [] no_row, set-append_seam A r [])

open-rows : (place : ℕ) (raw : List ℕ) (fs : List Frame) (square : Bool) →
    with_open (flat (worded place raw fs)) square ≡ flat (wants (record { place = place; keyword = raw; square = square; before = [] } ∷ fs))
open-rows place raw fs square = last_opened (rows_of_frames fs) (leaf_row Word place raw (length fs)) (opens_of fs) AfterWord square

open-flat : (place : ℕ) (raw : List ℕ) (fs : List Frame) (square : Bool) →
    flat_open (flat (worded place raw fs)) square ≡ option_map flat (step 12 (worded place raw fs) (opening square))
open-flat place raw fs square =
    let deep = length-opens_of fs in
    rw (open-rows place raw fs square, deep) (go (nat_lt (length fs) 12))
  where
    go : (b : Bool) → (let n : State = wants (record { place = place; keyword = raw; square = square; before = [] } ∷ fs) in (if b then Some (flat n) else None) ≡ option_map flat (only_if b n))
    go true = refl
    go false = refl

pub flat-step : (s : State) (t : Token) → flat_step (flat s) t ≡ option_map flat (step 12 s t)
flat-step (wants (f ∷ fs)) (single kind place raw) = ap Some (leaf-rows kind place raw f fs)
flat-step (worded place raw fs) comma = flat-comma (leaf word place raw) fs AfterWord (λ e. cc)
flat-step (worded place raw fs) (opening square) = open-flat place raw fs square
flat-step (worded place raw fs) (closing p square) = flat-close (leaf word place raw) fs AfterWord p square (λ e. cc)
flat-step (after item fs) comma = flat-comma item fs AfterItem (λ e. cc)
flat-step (after item fs) (closing p square) = flat-close item fs AfterItem p square (λ e. cc)
flat-step (wants []) (single number place raw) = refl
flat-step (worded place raw []) (single k p r) = refl
flat-step (after item []) t = refl
flat-step s t = refl

-- a table that takes a word and then a square delimiter
may_begin-word : (os : List Open) → may_begin BeforeItem os Word ≡ true
may_begin-word [] = refl
may_begin-word (o ∷ os) = refl

pub word_begun : (f g : Flat) (place : ℕ) (raw : List ℕ) → IsNodeBegun f place raw g → flat_single f Word place raw ≡ Some (with_leaf f Word place raw)
word_begun f g place raw begun =
    ap (λ b. if b then Some (with_leaf f Word place raw) else None) (ap (λ p. may_begin p f.opens Word) begun.0 ∙ may_begin-word f.opens)

pub delimiter_begun : (f g : Flat) (place : ℕ) (raw : List ℕ) → IsNodeBegun f place raw g → flat_open (with_leaf f Word place raw) true ≡ Some g
delimiter_begun f g place raw begun =
    let few : nat_lt (length (counted f.opens)) 12 ≡ true = lt-ltb _ _ (omega (arith, length-counted f.opens, begun.1)) in
    let is = last_opened f.rows (leaf_row Word place raw (length f.opens)) (counted f.opens) AfterWord true in
    ap (λ b. if b then Some (with_open (with_leaf f Word place raw) true) else None) few ∙ ap Some (is ∙ sym begun.2)
