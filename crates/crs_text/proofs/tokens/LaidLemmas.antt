-- A node that lies in a source with no white space between its tokens, and with square delimiters, is there in its written
-- form.
use Rattle.std.proofs.Common.{◌≡◌, ℕ, suc, ◌+◌, ◌≤◌, ◌<◌, Bool, true, false, List, [], ◌∷◌, ◌++◌, length, get_or, take, drop, refl, sym, ap, subst, ◌∙◌, append_assoc, arith}
use Rattle.std.proofs.lemmas.List.{append-nil, length-append, nil_from_length}
use Rattle.std.proofs.Math.Seq.{drop-cons}
use Rattle.crs_text.specs.Tokens.{number, text, word, Token, single, opening, closing, spelling, IsAfterWhite, Forms, Fronts}
use Rattle.crs_text.specs.Items.{Item, leaf, node, Siblings, End, More, tokens, others_tokens, count, first_of, here, HasId}
use Rattle.crs_text.specs.inner.Tree.{AreLaid, AreSquare, EndsIn, bytes_beside, bytes_of_rows, StandsAt}
use Rattle.crs_text.specs.inner.Table.{rows, rows_of_items, row_of}
use Rattle.crs_text.specs.Written.{item_text, others_text}
use Rattle.crs_text.specs.declared.items.ItemKind.TheVariants.{Node}
use Rattle.crs_text.specs.declared.table.Row.{Row}
use Rattle.crs_text.proofs.tokens.TokenLemmas.{at_once}
use Rattle.crs_text.proofs.rows.IdLemmas.{lt_from_has, rows_here}
use Rattle.crs_text.proofs.rows.StandLemmas.{cut_front, stands_at}
use Rattle.crs_text.proofs.rows.TreeLemmas.{item_of}

-- the bytes of the tokens with nothing between them
abbrev pub bytes_of : List Token → List ℕ
bytes_of [] = []
bytes_of (t ∷ ts) = spelling t ++ bytes_of ts

-- ---- some tokens of those that are laid

cut : (source : List ℕ) (a b : List Token) (bytes left : List ℕ) → EndsIn source bytes → Fronts (length source) bytes (a ++ b) left →
    (mid : List ℕ) × EndsIn source mid × Fronts (length source) bytes a mid × Fronts (length source) mid b left
cut source [] [] bytes left ends p = (left, cut_front source bytes p.white left ends p.parts, p, at_once left p.ends)
cut source [] (u ∷ us) bytes left ends p =
    (p.0, cut_front source bytes p.2.white p.0 ends p.2.parts, p.2, (p.0, p.1, at_once p.0 p.2.ends, p.3, p.4))
cut source (t ∷ a) b bytes left ends p =
    let at = cut_front source bytes p.2.white p.0 ends p.2.parts in
    let r = cut source a b p.1 left (cut_front source p.0 (spelling t) p.1 at p.3.spelled) p.4 in
    (r.0, r.1, (p.0, p.1, p.2, p.3, r.2), r.3)

laid_left : (source : List ℕ) (a b : List Token) → AreLaid source (a ++ b) → AreLaid source a
laid_left source a b h =
    let r = cut source a b h.bytes h.left h.ends h.fronts in record { bytes = h.bytes; left = r.0; ends = h.ends; fronts = r.2 }

laid_right : (source : List ℕ) (a b : List Token) → AreLaid source (a ++ b) → AreLaid source b
laid_right source a b h =
    let r = cut source a b h.bytes h.left h.ends h.fronts in record { bytes = r.0; left = h.left; ends = r.1; fronts = r.3 }

-- ---- up to a closing delimiter

-- the bytes up to behind the delimiter at this place, which are the tokens' alone where they are no more than those
record IsSpan (total : ℕ) (bytes : List ℕ) (ts : List Token) (close : ℕ) : Type 0 where
  front : List ℕ
  rest : List ℕ
  parts : bytes ≡ front ++ rest
  end : length rest + close + 1 ≡ total
  least : length (bytes_of ts) ≤ length front
  whole : length front ≡ length (bytes_of ts) → front ≡ bytes_of ts

span_more : (total close : ℕ) (t : Token) (ts : List Token) (bytes at rest : List ℕ) → IsAfterWhite bytes at → Forms total t at rest →
    IsSpan total rest ts close → IsSpan total bytes (t ∷ ts) close
span_more total close t ts bytes at rest w f s = record {
  front = w.white ++ (spelling t ++ s.front);
  rest = s.rest;
  parts = w.parts ∙ simp (f.spelled, s.parts, append_assoc);
  end = s.end;
  least = simp length-append (omega (arith, s.least));
  whole = λ e. let long = simp length-append at e in rw (nil_from_length w.white (omega (arith, s.least)), s.whole (omega (arith, s.least)));
}

span_end : (total close : ℕ) (square : Bool) (at rest : List ℕ) → Forms total (closing close square) at rest → IsSpan total rest [] close
span_end total close square at rest f = record {
  front = [];
  rest = rest;
  parts = refl;
  end = omega (arith, f.placed, ap length f.spelled);
  least = omega arith;
  whole = λ e. refl;
}

span : (total close : ℕ) (square : Bool) (ts : List Token) (bytes left : List ℕ) → Fronts total bytes (ts ++ closing close square ∷ []) left →
    IsSpan total bytes (ts ++ closing close square ∷ []) close
span total close square [] bytes left p =
    span_more total close (closing close square) [] bytes p.0 p.1 p.2 p.3 (span_end total close square p.0 p.1 p.3)
span total close square (t ∷ ts) bytes left p =
    span_more total close t (ts ++ closing close square ∷ []) bytes p.0 p.1 p.2 p.3 (span total close square ts p.1 left p.4)

-- a node's bytes, if there is no white space between its tokens
pub record IsSpanned (source : List ℕ) (place close : ℕ) (ts : List Token) : Type 0 where
  pub within : place + length (bytes_of ts) ≤ length source
  pub closed : close + 1 ≤ length source
  pub stands : place + length (bytes_of ts) ≡ close + 1 → StandsAt source place (bytes_of ts)

abbrev pub IsHere : List ℕ → Item → Type 0
IsHere source (leaf kind place raw) = Unit {0}
IsHere source (node place keyword square first others close) =
    IsSpanned source place close (tokens (node place keyword square first others close))

here_laid : (source : List ℕ) (item : Item) → AreLaid source (tokens item) → IsHere source item
here_laid source (leaf kind place raw) h = tt
here_laid source (node place keyword square first others close) h =
    let p = h.fronts in
    let ts = single word place keyword ∷ opening square ∷ (tokens first ++ others_tokens others) in
    let ends = cut_front source h.bytes p.2.white p.0 h.ends p.2.parts in
    let s = span (length source) close square ts p.0 h.left (p.0, p.1, at_once p.0 p.2.ends, p.3, p.4) in
    let whole = simp length-append at (ap length ends.1) in
    let inner = simp length-append at (ap length s.parts) in
    let placed : place + length p.0 ≡ length source = p.3.placed in
    record {
      within = omega (arith, s.least);
      closed = omega (arith, s.end);
      stands = λ e. subst (StandsAt source place) (s.whole (omega (arith, s.end)))
          (stands_at source ends.0 s.front s.rest place (ends.1 ∙ ap (λ z. ends.0 ++ z) s.parts) (omega arith));
    }

spanned : (source : List ℕ) (tree : Item) (id : ℕ) → AreLaid source (tokens tree) → HasId tree id → IsHere source (first_of (here tree id))
spanned source tree id h has =
    item_of (AreLaid source) (laid_left source) (laid_right source) (IsHere source) (here_laid source) tree id h (lt_from_has tree id has)

-- ---- rows

rows-append : (a b : List Row) → bytes_of_rows (a ++ b) ≡ bytes_of_rows a + bytes_of_rows b
rows-append [] b = omega arith
rows-append (r ∷ a) b = omega (arith, rows-append a b)

bytes-append : (a b : List Token) → bytes_of (a ++ b) ≡ bytes_of a ++ bytes_of b
bytes-append [] b = refl
bytes-append (t ∷ a) b = ap (λ z. spelling t ++ z) (bytes-append a b) ∙ sym (append_assoc (spelling t) (bytes_of a) (bytes_of b))

mutual
  rows-length : (item : Item) (depth : ℕ) → bytes_of_rows (rows depth item) ≡ length (bytes_of (tokens item))
  rows-length (leaf number place raw) depth = omega (arith, length-append raw [])
  rows-length (leaf text place raw) depth = omega (arith, length-append (34 ∷ raw ++ 34 ∷ []) [], length-append (34 ∷ raw) (34 ∷ []))
  rows-length (leaf word place raw) depth = omega (arith, length-append raw [])
  rows-length (node place keyword square first others close) depth =
      simp (rows-append, bytes-append, length-append) (omega (arith, rows-length first (suc depth), rows-length_of others (suc depth)))

  rows-length_of : (items : Siblings) (depth : ℕ) → bytes_of_rows (rows_of_items depth items) + count items ≡ length (bytes_of (others_tokens items))
  rows-length_of End depth = refl
  rows-length_of (More item items) depth =
      simp (rows-append, bytes-append, length-append) (omega (arith, rows-length item depth, rows-length_of items depth))

-- what is counted of one of the rows fits where all does
pub beside-fits : (table : List Row) (i n m : ℕ) (d : Row) → i < length table → n + bytes_of_rows (drop i table) ≡ bytes_of_rows table →
    bytes_of_rows table < m → bytes_beside (get_or table i d).kind (get_or table i d).count < m
beside-fits table i n m d lt e fits = omega (arith, e, fits, ap bytes_of_rows (drop-cons table i d lt))

square_left : (a b : List Row) → AreSquare (a ++ b) → AreSquare a
square_left [] b h = tt
square_left (r ∷ a) b h = (h.0, square_left a b h.1)

square_right : (a b : List Row) → AreSquare (a ++ b) → AreSquare b
square_right [] b h = h
square_right (r ∷ a) b h = square_right a b h.1

mutual
  square_text : (item : Item) (depth : ℕ) → AreSquare (rows depth item) → bytes_of (tokens item) ≡ item_text item
  square_text (leaf number place raw) depth h = append-nil raw
  square_text (leaf text place raw) depth h = append-nil (34 ∷ raw ++ 34 ∷ [])
  square_text (leaf word place raw) depth h = append-nil raw
  square_text (node place keyword false first others close) depth h = absurd cc
  square_text (node place keyword true first others close) depth h =
      let a = square_text first (suc depth) (square_left _ (rows_of_items (suc depth) others) h.1) in
      let b = square_texts others (suc depth) (square_right (rows (suc depth) first) _ h.1) in
      simp (bytes-append, a, b, append_assoc, append-nil)

  square_texts : (items : Siblings) (depth : ℕ) → AreSquare (rows_of_items depth items) → bytes_of (others_tokens items) ≡ others_text items
  square_texts End depth h = refl
  square_texts (More item items) depth h =
      simp (bytes-append, square_text item depth (square_left _ (rows_of_items depth items) h), square_texts items depth (square_right (rows depth item) _ h))

-- ---- a row of a node, and the rows of what is in it

span_of : (source : List ℕ) (item : Item) (row : Row) → IsHere source item → row ≡ row_of row.depth item → row.kind ≡ Node →
    IsSpanned source row.place row.close (tokens item)
span_of source (node place keyword square first others close) row h is k = rw (ap (λ r. r.place) is, ap (λ r. r.close) is) h
span_of source (leaf number place raw) row h is k = let e = sym (ap (λ r. r.kind) is) ∙ k in absurd cc
span_of source item row h is k = let e = sym (ap (λ r. r.kind) is) ∙ k in absurd cc

-- the rows of a node, and its bytes
pub record IsOwn (source : List ℕ) (item : Item) (row : Row) (part : List Row) : Type 0 where
  pub long : bytes_of_rows part ≡ length (bytes_of (tokens item))
  pub text : AreSquare part → bytes_of (tokens item) ≡ item_text item
  pub span : IsSpanned source row.place row.close (tokens item)

pub own : (source : List ℕ) (laid tree : Item) (id at : ℕ) (row : Row) (part table : List Row) → AreLaid source (tokens laid) → laid ≡ tree → HasId tree id
    → row ≡ row_of row.depth (first_of (here tree id)) → row.kind ≡ Node → table ≡ rows 0 laid → at ≡ id → part ≡ take row.size (drop at table) → IsOwn source (first_of (here tree id)) row part
own source laid tree id at row part table h same has is k t a p =
    let item = first_of (here tree id) in
    let r = rows_here tree id (lt_from_has tree id has) in
    let e : part ≡ rows r.0 item = rw (p, a, t, same, ap (λ r. r.size) is) r.1 in
    record {
      long = ap bytes_of_rows e ∙ rows-length item r.0;
      text = λ square. square_text item r.0 (subst AreSquare e square);
      span = span_of source item row (spanned source tree id (subst (λ z. AreLaid source (tokens z)) same h) has) is k;
    }
