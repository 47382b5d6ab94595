-- A bridge: the table of items under construction: a row for each item that has begun, and the nodes that are open.
use Rattle.std.specs.Prelude.{◌≡◌, ℕ, zero, suc, ◌+◌, ◌-◌, ◌<◌, nat_lt, ◌&&◌, Bool, true, false, if◌then◌else◌, Option, Some, None, List, [], ◌∷◌, ◌++◌, length, slice_index_or, slice_set}
use Rattle.crs_text.specs.Tokens.{Kind, number, text, word, Token, single, comma, opening, closing}
use Rattle.crs_text.specs.Items.{keyword_at, Item, leaf, node, Siblings, End, More, arguments, count, kind_of_item, raw_of, place_of, size_of, keyword_in}
use Rattle.crs_text.specs.inner.State.{same_square, Frame, State, wants, worded, after, start, run}
use Rattle.crs_text.specs.declared.items.ItemKind.{ItemKind}
use Rattle.crs_text.specs.declared.items.ItemKind.TheVariants.{Number, Text, Word, Node}
use Rattle.crs_text.specs.declared.table.Progress.{Progress}
use Rattle.crs_text.specs.declared.table.Progress.TheVariants.{BeforeItem, AfterWord, AfterItem}
use Rattle.crs_text.specs.declared.table.Opened.{Opened}
use Rattle.crs_text.specs.declared.table.Opened.TheVariants.{Taken, TooDeep, Refused}
use Rattle.crs_text.specs.declared.table.Row.{Row}
use Rattle.crs_text.specs.declared.table.Open.{Open}
use Rattle.crs_text.specs.Keywords.{keyword_of}

-- the rows, the open nodes with the last opened first, and where the tokens so far have led
pub record Flat : Type 0 where
  pub rows : List Row
  pub opens : List Open
  pub progress : Progress

-- an open node, in place of one that isn't there
abbrev pub no_open : Open
no_open = record { row = 0; square = false; count = 0 }

-- a row, in place of one that isn't there
abbrev pub no_row : Row
no_row = record {
  kind = Node;
  square = false;
  depth = 0;
  place = 0;
  length = 0;
  close = 0;
  count = 0;
  size = 0;
  keyword = None;
}

-- the first of these, as many as `depth` says, the last first
abbrev pub held : ℕ → List Open → List Open
held zero opens = []
held (suc depth) opens = slice_index_or opens depth no_open ∷ held depth opens

-- the row of an item that begins, with `depth` delimiters open around it
abbrev pub first_row : ItemKind → Bool → ℕ → List ℕ → ℕ → Row
first_row kind square place raw depth = record {
  kind = kind;
  square = square;
  depth = depth;
  place = place;
  length = length raw;
  close = 0;
  count = 0;
  size = 1;
  keyword = keyword_at kind raw;
}

-- the row of a single item
abbrev pub leaf_row : ItemKind → ℕ → List ℕ → ℕ → Row
leaf_row kind place raw depth = first_row kind false place raw depth

-- the kind of item that a single token is
abbrev pub item_kind : Kind → ItemKind
item_kind number = Number
item_kind text = Text
item_kind word = Word

-- whether an item of this kind is a word alone
abbrev pub is_word : ItemKind → Bool
is_word Number = false
is_word Text = false
is_word Word = true
is_word Node = false

-- an item may begin; at the start a word alone
abbrev pub may_begin : Progress → List Open → ItemKind → Bool
may_begin BeforeItem [] kind = is_word kind
may_begin BeforeItem (o ∷ os) kind = true
may_begin AfterWord os kind = false
may_begin AfterItem os kind = false

-- where an item of this kind leads: a word may begin a node yet, the others are complete
abbrev pub progress_after : ItemKind → Progress
progress_after Number = AfterItem
progress_after Text = AfterItem
progress_after Word = AfterWord
progress_after Node = AfterItem

-- one argument more in the last opened node
abbrev pub counted : List Open → List Open
counted [] = []
counted (o ∷ os) = record o { count = o.count + 1 } ∷ os

-- the table with a row for an item that begins, as one argument more
abbrev pub with_first : Flat → ItemKind → Bool → ℕ → List ℕ → Flat
with_first f kind square place raw = record {
  rows = f.rows ++ first_row kind square place raw (length f.opens) ∷ [];
  opens = counted f.opens;
  progress = progress_after kind;
}

-- the table with a row for a single item
abbrev pub with_leaf : Flat → ItemKind → ℕ → List ℕ → Flat
with_leaf f kind place raw = with_first f kind false place raw

-- the table after a number, a text or a word; none where it isn't allowed
abbrev pub flat_single : Flat → ItemKind → ℕ → List ℕ → Option Flat
flat_single f kind place raw = if may_begin f.progress f.opens kind then Some (with_leaf f kind place raw) else None

-- an item has come within an open node
abbrev pub may_go_on : Progress → List Open → Bool
may_go_on BeforeItem os = false
may_go_on AfterWord [] = false
may_go_on AfterWord (o ∷ os) = true
may_go_on AfterItem [] = false
may_go_on AfterItem (o ∷ os) = true

-- the table after a comma; none where it isn't allowed
abbrev pub flat_comma : Flat → Option Flat
flat_comma f =
    if may_go_on f.progress f.opens
    then Some (record { rows = f.rows; opens = f.opens; progress = BeforeItem })
    else None

-- whether a word has come, which may begin a node
abbrev pub is_after_word : Progress → Bool
is_after_word BeforeItem = false
is_after_word AfterWord = true
is_after_word AfterItem = false

-- the table with this row as that of an open node
abbrev pub with_opened : Flat → ℕ → Bool → Flat
with_opened f row square = record {
  rows = f.rows;
  opens = record { row = row; square = square; count = 0 } ∷ f.opens;
  progress = BeforeItem;
}

-- the last word becomes a node
abbrev pub with_open : Flat → Bool → Flat
with_open f square =
    with_opened
    (record f {
      rows =
          slice_set f.rows (length f.rows - 1)
          (record (slice_index_or f.rows (length f.rows - 1) no_row) { kind = Node; square = square });
    })
    (length f.rows - 1) square

-- the table after an opening delimiter; none where it isn't allowed, or is one too many
abbrev pub flat_open : Flat → Bool → Option Flat
flat_open f square =
    if is_after_word f.progress && nat_lt (length f.opens) 12 then Some (with_open f square)
    else None

-- whether the last opened delimiter is of this kind
abbrev pub has_square : List Open → Bool → Bool
has_square [] square = false
has_square (o ∷ os) square = same_square square o.square

-- the last opened node is complete
abbrev pub with_close : Flat → ℕ → Flat
with_close f place = closed f.opens
  where
    closed : List Open → Flat
    closed [] = f
    closed (o ∷ os) = record {
      rows =
          slice_set f.rows o.row
          (record (slice_index_or f.rows o.row no_row) {
            close = place;
            count = o.count;
            size = length f.rows - o.row;
          });
      opens = os;
      progress = AfterItem;
    }

-- the table after a closing delimiter; none where it isn't allowed
abbrev pub flat_close : Flat → ℕ → Bool → Option Flat
flat_close f place square =
    if may_go_on f.progress f.opens && has_square f.opens square then Some (with_close f place)
    else None

-- the table after one token more; none where it isn't allowed
abbrev pub flat_step : Flat → Token → Option Flat
flat_step f (single kind place raw) = flat_single f (item_kind kind) place raw
flat_step f comma = flat_comma f
flat_step f (opening square) = flat_open f square
flat_step f (closing place square) = flat_close f place square

-- the step is taken, or refused with the table as it was
abbrev pub IsStep : Option Flat → Bool → Flat → Flat → Type 0
IsStep None taken before behind = (taken ≡ false) × (behind ≡ before)
IsStep (Some next) taken before behind = (taken ≡ true) × (behind ≡ next)

-- how an opening delimiter is met: too deep where it follows a word inside 12 open ones
abbrev pub IsOpened : Flat → Bool → Opened → Flat → Type 0
IsOpened before square Taken behind = flat_open before square ≡ Some behind
IsOpened before square TooDeep behind = (before.progress ≡ AfterWord) × (length before.opens ≡ 12) × (behind ≡ before)
IsOpened before square Refused behind = (before.progress ≡ AfterWord → ⊥) × (behind ≡ before)

-- the table takes a word and then a square delimiter
abbrev pub IsNodeBegun : Flat → ℕ → List ℕ → Flat → Type 0
IsNodeBegun before place raw behind =
    (before.progress ≡ BeforeItem) × (length before.opens < 12)
    × (behind ≡ with_opened (with_first before Node true place raw) (length before.rows) true)

-- the tokens are those of one whole node
abbrev pub is_whole : Flat → Bool
is_whole f = whole f.progress f.opens
  where
    whole : Progress → List Open → Bool
    whole BeforeItem os = false
    whole AfterWord os = false
    whole AfterItem [] = true
    whole AfterItem (o ∷ os) = false

-- each open node has a row, and below it as many as it has arguments
abbrev pub AreRoomy : ℕ → List Open → Type 0
AreRoomy n [] = Unit {0}
AreRoomy n (o ∷ os) = (o.row + o.count < n) × AreRoomy n os

-- each open node has its row and below it as many as it has arguments, and after a word there is a row
pub record IsRoomy (f : Flat) : Type 0 where
  pub opens : AreRoomy (length f.rows) f.opens
  pub word : f.progress ≡ AfterWord → 0 < length f.rows

-- ---- a bridge: the rows of items, in the order in which the items begin, and the table of a state

-- a node's row and the rows of its arguments
abbrev pub node_rows : ℕ → List ℕ → Bool → ℕ → ℕ → ℕ → List Row → List Row
node_rows place keyword square close n depth body =
    record {
      kind = Node;
      square = square;
      depth = depth;
      place = place;
      length = length keyword;
      close = close;
      count = n;
      size = suc (length body);
      keyword = keyword_of keyword;
    } ∷ body

abbrev mutual
  -- the rows of an item, with `depth` delimiters open around it
  pub rows : ℕ → Item → List Row
  rows depth (leaf kind place raw) = leaf_row (item_kind kind) place raw depth ∷ []
  rows depth (node place keyword square first others close) =
      node_rows place keyword square close (suc (count others)) depth
      (rows (suc depth) first ++ rows_of_items (suc depth) others)

  -- the rows of some items, with `depth` delimiters open around them
  pub rows_of_items : ℕ → Siblings → List Row
  rows_of_items depth End = []
  rows_of_items depth (More item items) = rows depth item ++ rows_of_items depth items

-- the rows of complete arguments, the last first
abbrev pub rows_before : ℕ → List Item → List Row
rows_before depth [] = []
rows_before depth (item ∷ before) = rows_before depth before ++ rows depth item

-- the row of a node that is still open, with `depth` delimiters open around it
abbrev pub open_row : Frame → ℕ → Row
open_row f depth =
    record {
      kind = Node;
      square = f.square;
      depth = depth;
      place = f.place;
      length = length f.keyword;
      close = 0;
      count = 0;
      size = 1;
      keyword = keyword_of f.keyword;
    }

-- the rows of the open nodes, each with those of its complete arguments
abbrev pub rows_of_frames : List Frame → List Row
rows_of_frames [] = []
rows_of_frames (f ∷ fs) = rows_of_frames fs ++ (open_row f (length fs) ∷ rows_before (suc (length fs)) f.before)

-- an open node of a table: its row, its delimiter, and how many of its arguments have begun
abbrev pub open_of : Frame → List Frame → ℕ → Open
open_of f fs n = record { row = length (rows_of_frames fs); square = f.square; count = n }

-- the open nodes, in each of which an argument has begun after the complete ones
abbrev pub opens_of : List Frame → List Open
opens_of [] = []
opens_of (f ∷ fs) = open_of f fs (suc (length f.before)) ∷ opens_of fs

-- the table of a state
abbrev pub flat : State → Flat
flat (wants []) = record { rows = []; opens = []; progress = BeforeItem }
flat (wants (f ∷ fs)) =
    record {
      rows = rows_of_frames (f ∷ fs);
      opens = open_of f fs (length f.before) ∷ opens_of fs;
      progress = BeforeItem;
    }
flat (worded place raw fs) =
    record {
      rows = rows_of_frames fs ++ leaf_row Word place raw (length fs) ∷ [];
      opens = opens_of fs;
      progress = AfterWord;
    }
flat (after item fs) =
    record { rows = rows_of_frames fs ++ rows (length fs) item; opens = opens_of fs; progress = AfterItem }

-- these tokens are viable, and this is their table
abbrev pub Shows : List Token → Flat → Type 0
Shows ts f = (s : State) × (run 12 start ts ≡ Some s) × (f ≡ flat s)

-- whether a node's delimiters are square
abbrev pub square_of : Item → Bool
square_of (leaf kind place raw) = false
square_of (node place keyword square first others close) = square

-- the place of a node's closing delimiter; 0 where the item is no node
abbrev pub close_place : Item → ℕ
close_place (leaf kind place raw) = 0
close_place (node place keyword square first others close) = close

-- the row of an item, with `depth` delimiters open around it
abbrev pub row_of : ℕ → Item → Row
row_of depth item = record {
  kind = kind_of_item item;
  square = square_of item;
  depth = depth;
  place = place_of item;
  length = length (raw_of item);
  close = close_place item;
  count = count (arguments item);
  size = size_of item;
  keyword = keyword_in item;
}
