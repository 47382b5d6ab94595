-- The definitions on VERTCRS["H",VDATUM["D"],CS[vertical,1],AXIS["h",up,LENGTHUNIT["metre",1]]]
-- and on words nested deeply.
use Rattle.std.specs.Prelude.{◌≡◌, ℕ, zero, suc, codes, true, List, [], ◌∷◌, ◌++◌, ◌+◌}
use Rattle.crs_text.specs.Tokens.{number, text, word, Token, single, opening}
use Rattle.crs_text.specs.Items.{Item, leaf, node, End, More, arguments, rest_of, skip, size_of, here}
use Rattle.crs_text.specs.Viable.{IsFull}
use Rattle.crs_text.specs.TextFault.{IsSettledRefusal, IsTakenSoFar}

-- the bytes `VERTCRS["H"`
abbrev pub begun : List ℕ
begun = codes "VERTCRS[" ++ 34 ∷ 72 ∷ 34 ∷ []

-- what is settled of some texts that begin so
abbrev pub AreSettledRows : Type 0
AreSettledRows =
    -- the quote may still be doubled, the word and the number may go on
    IsTakenSoFar begun
    × IsTakenSoFar (begun ++ codes "]x")
    × IsTakenSoFar (begun ++ codes ",1")
    -- after the white space the word is settled, and it isn't allowed after the root
    × IsSettledRefusal (begun ++ codes "]x ") 6 12
    -- a delimiter, and a byte that begins no token, are settled at once
    × IsSettledRefusal (begun ++ codes ",]") 6 12
    × IsSettledRefusal (begun ++ codes "#") 1 11

-- the item `VDATUM["D"]`
abbrev pub datum : Item
datum = node 12 (codes "VDATUM") true (leaf text 19 (codes "D")) End 22

-- the item `CS[vertical,1]`
abbrev pub system : Item
system =
    node 24 (codes "CS") true (leaf word 27 (codes "vertical"))
    (More (leaf number 36 (codes "1")) End) 37

-- the item `LENGTHUNIT["metre",1]`
abbrev pub unit : Item
unit =
    node 51 (codes "LENGTHUNIT") true (leaf text 62 (codes "metre"))
    (More (leaf number 70 (codes "1")) End) 71

-- the item `AXIS["h",up,LENGTHUNIT["metre",1]]`
abbrev pub axis : Item
axis =
    node 39 (codes "AXIS") true (leaf text 44 (codes "h"))
    (More (leaf word 48 (codes "up")) (More unit End)) 72

-- the item of the whole text
abbrev pub vertical : Item
vertical =
    node 0 (codes "VERTCRS") true (leaf text 8 (codes "H"))
    (More datum (More system (More axis End))) 73

-- how many items are in some of these, each itself included
abbrev pub AreSized : Type 0
AreSized = (size_of vertical ≡ 13) × (size_of datum ≡ 2) × (size_of system ≡ 3) × (size_of axis ≡ 6)

-- the second argument is item 2; after it come items 4 and 7, and then none; item 12 is the last
abbrev pub AreFoundByNumber : Type 0
AreFoundByNumber =
    (here vertical 2 ≡ skip 1 (arguments vertical))
    × (here vertical 4 ≡ rest_of (here vertical 2))
    × (here vertical 7 ≡ rest_of (here vertical 4))
    × (rest_of (here vertical 7) ≡ End)
    × (here vertical 12 ≡ More (leaf number 70 (codes "1")) End)
    × (here vertical 13 ≡ End)

-- a word and an opening delimiter, as many times as `n` says
abbrev pub nested : ℕ → List Token
nested zero = []
nested (suc n) = single word 0 (codes "a") ∷ opening true ∷ nested n

-- inside 12 open delimiters a word has no room for one more, inside 11 it has
abbrev pub AreLimited : Type 0
AreLimited =
    IsFull (nested 12 ++ single word 24 (codes "a") ∷ [])
    × ¬ (IsFull (nested 11 ++ single word 22 (codes "a") ∷ []))
