-- A bridge: pieces of written nodes, as writers append them.
use Rattle.std.specs.Prelude.{ℕ, List, [], ◌∷◌, ◌++◌, Option, Some, None}
use Rattle.crs_decimal.specs.Numbers.{plain, Value}
use Rattle.crs_text.specs.Items.{Siblings, End, More}
use Rattle.crs_text.specs.Written.{item_text, others_text}

-- an opening that ends with a quote, a text, and its closing quote
abbrev pub opened : List ℕ → List ℕ → List ℕ
opened opening text = opening ++ (text ++ 34 ∷ [])

-- a node of one text after its opening, if there is one
abbrev pub text_behind : List ℕ → Option (List ℕ) → List ℕ
text_behind opening None = []
text_behind opening (Some text) = opened opening text ++ 93 ∷ []

-- a node of a name and of arguments after it
abbrev pub named_node : List ℕ → List ℕ → Siblings → List ℕ
named_node opening name others = opened opening name ++ (others_text others ++ 93 ∷ [])

-- a node of a number and of arguments after it
abbrev pub numbered_node : List ℕ → Value → Siblings → List ℕ
numbered_node opening value others = (opening ++ plain value) ++ (others_text others ++ 93 ∷ [])

-- arguments in delimiters, where there are any
abbrev pub enclosed : Siblings → List ℕ
enclosed End = []
enclosed (More first others) = 91 ∷ (item_text first ++ (others_text others ++ 93 ∷ []))
