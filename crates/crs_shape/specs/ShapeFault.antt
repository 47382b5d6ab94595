-- Faults of shape: where an item isn't what it is asked to be, with the number and place of the refusal.
use Rattle.std.specs.Prelude.{◌≡◌, ℕ, ◌⊎◌, Bool, IsTrue, IsFalse, Option, Some, None, List, [], ◌∷◌, ◌++◌, if◌then◌else◌}
use denote.Enum.Bare.{sameb}
use Rattle.crs_text.specs.Tokens.{Kind, number, text, word}
use Rattle.crs_text.specs.Items.{Item, leaf, node, Siblings, End, More}
use Rattle.crs_text.specs.Refusal.{RefusedAt}
use Rattle.crs_shape.specs.contracts.class.Class.{the_type}
use Rattle.crs_shape.specs.declared.class.Class.{Class}
use Rattle.crs_shape.specs.Keywords.{is_keyword, is_known, root_named}
use Rattle.crs_shape.specs.Shape.{slots_of, class_named, Allowed, Begins}
use Rattle.crs_shape.specs.declared.class.Class.TheVariants as class

-- the class of a number, a text or a word
abbrev pub class_of_kind : Kind → Class
class_of_kind number = class.Number
class_of_kind text = class.Text
class_of_kind word = class.Word

-- an item's class in a parent: number, text, word, or what its keyword names there
abbrev pub class_in : Class → Item → Option Class
class_in parent (leaf kind place raw) = Some (class_of_kind kind)
class_in parent (node place keyword square first others close) = class_named parent keyword

-- whether an item is of a class; a node is if it has one of its keywords
abbrev pub is_of : Class → Item → Bool
is_of c (leaf kind place raw) = sameb the_type (class_of_kind kind) c
is_of c (node place keyword square first others close) = is_keyword c keyword

-- an item that isn't allowed where it is, is refused at its first byte: 11 if it is a node whose
-- keyword no class has, else 12
abbrev pub misplaced : Item → RefusedAt
misplaced (leaf kind place raw) = record { number = 12; place = place }
misplaced (node place keyword square first others close) =
    record { number = if is_known keyword then 12 else 11; place = place }

-- a list of arguments that isn't complete is refused at the closing delimiter
abbrev pub missing : ℕ → RefusedAt
missing close = record { number = 13; place = close }

-- there is no fault of this kind
abbrev pub IsFree : (RefusedAt → Type 0) → Type 0
IsFree Fault = (fault : RefusedAt) → Fault fault → ⊥

-- this is a fault of this kind, and there is no other
abbrev pub IsOnly : (RefusedAt → Type 0) → RefusedAt → Type 0
IsOnly Fault fault = Fault fault × ((other : RefusedAt) → Fault other → other ≡ fault)

-- an argument, after others of the classes `before`, is allowed there as this class: it is of the
-- class in its parent, and an allowed list begins so
pub record Stands (parent : Class) (before : List Class) (item : Item) (c : Class) : Type 0 where
  pub named : class_in parent item ≡ Some c
  pub begins : Begins (slots_of parent) (before ++ c ∷ [])

-- Where a fault may be at an argument that comes after others of the classes `before`: the argument
-- itself, if it isn't allowed there; else inside it; else, if it is free inside, after it.
abbrev pub AtArgument : Class → List Class → Item → Type 0 → (Class → Type 0) → (Class → Type 0) →
    (List Class → Type 0) → Type 0
AtArgument parent before item Own Within Free Later =
    (((c : Class) → Stands parent before item c → ⊥) × Own)
    ⊎ ((c : Class) × (Stands parent before item c
    × (Within c ⊎ (Free c × Later (before ++ c ∷ [])))))

abbrev mutual
  -- the fault of an item that is asked to be of this class
  pub Inside : Class → Item → RefusedAt → Type 0
  Inside c (leaf kind place raw) fault =
      IsFalse (is_of c (leaf kind place raw)) × (fault ≡ misplaced (leaf kind place raw))
  Inside c (node place keyword square first others close) fault =
      (IsFalse (is_keyword c keyword)
      × (fault ≡ misplaced (node place keyword square first others close)))
      ⊎ (IsTrue (is_keyword c keyword)
      × AtArgument c [] first (fault ≡ misplaced first) (λ d. Inside d first fault)
      (λ d. IsFree (λ f. Inside d first f)) (λ before. Among c close before others fault))

  -- the fault of a node's arguments that come after others of the classes `before`
  pub Among : Class → ℕ → List Class → Siblings → RefusedAt → Type 0
  Among c close before End fault = (Allowed (slots_of c) before → ⊥) × (fault ≡ missing close)
  Among c close before (More item items) fault =
      AtArgument c before item (fault ≡ misplaced item) (λ d. Inside d item fault)
      (λ d. IsFree (λ f. Inside d item f)) (λ b. Among c close b items fault)

-- the class of a whole text; a text is a node
abbrev pub class_of_root : Item → Option Class
class_of_root (leaf kind place raw) = None
class_of_root (node place keyword square first others close) = root_named keyword

-- the fault of a whole text: its node is asked to be a CRS of one of the five classes
abbrev pub AtRoot : Item → RefusedAt → Type 0
AtRoot item fault =
    ((class_of_root item ≡ None) × (fault ≡ misplaced item))
    ⊎ ((c : Class) × ((class_of_root item ≡ Some c) × Inside c item fault))

-- ---- shaped items: those without a fault of shape, said of the whole item at once

abbrev mutual
  -- the item is of the class, and a node's arguments are an allowed list, each of the shape of its own class
  pub Shaped : Class → Item → Type 0
  Shaped c (leaf kind place raw) = IsTrue (is_of c (leaf kind place raw))
  Shaped c (node place keyword square first others close) =
      IsTrue (is_keyword c keyword)
      × ((d : Class) × ((ds : List Class) ×
      ((class_in c first ≡ Some d)
      × (Shaped d first × (AreShaped c ds others × Allowed (slots_of c) (d ∷ ds))))))

  -- items are of these classes in their parent, one by one, and each has the shape of its class
  pub AreShaped : Class → List Class → Siblings → Type 0
  AreShaped c [] End = Unit {0}
  AreShaped c [] (More item items) = ⊥
  AreShaped c (d ∷ ds) End = ⊥
  AreShaped c (d ∷ ds) (More item items) = (class_in c item ≡ Some d) × (Shaped d item × AreShaped c ds items)
