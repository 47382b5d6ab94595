-- Which value an item spells, and with which number and place it is refused.
use Rattle.std.specs.Prelude.{◌≡◌, Some, ◌⊎◌, ℕ, ◌≤◌, List}
use Rattle.crs_text.specs.Items.{Item}
use Rattle.crs_text.specs.Refusal.{RefusedAt}
use Rattle.crs_text.specs.declared.fault.Fault.{Fault}
use Rattle.crs_shape.specs.declared.class.Class.{Class}
use Rattle.crs_shape.specs.ShapeFault.{IsFree, AtRoot, class_of_root}
use Rattle.crs_value.specs.declared.values.crs.Crs.{Crs}
use Rattle.crs_value.specs.Checks.{IsLeast, Breaks}
use Rattle.crs_value.specs.ReadsCrs.{ReadsCrs, kind_of}
use Rattle.crs_text.specs.TextFault.{SpellsNode, RefusesText}
use Rattle.crs_value.specs.declared.values.crs.Kind.{Kind}
use Rattle.crs_text.specs.declared.fault.Fault.TheVariants as faults

-- the item has no fault of shape, breaks no check, and says this value
pub record SpellsCrs (item : Item) (value : Crs) : Type 0 where
  pub class_read : Class
  pub root : class_of_root item ≡ Some class_read
  pub shaped : IsFree (AtRoot item)
  pub unbroken : (fault : RefusedAt) → ¬ (Breaks class_read item fault)
  pub reads : ReadsCrs class_read item value

-- the item has its shape, and this is the check that it breaks first
pub record BreaksFirst (item : Item) (fault : RefusedAt) : Type 0 where
  pub class_read : Class
  pub root : class_of_root item ≡ Some class_read
  pub shaped : IsFree (AtRoot item)
  pub first : IsLeast (Breaks class_read item) (Some fault)

-- the item is refused with the fault of its shape, or else with the check that it breaks first
abbrev pub RefusesCrs : Item → RefusedAt → Type 0
RefusesCrs item fault = AtRoot item fault ⊎ BreaksFirst item fault

-- a fault that is a refusal is that of the item
abbrev pub IsFaultOf : Item → Fault → Type 0
IsFaultOf item (faults.Refused refusal) = RefusesCrs item refusal
IsFaultOf item (faults.Memory e) = Unit {0}

-- ---- which value a text spells, and with which number and place it is refused

-- the text is a node that spells this value
abbrev pub Spells : List ℕ → Crs → Type 0
Spells text value = (item : Item) × (SpellsNode text item × SpellsCrs item value)

-- the text spells a CRS of this kind
abbrev pub SpellsKind : List ℕ → Kind → Type 0
SpellsKind text kind = (value : Crs) × Spells text value × (kind ≡ kind_of value)

-- the text is refused with the fault of the text itself; or else, where it is a node, with the
-- fault of its shape or the check that it breaks first
abbrev pub Refuses : List ℕ → RefusedAt → Type 0
Refuses text fault =
    RefusesText text fault.number fault.place
    ⊎ ((item : Item) × (SpellsNode text item × RefusesCrs item fault))

-- a fault that is a refusal is that of the text
abbrev pub IsFaultOfText : List ℕ → Fault → Type 0
IsFaultOfText text (faults.Refused refusal) = Refuses text refusal
IsFaultOfText text (faults.Memory e) = Unit {0}

-- the number is from the one to the other
abbrev pub IsFrom : ℕ → ℕ → ℕ → Type 0
IsFrom low high n = (low ≤ n) × (n ≤ high)

-- the numbers of refusals: of a text, of its shape, of its value
abbrev pub IsRefusalNumber : ℕ → Type 0
IsRefusalNumber n = IsFrom 1 8 n ⊎ (IsFrom 11 13 n ⊎ IsFrom 21 29 n)
