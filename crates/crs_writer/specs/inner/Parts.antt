-- A bridge: what is written of the parts of a node, which are those of a value, or read from an item.
use Rattle.std.specs.Prelude.{ℕ, List, [], ◌∷◌, ◌++◌, Option, Some, None, codes}
use Rattle.std.specs.Option.{option_map}
use Rattle.crs_decimal.specs.Numbers.{plain, Value}
use Rattle.crs_text.specs.Items.{End}
use Rattle.crs_value.specs.Values.{DatumParts}
use Rattle.crs_value.specs.declared.values.level.Level.{Level}
use Rattle.crs_normal.specs.inner.SpelledFrames.{item_ellipsoid, norm_ellipsoid}
use Rattle.crs_normal.specs.inner.SpelledItems.{each, item_ident, number_node, opt, set_idents, text_node}
use Rattle.crs_writer.specs.inner.Openings.{named_node}

-- what the first of some parts says, and what the others say
abbrev pub SaysFirst : {P M V : Type 0} → (P → V → Type 0) → (M → List V → Type 0) → P → M → List V → Type 0
SaysFirst Says Say first others [] = ⊥
SaysFirst Says Say first others (value ∷ values) = Says first value × Say others values

-- the text of a part after a comma, if there is one
abbrev pub opt_text : {V : Type 0} → (V → List ℕ) → Option V → List ℕ
opt_text text None = []
opt_text text (Some value) = 44 ∷ text value

-- a node of one number after its opening, if there is one
abbrev pub number_behind : List ℕ → Option Value → List ℕ
number_behind opening None = []
number_behind opening (Some value) = opening ++ (plain value ++ 93 ∷ [])

-- a reference frame after its opening, as it is at a level
abbrev pub datum_node : Level → List ℕ → DatumParts → List ℕ
datum_node level opening datum =
    named_node opening datum.name (opt item_ellipsoid (option_map (norm_ellipsoid level) datum.ellipsoid)
    (opt (text_node (codes "ANCHOR")) datum.anchor (opt (number_node (codes "ANCHOREPOCH")) datum.anchor_epoch
    (each item_ident (set_idents level datum.identifiers) End))))
