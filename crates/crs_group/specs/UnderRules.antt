-- Which catalogue is that of some lines under rules.
use Rattle.std.specs.Prelude.{◌≡◌, ◌↔◌, ℕ, List}
use Rattle.crs_value.specs.declared.values.level.Level.{Level}
use Rattle.crs_rules.specs.Rules.{RulesParts}
use Rattle.crs_rules.specs.Rewritten.{IsForm, SameUnder}
use Rattle.crs_group.specs.Catalogue.{CatalogueParts, Line}
use Rattle.crs_group.specs.declared.placed.Placed.TheVariants.{Group}
use Rattle.crs_group.specs.GroupTexts.{IsCatalogueBy, IsCatalogueOfBy, PlacedLine}

-- two lines are in one group exactly where their texts are the same under the rules
abbrev pub ShareWhereSameUnder : RulesParts → Level → PlacedLine → PlacedLine → Type 0
ShareWhereSameUnder rules level p q = (m n : ℕ) → p.place ≡ Group m → q.place ≡ Group n
    → (m ≡ n) ↔ SameUnder rules level p.line.text q.line.text

-- the catalogue is that of lines at these places under the rules, and its texts are their forms
abbrev pub IsCatalogueUnder : RulesParts → List PlacedLine → CatalogueParts → Type 0
IsCatalogueUnder rules placed catalogue = IsCatalogueBy (IsForm rules) (ShareWhereSameUnder rules) placed catalogue

-- the catalogue is that of these lines under the rules
abbrev pub IsCatalogueOfUnder : RulesParts → List Line → CatalogueParts → Type 0
IsCatalogueOfUnder rules lines catalogue = IsCatalogueOfBy (IsForm rules) (ShareWhereSameUnder rules) lines catalogue
