-- Items as statements have them.
use Rattle.std.proofs.Common.{arith, ◌≡◌, ◌∙◌, ◌++◌, ◌∷◌, [], ℕ, List, MatchResult, Result, Ok, Err, IsFalse, ap, true, false, inr, subst}
use Rattle.crs_text.specs.inner.Prelude.{Item, kind_of_item, raw_of, SpellsNode}
use Rattle.crs_text.specs.declared.items.ItemKind.TheVariants as kinds
use Rattle.crs_shape.specs.declared.unit_kind.UnitKind.{UnitKind}
use Rattle.crs_value.specs.inner.Prelude.{OneIs}
use Rattle.crs_rules.specs.Members.{MemberParts}
use Rattle.crs_rules.specs.Rules.{RulesParts}
use Rattle.crs_rules.specs.inner.AddedNodes.{IsAdded}
use Rattle.crs_rules.specs.declared.uncounted.Uncounted.{Uncounted}
use Rattle.crs_rules.specs.RulesFile.{FaultOfLine, Reads, is_idle, next}
use Rattle.crs_rules.specs.declared.file.fault.RulesFault.{RulesFault}
use Rattle.crs_rules.specs.declared.file.fault.RulesFault.TheVariants as faults
use Rattle.crs_rules.specs.Statements.{FaultOfStatement, IsRefusedBy, Reading, SaysParameter, Sorts, States, is_meridian, kind_in, kind_node, kind_named, meridian_named, with_item, with_word}

pub word-kind : (item : Item) → kind_of_item item ≡ kinds.Word → kind_named (raw_of item) ≡ kind_in item
word-kind item e = grind arith

pub word-meridian : (k : UnitKind) (item : Item) → kind_of_item item ≡ kinds.Word → meridian_named k (raw_of item) ≡ is_meridian k item
word-meridian k item e = grind arith

pub word-item : (item : Item) (u : Uncounted) → kind_of_item item ≡ kinds.Word → with_word (raw_of item) u ≡ with_item item u
word-item item u e = grind arith

-- a name whose kind is declared, as the program has it
pub declared-as : (k : UnitKind) (r : Reading) (item : Item) (m node : MemberParts) (name : List ℕ) (line : ℕ)
    (seen more : List MemberParts) (rules new : RulesParts) → ◌≡◌ {A = Reading} (record { line = line; seen = seen; rules = rules }) r →
    IsFalse (is_meridian k item) → SaysParameter item m → name ≡ m.name → node ≡ kind_node name → IsAdded seen node true more →
    new ≡ record rules { kinds = rules.kinds ++ record { name = name; kind = k } ∷ [] } →
    Sorts k r item (record { line = line; seen = more; rules = new })
declared-as k r item m node name line seen more rules new e other says n d added new-is =
    let is : node ≡ kind_node m.name = d ∙ ap kind_node n in
    let nodes : more ≡ seen ++ kind_node m.name ∷ [] = added.1 ∙ ap (λ (x : MemberParts). seen ++ x ∷ []) is in
    let kinds : new ≡ record rules { kinds = rules.kinds ++ record { name = m.name; kind = k } ∷ [] } =
    new-is ∙ ap (λ (x : List ℕ). record rules { kinds = rules.kinds ++ record { name = x; kind = k } ∷ [] }) n in
    subst (λ q. Sorts k q item (record { line = line; seen = more; rules = new })) e
    (inr (
      other,
      m,
      record {
        says = says;
        new = subst (λ x. ¬ (OneIs (λ y. x ≡ y) seen)) is added.0;
        adds = λ i. record { line = line; seen = nodes i; rules = kinds i };
      },
    ))

-- what a statement answers, its line answers
pub statement-line : {A : Type 0} (r : Reading) (line : List ℕ) (item : Item) (q s : Reading) (result : Result A RulesFault)
    → is_idle line ≡ false → SpellsNode line item → q ≡ next r
    → MatchResult result (λ _. States q item s) (IsRefusedBy (FaultOfStatement q item))
    → MatchResult result (λ _. Reads r line s) (IsRefusedBy (FaultOfLine r line))
statement-line r line item q s (Ok a) busy spells e h = inr (busy, item, spells, subst (λ p. States p item s) e h)
statement-line r line item q s (Err (faults.Memory a)) busy spells e h = tt
statement-line r line item q s (Err (faults.Refused f)) busy spells e h =
    (busy, inr (item, spells, subst (λ p. FaultOfStatement p item f) e h))
