-- Whether a node is among those that stand in sets.
use Rattle.std.proofs.Common.{arith, ◌↔◌, ◌≡◌, ◌∷◌, [], Bool, List, true, subst, not}
use Rattle.std.specs.List.{list_any}
use Rattle.indexmap.specs.IndexSet.{insert_key}
use Rattle.crs_value.specs.inner.Prelude.{OneIs}
use Rattle.crs_rules.specs.inner.Equality.{members_equal}
use Rattle.crs_rules.specs.inner.EqualityLaws.{members-decide}
use Rattle.crs_rules.specs.Members.{MemberParts}
use Rattle.crs_rules.specs.inner.AddedNodes.{IsAdded}

-- a test that tells the node finds it where it is
among : (m : MemberParts) (test : MemberParts → Bool) → ((x : MemberParts) → (test x ≡ true) ↔ (m ≡ x))
    → (seen : List MemberParts) → (list_any test seen ≡ true) ↔ OneIs (λ n. m ≡ n) seen
among m test tells [] = (λ e. cc, λ h. absurd h)
among m test tells (x ∷ xs) = (
  λ e. grind (arith, (tells x).0, (among m test tells xs).0),
  λ one. grind (arith, (tells x).1, (among m test tells xs).1),
)

-- what an insertion answers
pub is-added : (seen : List MemberParts) (m : MemberParts) (new : Bool) (more : List MemberParts) →
    new ≡ not (list_any (members_equal m) seen) → more ≡ insert_key members_equal seen m → IsAdded seen m new more
is-added seen m new more e keys = let is = among m (members_equal m) (members-decide m) seen in grind (arith, is.0, is.1)

-- the same of the set of the program and of its key
pub is-added-as : (seen old : List MemberParts) (k m : MemberParts) (new : Bool) (more : List MemberParts) → seen ≡ old → k ≡ m →
    new ≡ not (list_any (members_equal k) seen) → more ≡ insert_key members_equal seen k → IsAdded old m new more
is-added-as seen old k m new more e f added keys =
    subst (λ xs. IsAdded xs m new more) e (subst (λ n. IsAdded seen n new more) f (is-added seen k new more added keys))
