-- A bridge: the test holds exactly of nodes that say the same, and those give a hash the same.
use mathlib.Core.Bool.{beq}
use Rattle.std.specs.Prelude.{◌≡◌, ◌&&◌, Bool, Decides, true, nat_eq}
use Rattle.std.specs.Ordering.{int_eq}
use Rattle.std.proofs.Common.{ap, rules, ◌∙◌}
use Rattle.std.specs.Cmp.{IsEquivalence, booleans_Decides, decided, first_so, second_so, signed_Decides, unsigned_Decides}
use Rattle.std.specs.Cmp.Lexicographic.{bytes_decides, pointwise}
use denote.Enum.Bare.{sameb, same_true, true_same}
use Rattle.crs_decimal.specs.Numbers.{Value}
use Rattle.crs_shape.specs.contracts.class.Class.{the_type}
use Rattle.crs_shape.specs.declared.class.Class.{Class}
use Rattle.crs_rules.specs.inner.Equality.{member_writes, members_equal}
use Rattle.crs_rules.specs.Members.{MemberParts}
use Rattle.crs_rules.specs.Rules.{factors_equal}

-- a test that joins two, and what each of them tells
pub joined : {A B C : Type 0} (p q : Bool) → Decides p A → Decides q B → (C → A) → (C → B) → (A → B → C)
    → Decides (p && q) C
joined {C = C} p q a b left right whole = (forth, λ c. back (a.1 (left c)) (b.1 (right c)))
  where
    forth : (p && q) ≡ true → C
    forth so = whole (a.0 (first_so p q so)) (b.0 (second_so p q so))

    back : p ≡ true → q ≡ true → (p && q) ≡ true
    back one other = ap (λ t. t && q) one ∙ other

-- the test of factors holds exactly of equal ones
pub factors-decide : (a b : Value) → Decides (factors_equal a b) (a ≡ b)
factors-decide a b =
    joined (beq a.negative b.negative) (nat_eq a.digits b.digits && int_eq a.power b.power)
    (booleans_Decides a.negative b.negative)
    (joined {C = (a.digits ≡ b.digits) × (a.power ≡ b.power)} (nat_eq a.digits b.digits)
    (int_eq a.power b.power) (unsigned_Decides a.digits b.digits) (signed_Decides a.power b.power)
    (λ c. c.0) (λ c. c.1) (λ d p. (d, p)))
    (λ e. ap (λ v. v.negative) e) (λ e. (ap (λ v. v.digits) e, ap (λ v. v.power) e))
    (λ n r. λ i. record { negative = n i; digits = r.0 i; power = r.1 i })

-- the test of classes holds exactly of equal ones
classes-decide : (c d : Class) → Decides (sameb the_type c d) (c ≡ d)
classes-decide c d = (same_true the_type (search rules) c d, true_same the_type c d)

-- the test of nodes holds exactly of those that say the same
pub members-decide : (a b : MemberParts) → Decides (members_equal a b) (a ≡ b)
members-decide a b =
    joined (sameb the_type a.class b.class)
    (pointwise nat_eq a.name b.name && factors_equal a.factor b.factor)
    (classes-decide a.class b.class)
    (joined {C = (a.name ≡ b.name) × (a.factor ≡ b.factor)} (pointwise nat_eq a.name b.name)
    (factors_equal a.factor b.factor) (bytes_decides a.name b.name)
    (factors-decide a.factor b.factor) (λ c. c.0) (λ c. c.1) (λ n f. (n, f)))
    (λ e. ap (λ m. m.class) e) (λ e. (ap (λ m. m.name) e, ap (λ m. m.factor) e))
    (λ c r. λ i. record { class = c i; name = r.0 i; factor = r.1 i })

-- the test is an equivalence
pub members-equivalence : IsEquivalence members_equal
members-equivalence = decided members_equal members-decide

-- nodes that pass the test give a hash the same bytes
pub members-hash : (a b : MemberParts) → members_equal a b ≡ true → member_writes a ≡ member_writes b
members-hash a b so = ap member_writes ((members-decide a b).0 so)
