-- What makes a relation one of sameness: it is an equivalence.

-- a relation of sameness holds of each value and itself, in either order, and from one value over a second to a third
pub record IsSameness {A : Type 0} (Same : A → A → Type 0) : Type 0 where
  pub reflexive : (a : A) → Same a a
  pub symmetric : (a b : A) → Same a b → Same b a
  pub transitive : (a b c : A) → Same a b → Same b c → Same a c

-- a relation is one of sameness among the values of which `IsValue` holds
pub record IsSamenessOf {A : Type 0} (IsValue : A → Type 0) (Same : A → A → Type 0) : Type 0 where
  pub reflexive : (a : A) → IsValue a → Same a a
  pub symmetric : (a b : A) → IsValue a → IsValue b → Same a b → Same b a
  pub transitive : (a b c : A) → IsValue a → IsValue b → IsValue c → Same a b → Same b c → Same a c
