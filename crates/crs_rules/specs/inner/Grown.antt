-- A bridge: what is known of rules files is only added to.
use Rattle.std.specs.Prelude.{◌≡◌, ◌++◌, List}
use Rattle.crs_rules.specs.Statements.{Reading}

-- a list begins with another
abbrev pub Extends : {A : Type 0} → List A → List A → Type 0
Extends {A = A} xs ys = (more : List A) × (ys ≡ xs ++ more)

-- the nodes that stood, the names, the units and the kinds are those of before, and maybe more
pub record HasGrown (before behind : Reading) : Type 0 where
  pub seen : Extends before.seen behind.seen
  pub names : Extends before.rules.names behind.rules.names
  pub units : Extends before.rules.units behind.rules.units
  pub kinds : Extends before.rules.kinds behind.rules.kinds
