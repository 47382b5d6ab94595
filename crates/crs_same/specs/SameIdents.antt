-- When identifiers are the same, one by one and as a set, and what has a name and identifiers alone; lists that are taken as sets.
use Rattle.std.specs.Prelude.{List, [], ◌∷◌, Option, Some, None, ◌⊎◌, ◌≡◌}
use Rattle.crs_value.specs.declared.values.level.Level.{Level}
use Rattle.crs_value.specs.Kept.{kept}
use Rattle.crs_value.specs.NamedValues.{IdentParts, NamedParts}

-- ---- lists that are taken as sets, and parts that may be missing

-- one of these is the same as x
abbrev pub HasSame : {V : Type 0} → (V → V → Type 0) → V → List V → Type 0
HasSame Same x [] = ⊥
HasSame Same x (y ∷ ys) = Same x y ⊎ HasSame Same x ys

-- each of the first has a same one among the others
abbrev pub AllHaveSame : {V : Type 0} → (V → V → Type 0) → List V → List V → Type 0
AllHaveSame Same [] ys = Unit {0}
AllHaveSame Same (x ∷ xs) ys = HasSame Same x ys × AllHaveSame Same xs ys

-- two lists are the same set: each member of either has a same member in the other
abbrev pub SameSet : {V : Type 0} → (V → V → Type 0) → List V → List V → Type 0
SameSet Same xs ys = AllHaveSame Same xs ys × AllHaveSame Same ys xs

-- the members of a list, and one before them, if there is one: of usages, the one whose parts are bare
abbrev pub with_bare : {V : Type 0} → Option V → List V → List V
with_bare None members = members
with_bare (Some bare) members = bare ∷ members

-- both are missing, or both are there and the same
abbrev pub BothOrNeither : {V : Type 0} → (V → V → Type 0) → Option V → Option V → Type 0
BothOrNeither Same None None = Unit {0}
BothOrNeither Same (Some x) (Some y) = Same x y
BothOrNeither Same a b = ⊥

-- ---- when identifiers are the same, one by one and as a set, and what has a name and identifiers alone

-- two identifiers are the same: two texts are when their characters are, and what may be missing is
-- missing in both or the same in both
pub record SameIdent (a b : IdentParts) : Type 0 where
  pub authority : a.authority ≡ b.authority
  pub code : a.code ≡ b.code
  pub version : a.version ≡ b.version
  pub citation : a.citation ≡ b.citation
  pub uri : a.uri ≡ b.uri

-- the identifiers that the level keeps of a part, as a set
abbrev pub SameIdents : Level → List IdentParts → List IdentParts → Type 0
SameIdents level xs ys = SameSet SameIdent (kept level xs) (kept level ys)

-- two values that have a name and identifiers alone are the same:
-- members of ensembles, geoid models and deformation models
pub record SameNamed (level : Level) (a b : NamedParts) : Type 0 where
  pub name : a.name ≡ b.name
  pub identifiers : SameIdents level a.identifiers b.identifiers
