-- Catalogues of lines, as callers see them.
use Rattle.std.specs.Prelude.{ℕ, zero, suc, List, Option, None, map, slice_get}
use Rattle.crs_text.specs.Refusal.{RefusedAt}
use Rattle.crs_value.specs.declared.values.level.Level.{Level}
use Rattle.crs_writer.specs.Canonical.{CanonicalText}

-- a line as it is added: its number, and its text
pub record Line : Type 0 where
  pub number : ℕ
  pub text : List ℕ

-- a line of this number and this text
abbrev pub line_of : ℕ → List ℕ → Line
line_of number text = record { number = number; text = text }

-- a group: the canonical text of its lines, and their numbers
pub record GroupParts : Type 0 where
  pub canon : CanonicalText
  pub lines : List ℕ

-- the canonical texts of the groups, in the order of their numbers
abbrev pub canons : List GroupParts → List CanonicalText
canons groups = map (λ group. group.canon) groups

-- the level at which texts are compared, the groups in the order of their numbers, and the refused lines
pub record CatalogueParts : Type 0 where
  pub level : Level
  pub groups : List GroupParts
  pub refused : List (ℕ × RefusedAt)

-- the n-th member of a list, counted from 1
abbrev pub nth : {A : Type 0} → ℕ → List A → Option A
nth zero members = None
nth (suc n) members = slice_get members n
