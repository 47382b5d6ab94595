-- A bridge: the test whether two nodes say the same, and what a node gives to a hash.
use Rattle.std.specs.Prelude.{◌&&◌, ℕ, Bool, List, nat_eq}
use Rattle.std.specs.Cmp.Lexicographic.{pointwise}
use Rattle.std.specs.Hash.{HashWrites, le_bytes, u64}
use Rattle.std.specs.Hash.DefaultHasher.{finish, initial, write}
use denote.Enum.Bare.{sameb}
use Rattle.crs_shape.specs.contracts.class.Class.{the_type}
use Rattle.crs_rules.specs.Members.{MemberParts}
use Rattle.crs_rules.specs.Rules.{factors_equal}

-- whether two nodes say the same
abbrev pub members_equal : MemberParts → MemberParts → Bool
members_equal a b =
    sameb the_type a.class b.class
    && (pointwise nat_eq a.name b.name && factors_equal a.factor b.factor)

-- SipHash-1-3 of a name and the digits of a factor, with both keys 0
abbrev pub digest_of : List ℕ → ℕ → ℕ
digest_of name digits = finish (write (write initial name) (le_bytes 16 digits))

-- what a node gives to a hash: the digest, as eight bytes
abbrev pub member_writes : MemberParts → HashWrites
member_writes m = u64 (digest_of m.name m.factor.digits)
