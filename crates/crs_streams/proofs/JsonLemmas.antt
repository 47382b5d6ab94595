-- Tests of one fact, and the name of a member that is appended.
use Rattle.std.proofs.Common.{◌≡◌, ◌↔◌, ◌∙◌, ◌++◌, ℕ, List, Bool, true, false, IsTrue, append_assoc, codes, refl, sym}
use Rattle.crs_streams.specs.Json.{key}

-- two tests of one fact are the same
pub same_test : {P : Type 0} (one other : Bool) → IsTrue one ↔ P → (P → other ≡ true) → (other ≡ true → P) → one ≡ other
same_test true true is to from = refl
same_test true false is to from = sym (to (is.0 refl))
same_test false true is to from = is.1 (from refl)
same_test false false is to from = refl

pub key_appended : (new out name : List ℕ) → new ≡ ((out ++ codes ",\"") ++ name) ++ codes "\":" → new ≡ out ++ key name
unfolding key
key_appended new out name is = is ∙ simp append_assoc refl
