-- A bridge: the test of equality distinguishes equal canonical texts from others, and equal ones give a hash the same.
use Rattle.std.specs.Prelude.{◌≡◌, ◌↔◌, true}
use Rattle.std.proofs.Common.{ap, rules, ◌∙◌}
use Rattle.std.specs.Cmp.{IsEquivalence, and_equiv, on_equiv, nat_eq_equiv, first_so, second_so}
use Rattle.std.specs.Cmp.Lexicographic.{bytes_decides, nat_list_eq_equiv}
use denote.Enum.Bare.{sameb, same_true}
use denote.Enum.Declared.{tag_of}
use Rattle.crs_value.specs.contracts.values.level.Level.{the_type}
use Rattle.crs_writer.specs.Canonical.{CanonicalText, canon_writes, canons_equal}

-- the test is an equivalence
pub canons-equivalence : IsEquivalence canons_equal
canons-equivalence =
    and_equiv (on_equiv (λ canon. tag_of the_type canon.level) nat_eq_equiv)
    (on_equiv (λ canon. canon.bytes) nat_list_eq_equiv)

-- the test holds exactly of equal canonical texts
pub canons-decide : (a b : CanonicalText) → (canons_equal a b ≡ true) ↔ (a ≡ b)
canons-decide a b = (equal, back)
  where
    equal : canons_equal a b ≡ true → a ≡ b
    equal so =
        let levels : a.level ≡ b.level =
        same_true the_type (search rules) a.level b.level (first_so _ _ so) in
        let bytes : a.bytes ≡ b.bytes =
        (bytes_decides a.bytes b.bytes).0 (second_so (sameb the_type a.level b.level) _ so) in
        λ i. record { bytes = bytes i; level = levels i }

    back : a ≡ b → canons_equal a b ≡ true
    back one = ap (λ canon. canons_equal canon b) one ∙ canons-equivalence.refl b

-- canonical texts that pass the test give a hash the same bytes
pub canons-hash : (a b : CanonicalText) → canons_equal a b ≡ true → canon_writes a ≡ canon_writes b
canons-hash a b so = ap canon_writes ((canons-decide a b).0 so)
