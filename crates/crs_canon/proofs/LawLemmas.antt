-- The laws of a type of node, from what is known of its spellings at each level.
use Rattle.std.proofs.Common.{◌≡◌, ℕ, List, refl, subst}
use Rattle.crs_value.specs.declared.values.level.Level.{Level}
use Rattle.crs_normal.specs.inner.Prelude.{IsCanonicalForm, IsWrittenForm}

pub laws : {V : Type 0} {Is : V → Type 0} {Same : Level → V → V → Type 0} {IsSpelling : Level → V → List ℕ → Type 0}
    {text : Level → V → List ℕ} {seen self : V} →
    seen ≡ self → Is seen → ((level : Level) → IsWrittenForm Is (Same level) (IsSpelling level) (text level)) → record {
      value : Is self;
      form : (level : Level) → IsCanonicalForm Is (Same level) (IsSpelling level);
      written : (level : Level) (value : V) → Is value → IsSpelling level value (text level value);
    }
laws {Is = Is} same is are = record {
  value = subst Is same is;
  form = λ level. (are level).form;
  written = λ level value v. (are level).written value _ v refl;
}
