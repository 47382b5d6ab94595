-- From the text of each value: its spelling, and what spellings have in common.
use Rattle.std.proofs.Common.{◌≡◌, ◌∙◌, ℕ, List, refl, subst, sym}
use Rattle.crs_normal.specs.inner.Prelude.{IsClosed, IsWrittenForm}
use Rattle.crs_normal.specs.inner.Decides.{FormDecides}

-- the text of a value is its one spelling, closed, and shows which values are the same
pub record IsOneText {V : Type 0} (IsValue : V → Type 0) (Same : V → V → Type 0) (IsSpelling : V → List ℕ → Type 0)
    (text : V → List ℕ) : Type 0 where
  pub spelled : (value : V) → IsValue value → IsSpelling value (text value)
  pub one : (value : V) (bytes : List ℕ) → IsValue value → IsSpelling value bytes → bytes ≡ text value
  pub equal_bytes : FormDecides IsValue text Same
  pub closed : (value : V) → IsValue value → IsClosed (text value)

module _ {V : Type 0} {IsValue : V → Type 0} {Same : V → V → Type 0} {IsSpelling : V → List ℕ → Type 0} {text : V → List ℕ} where
  pub written-form : IsOneText IsValue Same IsSpelling text → IsWrittenForm IsValue Same IsSpelling text
  written-form known = record {
    form = record {
      there = λ value is. (text value, known.spelled value is);
      one = λ value first second is p q. known.one value first is p ∙ sym (known.one value second is q);
      equal = λ a b first second s t p q.
          let x = known.one a first s p in
          let y = known.one b second t q in
          (λ e. (known.equal_bytes a b s t).0 (sym x ∙ e ∙ y), λ same. x ∙ (known.equal_bytes a b s t).1 same ∙ sym y);
      closed = λ value bytes is p. subst IsClosed (sym (known.one value bytes is p)) (known.closed value is);
    };
    written = λ value bytes is e. subst (IsSpelling value) (sym e) (known.spelled value is);
  }

  pub one-text : IsWrittenForm IsValue Same IsSpelling text → IsOneText IsValue Same IsSpelling text
  one-text it =
      let own : (value : V) → IsValue value → IsSpelling value (text value) =
      λ value is. it.written value (text value) is refl in
      record {
        spelled = own;
        one = λ value bytes is p. it.form.one value bytes (text value) is p (own value is);
        equal_bytes = λ a b s t. it.form.equal a b (text a) (text b) s t (own a s) (own b t);
        closed = λ value is. it.form.closed value (text value) is (own value is);
      }
