use Rattle.std.proofs.Common.{◌≡◌, ◌↔◌, ℕ, List, subst, sym}
use Rattle.crs_value.specs.inner.Prelude.{IsCrs}
use Rattle.crs_value.specs.declared.values.crs.Crs.{Crs}
use Rattle.crs_same.specs.inner.Prelude.{SameCrs}
use Rattle.crs_normal.specs.inner.Prelude.{norm_crs}
use Rattle.crs_writer.specs.Canonical.{IsCanonicalText}
use Rattle.crs_writer.specs.inner.CrsText.{crs_text}
use Rattle.crs_writer.proofs.laws.crss_are_canonical.Goals as goal

pub returns : goal.returns
returns c level =
    let laws = c.same_crs_is_equivalence.ensures level in
    let own : (x : Crs) → IsCrs x → IsCanonicalText level x (crs_text level x) = λ x s. record {
      normal = c.written_form_is_normal.ensures level x s;
      value = norm_crs level x;
      spells = c.written_form_is_accepted.ensures level x s;
      same = c.one_form_is_the_same.ensures level x s;
    } in
    let equal : (a b : Crs) (first second : List ℕ) → IsCrs a → IsCrs b → IsCanonicalText level a first →
    IsCanonicalText level b second → (first ≡ second) ↔ SameCrs level a b = λ a b first second sa sb ca cb.
    let ia = c.spelled_crs_is_sound.ensures first ca.value ca.spells in
    let ib = c.spelled_crs_is_sound.ensures second cb.value cb.spells in
    let equal = c.normal_texts_are_equal_where_same.ensures level first second ca.value cb.value ca.normal cb.normal ca.spells cb.spells in (
      λ e. laws.transitive a ca.value b sa ia sb ca.same
          (laws.transitive ca.value cb.value b ia ib sb (equal.0 e) (laws.symmetric b cb.value sb ib cb.same)),
      λ same. equal.1 (laws.transitive ca.value a cb.value ia sa ib (laws.symmetric a ca.value sa ia ca.same)
          (laws.transitive a b cb.value sa sb ib same cb.same)),
    ) in
    record {
      form = record {
        there = λ x s. (crs_text level x, own x s);
        one = λ x first second s p q. (equal x x first second s s p q).1 (laws.reflexive x s);
        equal = equal;
        closed = λ x bytes s p. c.normal_text_is_closed_node.ensures.closed level bytes p.normal;
      };
      written = λ x bytes s e. subst (IsCanonicalText level x) (sym e) (own x s);
    }
