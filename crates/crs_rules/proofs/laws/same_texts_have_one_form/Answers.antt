use Rattle.std.proofs.Common.{◌≡◌, ℕ, List}
use Rattle.crs_value.specs.declared.values.level.Level.{Level}
use Rattle.crs_writer.specs.inner.Prelude.{IsCanonicalOf}
use Rattle.crs_canon.specs.MainTheorem.{SpellSame}
use Rattle.crs_rules.specs.Rules.{RulesParts}
use Rattle.crs_rules.specs.Rewritten.{IsForm}
use Rattle.crs_rules.proofs.laws.same_texts_have_one_form.Goals as goal

pub returns : goal.returns
returns c =
    let form : (r : RulesParts) (level : Level) (first second bytes : List ℕ) → SpellSame level first second →
    IsForm r level first bytes → IsForm r level second bytes = λ r level first second bytes s f.
    let b = (c.main_theorem.ensures level).there second (s.1, s.3) in
    let e : f.canonical ≡ b.0 =
    (c.answers_are_equal_where_same.ensures.equal level first second f.canonical b.0 f.is_canonical b.1).1 s in
    let canonical : IsCanonicalOf level second f.canonical = rw e b.1 in
    search (canonical, f.spells, f.are_axis_texts, f.form) in
    record {
      form = form;
      same = λ r level first second h s.
          let f = c.accepted_text_has_one_form.ensures.there r level first h (s.0, s.2) in
          (f.0, f.1, form r level first second f.0 s f.1);
    }
