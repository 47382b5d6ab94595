use Rattle.std.proofs.Common.{◌∙◌}
use Rattle.crs_rules.proofs.laws.same_under_rules_is_equivalence.Goals as goal

pub returns : goal.returns
returns c =
    let one = c.accepted_text_has_one_form.ensures.one in
    record {
      reflexive = λ r level a h k. let f = c.accepted_text_has_one_form.ensures.there r level a h k in (f.0, f.1, f.1);
      symmetric = λ r level a b s. (s.0, s.2, s.1);
      transitive = λ r level a b d h s t. (t.0, rw (one r level b s.0 t.0 h s.2 t.1) at s.1, t.2);
      equal = λ r level first second a b h f g. (
        λ e. (b, rw e at f, g),
        λ s. one r level first a s.0 h f s.1 ∙ one r level second s.0 b h s.2 g,
      );
    }
