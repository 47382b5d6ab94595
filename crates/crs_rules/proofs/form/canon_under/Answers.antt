use Rattle.crs_value.specs.declared.values.level.Level.TheVariants as levels
use Rattle.crs_normal.specs.inner.Prelude.{axis_text}
use Rattle.crs_rules.proofs.TextLemmas.{texts-of-axes}
use Rattle.crs_rules.proofs.form.canon_under.Goals as goal

pub form_of-requires : goal.form_of-requires
form_of-requires c =
    rw c.bytes.ensures ((c.main_theorem.ensures c.args.level).accepted c.args.text.now _ c.in_ok-canonical.ensures.answer)

pub returns-in-Ok-clause-answer : goal.returns-in-Ok-clause-answer
returns-in-Ok-clause-answer c =
    let f = c.in-Ok.ensures.form in
    record {
      canonical = c.in_ok-canonical.canonical.bytes;
      is_canonical = c.in_ok-canonical.ensures.answer;
      value = f.0;
      spells = rw c.bytes.ensures at f.1;
      axis_text = axis_text levels.Full;
      are_axis_texts = texts-of-axes c.axes_are_canonical.ensures;
      form = f.2;
    }
