use Rattle.std.proofs.Common.{◌≡◌, ap, ◌∙◌}
use Rattle.crs_value.specs.declared.values.level.Level.TheVariants as levels
use Rattle.crs_normal.specs.inner.Prelude.{axis_text}
use Rattle.crs_rules.specs.Rewritten.{rewritten}
use Rattle.crs_rules.specs.Rules.{meaning}
use Rattle.crs_rules.proofs.PartLemmas.{sound-meaning}
use Rattle.crs_rules.proofs.TextLemmas.{one-text, rewritten-by, texts-of-axes}
use Rattle.crs_rules.proofs.laws.accepted_text_has_one_form.Goals as goal

pub returns : goal.returns
returns c = record {
  there = λ r level text h a.
      let d = (c.main_theorem.ensures level).there text a in
      let v = (c.main_theorem.ensures level).accepted text d.0 d.1 in
      let sound = c.rewritten_crs_is_sound.ensures (axis_text levels.Full) r v.0 h (c.spelled_crs_is_sound.ensures d.0 v.0 v.1) in
      let f = c.canonical_texts_are_equal_where_same.ensures.there level _ sound in (
        f.0,
        record {
          canonical = d.0;
          is_canonical = d.1;
          value = v.0;
          spells = v.1;
          axis_text = axis_text levels.Full;
          are_axis_texts = texts-of-axes c.axes_are_canonical.ensures;
          form = f.1;
        },
      );
  one = λ r level text a b h f g.
      let canonical = (c.main_theorem.ensures level).one text f.canonical g.canonical f.is_canonical g.is_canonical in
      let value = c.one_answer.ensures.value g.canonical f.value g.value (rw canonical at f.spells) g.spells in
      let sound = c.spelled_crs_is_sound.ensures g.canonical g.value g.spells in
      let z = rewritten g.axis_text (meaning r) g.value in
      let same : rewritten f.axis_text (meaning r) f.value ≡ z =
      ap (rewritten f.axis_text (meaning r)) value
      ∙ rewritten-by f.axis_text g.axis_text (meaning r) (sound-meaning r h) g.value sound
      (one-text c.axes_are_canonical.ensures f.axis_text g.axis_text f.are_axis_texts g.are_axis_texts) in
      let k = c.rewritten_crs_is_sound.ensures g.axis_text r g.value h sound in
      (c.canonical_texts_are_equal_where_same.ensures.equal level z z a b k k (rw same at f.form) g.form).1
      ((c.same_crs_is_equivalence.ensures level).reflexive z k);
}
