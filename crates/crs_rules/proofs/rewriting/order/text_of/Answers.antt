use Rattle.std.proofs.Common.{◌++◌, ◌∙◌, ap}
use Rattle.crs_value.specs.declared.values.level.Level.TheVariants as levels
use Rattle.crs_normal.specs.inner.Prelude.{axis_text}
use Rattle.crs_rules.proofs.rewriting.order.text_of.Goals as goal

pub returns : goal.returns
returns c =
    let axis = c.args.axis.now in
    let spelled = c.in_ok-write.ensures in
    let one = (c.laws.ensures.form levels.Full).one axis spelled.spelling (axis_text levels.Full axis) c.laws.ensures.value
    spelled.is_spelling (c.laws.ensures.written levels.Full axis c.laws.ensures.value) in
    spelled.appended ∙ (ap (λ before. before ++ spelled.spelling) c.new-bytes.ensures.items ∙ one)
