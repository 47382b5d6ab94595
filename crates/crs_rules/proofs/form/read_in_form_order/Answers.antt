use Rattle.std.proofs.Common.{◌≡◌, ◌∙◌, false, subst, sym, true}
use Rattle.crs_value.specs.declared.values.level.Level.TheVariants as levels
use Rattle.crs_normal.specs.inner.Prelude.{axis_text}
use Rattle.crs_rules.specs.FormOrder.{in_form_order}
use Rattle.crs_rules.specs.Rewritten.{rewritten}
use Rattle.crs_rules.specs.Rules.{RulesParts, meaning}
use Rattle.crs_rules.specs.inner.AnyOrder.{axes_in_any_order}
use Rattle.crs_rules.proofs.FormOrderLemmas.{where-counted, where-uncounted}
use Rattle.crs_rules.proofs.NoRulesLemmas.{any-order}
use Rattle.crs_rules.proofs.TextLemmas.{texts-of-axes}
use Rattle.crs_rules.proofs.form.read_in_form_order.Goals as goal
use Rattle.crs_rules.proofs.form.read_in_form_order.Goals.{else-are_axes_in_any_order+else-rules, else-are_axes_in_any_order+then-rules+in_ok-put_in_form_order, then-are_axes_in_any_order+in_ok-rewrite}

pub returns : goal.returns
returns c =
    let m = meaning c.args.rules.now in
    let text = axis_text levels.Full in
    let x = c.in_ok-crs.crs in
    let in_order : c.if-are_axes_in_any_order.crs ≡ in_form_order text m x = elim c.if-are_axes_in_any_order.branch [
      | then-are_axes_in_any_order+in_ok-rewrite w ↦
          let is : c.args.rules.now ≡ axes_in_any_order = c.are_axes_in_any_order.ensures w.if-are_axes_in_any_order.true in
          w.crs-is
          ∙ (w.in_ok-rewrite.ensures
          ∙ subst (λ (r : RulesParts). rewritten text (meaning r) x ≡ in_form_order text (meaning r) x) (sym is) (any-order text x))
      | else-are_axes_in_any_order+then-rules+in_ok-put_in_form_order w ↦
          let uncounted = subst (λ (r : RulesParts). r.uncounted.axis_order ≡ true) c.rules.view_is w.if-rules.true in
          w.crs-is ∙ (w.in_ok-put_in_form_order.ensures ∙ sym (where-uncounted text m x uncounted))
      | else-are_axes_in_any_order+else-rules w ↦
          let counted = subst (λ (r : RulesParts). r.uncounted.axis_order ≡ false) c.rules.view_is w.if-rules.false in
          w.crs-is ∙ sym (where-counted text m x counted)
    ] in
    record {
      value = x;
      spells = c.in_ok-crs.ensures;
      axis_text = text;
      are_axis_texts = texts-of-axes c.axes_are_canonical.ensures;
      in_order = in_order;
    }
