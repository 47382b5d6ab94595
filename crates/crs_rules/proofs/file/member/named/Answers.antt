use Rattle.std.proofs.Common.{subst, sym}
use Rattle.crs_text.specs.inner.Prelude.{here, rest_of}
use Rattle.crs_value.specs.inner.Prelude.{IsReading, item_at, IsText}
use Rattle.crs_rules.specs.Members.{kind_of}
use Rattle.crs_rules.specs.inner.Named.{SaysNamed}
use Rattle.crs_rules.proofs.MemberLemmas.{is-factor, is-text, no-name}
use Rattle.crs_rules.proofs.file.member.named.Goals as goal

pub returns-in_err-factor-clause-says : goal.returns-in_err-factor-clause-says
returns-in_err-factor-clause-says c =
    subst (IsReading (SaysNamed c.args.class (here c.args.items.now c.args.text))) (sym c.from_residual.ensures)
    (no-name c.args.class (here c.args.items.now c.args.text) c.in_err-factor.ensures)

pub invariant_of-result : goal.invariant_of-result
invariant_of-result c = record {
  name = subst IsText (sym c.raw.ensures)
      (is-text (item_at c.args.items.now c.args.text) c.formed.ensures c.requires.text);
  factor = is-factor (kind_of c.args.class) (rest_of (here c.args.items.now c.args.text)) c.in_ok-factor.factor
      c.in_ok-factor.ensures;
}
