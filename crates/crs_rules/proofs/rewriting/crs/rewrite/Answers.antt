use Rattle.std.proofs.Common.{◌≡◌, subst, true}
use Rattle.crs_rules.specs.Rules.{RulesParts, meaning}
use Rattle.crs_rules.proofs.CrsLemmas.{renamed-orderless}
use Rattle.crs_rules.proofs.rewriting.crs.rewrite.Goals as goal

pub arrange_crs-requires : goal.arrange_crs-requires
arrange_crs-requires c =
    rw c.rename.ensures
    (renamed-orderless (meaning c.args.rules.now)
    (subst (λ (r : RulesParts). r.uncounted.axis_order ≡ true) c.rules.view_is c.if-rules.true) c.args.crs.now)
