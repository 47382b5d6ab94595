use Rattle.crs_decimal.proofs.WholeLemmas.{whole-test}
use Rattle.crs_decimal.proofs.decimal.Decimal.is_whole.Goals as goal

pub returns-in-Some : goal.returns-in-Some
returns-in-Some c =
    whole-test c.same_number_is_equivalence.ensures.symmetric c.same_number_is_equivalence.ensures.transitive c.args.self.now c.in-Some.whole c.args.number c.in-Some.ensures
