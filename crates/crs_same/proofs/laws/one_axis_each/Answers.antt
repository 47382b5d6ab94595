use Rattle.std.proofs.Common.{◌≡◌, sym, ◌∙◌}
use Rattle.crs_same.proofs.PositionLemmas.{one-stands, one-alone}
use Rattle.crs_same.proofs.laws.one_axis_each.Goals as goal

pub returns : goal.returns
returns c = record {
  some = one-stands c.same_number_is_equivalence.ensures.symmetric c.same_number_is_equivalence.ensures.transitive c.normal_is_one.ensures;
  one = λ system sound position x y first second. let both =
      one-alone c.same_number_is_equivalence.ensures.symmetric c.same_number_is_equivalence.ensures.transitive c.normal_is_one.ensures
      system sound (λ axis. axis ≡ x) (λ axis. axis ≡ y) position first second in
      sym both.1 ∙ both.2;
}
