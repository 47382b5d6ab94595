use Rattle.std.proofs.Common.{◌≡◌, ap, ◌∙◌, rules}
use Rattle.crs_shape.specs.inner.Walk.{may_go, slots_left}
use Rattle.crs_shape.proofs.faults.ExpectedLemmas.{comes}
use Rattle.crs_shape.proofs.expectation.Expected.has.Goals as goal

pub returns-in-Some : goal.returns-in-Some
returns-in-Some c =
    let goes : c.is_some.result ≡ may_go (slots_left c.in-Some.parent c.self.inside.walk) c.args.class = search rules in
    goes ∙ comes c.self.inside.parent c.in-Some.parent c.args.class c.self.inside.walk c.args.self.now.classes c.in-Some.is (ap (λ e. e.classes) c.self.view_is)
