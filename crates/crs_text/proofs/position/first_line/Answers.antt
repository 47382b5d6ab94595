use Rattle.std.proofs.Common.{arith, length}
use Rattle.crs_text.proofs.texts.PositionLemmas.{none_before}
use Rattle.crs_text.proofs.position.first_line.Goals as goal

pub returns-in-Some-clause-one_line : goal.returns-in-Some-clause-one_line
returns-in-Some-clause-one_line c =
    let first = c.in-Some.ensures.0 in
    none_before c.args.bytes.now c.in-Some.feed (omega (arith, first.high)) (λ k lt. first.before k (omega arith) lt)

pub returns-in-None-clause-one_line : goal.returns-in-None-clause-one_line
returns-in-None-clause-one_line c =
    none_before c.args.bytes.now (length c.args.bytes.now) (omega arith) (λ k lt. c.in-None.ensures k (omega arith) lt)
