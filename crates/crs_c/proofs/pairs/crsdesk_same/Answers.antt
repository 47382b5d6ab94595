use Rattle.std.proofs.Common.{◌↔◌, IsTrue, refl, rules}
use Rattle.crs_same.specs.inner.Prelude.{SameCrs}
use Rattle.crs_c.specs.Same.{TellsSame}
use Rattle.crs_c.specs.Pairs.{IsPairAnswer}
use Rattle.crs_c.proofs.PairLemmas.{at-level, pair-fault, pair-made}
use Rattle.crs_c.proofs.pairs.crsdesk_same.Goals as goal

pub returns-in-Ok : goal.returns-in-Ok
returns-in-Ok c =
    let made = rw c.in-Ok.is at c.made_of_both.ensures in
    at-level c.args.level c.in-Some.level (λ l. IsPairAnswer (TellsSame l) c.args.first.now c.args.second.now) _ _ _ c.in-Some.ensures
    (pair-made (TellsSame c.in-Some.level) (λ a b found. IsTrue found ↔ SameCrs c.in-Some.level a b) c.args.first.now c.args.second.now c.in-Ok.found _ _ _ made.0
    (λ a b like. (c.in-Ok.found, like, refl, search (rules, made.1))))

pub returns-in-Err : goal.returns-in-Err
returns-in-Err c =
    at-level c.args.level c.in-Some.level (λ l. IsPairAnswer (TellsSame l) c.args.first.now c.args.second.now) _ _ _ c.in-Some.ensures
    (pair-fault (TellsSame c.in-Some.level) c.args.first.now c.args.second.now _ _ _ c.in-Err.code
    (rw c.in-Err.is at c.made_of_both.ensures))
