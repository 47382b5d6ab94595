use Rattle.std.proofs.Common.{ℕ, Vec, Global}
use Rattle.crs_c.specs.Explain.{AreLines}
use Rattle.crs_c.specs.Buffers.{Gives}
use Rattle.crs_c.specs.Pairs.{IsPairAnswer}
use Rattle.crs_c.proofs.PairLemmas.{at-level, pair-fault, pair-made}
use Rattle.crs_c.proofs.pairs.crsdesk_differences.Goals as goal

pub returns-in-Ok : goal.returns-in-Ok
returns-in-Ok c =
    let made = rw c.in-Ok.is at c.made_of_both.ensures in
    let given = rw c.deref.ensures.value at c.give.ensures in
    at-level c.args.level c.in-Some.level (λ l. IsPairAnswer (λ a b. Gives (AreLines l a b)) c.args.first.now c.args.second.now) _ _ _ c.in-Some.ensures
    (pair-made (λ a b. Gives (AreLines c.in-Some.level a b)) (λ a b (told : Vec ℕ Global). AreLines c.in-Some.level a b told.items) c.args.first.now c.args.second.now c.in-Ok.told _ _ _ made.0
    (λ a b like. (c.in-Ok.told.items, like, given, made.1)))

pub returns-in-Err : goal.returns-in-Err
returns-in-Err c =
    at-level c.args.level c.in-Some.level (λ l. IsPairAnswer (λ a b. Gives (AreLines l a b)) c.args.first.now c.args.second.now) _ _ _ c.in-Some.ensures
    (pair-fault (λ a b. Gives (AreLines c.in-Some.level a b)) c.args.first.now c.args.second.now _ _ _ c.in-Err.code
    (rw c.in-Err.is at c.made_of_both.ensures))
