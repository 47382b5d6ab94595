use Rattle.crs_c.specs.ExplainPieces.{ArePieces}
use Rattle.crs_c.specs.PieceBuffers.{GivesPieces}
use Rattle.crs_c.specs.Pairs.{IsPairAnswer}
use Rattle.crs_c.proofs.PairLemmas.{at-level, pair-fault, pair-made}
use Rattle.crs_c.proofs.pairs.crsdesk_difference_pieces.Goals as goal

pub returns-in-Ok : goal.returns-in-Ok
returns-in-Ok c =
    let made = rw c.in-Ok.is at c.made_of_both.ensures in
    at-level c.args.level c.in-Some.level (λ l. IsPairAnswer (λ a b. GivesPieces (ArePieces l a b)) c.args.first.now c.args.second.now) _ _ _ c.in-Some.ensures
    (pair-made (λ a b. GivesPieces (ArePieces c.in-Some.level a b)) (λ a b told. ArePieces c.in-Some.level a b told) c.args.first.now c.args.second.now c.in-Ok.told _ _ _ made.0
    (λ a b like. (c.in-Ok.told, like, c.give_pieces.ensures, made.1)))

pub returns-in-Err : goal.returns-in-Err
returns-in-Err c =
    at-level c.args.level c.in-Some.level (λ l. IsPairAnswer (λ a b. GivesPieces (ArePieces l a b)) c.args.first.now c.args.second.now) _ _ _ c.in-Some.ensures
    (pair-fault (λ a b. GivesPieces (ArePieces c.in-Some.level a b)) c.args.first.now c.args.second.now _ _ _ c.in-Err.code
    (rw c.in-Err.is at c.made_of_both.ensures))
