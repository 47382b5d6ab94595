use Rattle.std.proofs.Common.{◌≡◌, ◌∙◌, ◌++◌, ◌-◌, List, ℕ, length, replicate, take, ap, refl}
use Rattle.std.proofs.lemmas.List.{drop-replicate}
use Rattle.crs_c.specs.Pieces.{IsPiece, piece_of}
use Rattle.crs_c.proofs.calls.piece.piece_of.Goals as goal

pub returns : goal.returns
unfolding IsPiece
returns c =
    let piece = c.front_of-piece.result.now in
    let is : piece ≡ piece_of c.args.text.now c.args.from =
    c.front_of-piece.ensures.value ∙ ap (λ (xs : List ℕ). take 240 xs) c.rest_of.ensures in
    let zeros : c.split_at_mut-front.result.1.now ≡ replicate (240 - length piece) 0 =
    c.split_at_mut-front.ensures.back ∙ drop-replicate (length piece) 240 0 in (
      refl,
      ap (λ (xs : List ℕ). length xs) is,
      ap (λ (xs : List ℕ). xs ++ c.split_at_mut-front.result.1.now) (c.copy_from_slice.ensures.after ∙ is)
          ∙ ap (λ (rest : List ℕ). piece_of c.args.text.now c.args.from ++ rest)
          (zeros ∙ ap (λ (xs : List ℕ). replicate (240 - length xs) 0) is),
    )
