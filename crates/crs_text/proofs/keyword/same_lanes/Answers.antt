use Rattle.std.proofs.Common.{◌≡◌, ℕ, true, false, cond, eqb, refl, not, arith}
use lib.Lanes.{top}
use Rattle.crs_text.proofs.words.WordLemmas.{paired, same_taken}
use Rattle.crs_text.proofs.keyword.same_lanes.Goals as goal

pub returns : goal.returns
returns c =
    let found = paired (λ a b. cond (not (eqb a b)) 255 0) differs c.args.block c.args.letters _ c.fits-block.0 c.fits-letters.0 c.first_set.ensures in
    λ n less. same_taken n c.args.block c.args.letters c.fits-block.1 (omega (arith, less, found))
  where
    differs : (a b : ℕ) → not (top 7 (cond (not (eqb a b)) 255 0)) ≡ eqb a b
    differs a b = elim (eqb a b) as (λ t. not (top 7 (cond (not t) 255 0)) ≡ t) [ true ↦ refl | false ↦ refl ]
