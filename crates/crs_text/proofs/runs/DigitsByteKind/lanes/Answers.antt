use Rattle.std.proofs.Common.{ℕ, leb, cond, refl}
use Rattle.std.proofs.lemmas.Simd.{zip2_splat, zip2_of_maps, splat_is_map}
use Rattle.crs_decimal.specs.inner.Prelude.{is_digit}
use Rattle.crs_text.proofs.tokens.RunLemmas.{counted}
use Rattle.crs_text.proofs.runs.DigitsByteKind.lanes.Goals as goal

pub returns : goal.returns
returns c =
    let v = c.args.block in
    let long = c.fits-block.0 in
    let digits = zip2_of_maps (λ a b. cond (leb a b) 255 0) _ _ v (splat_is_map v 16 10 long) (zip2_splat {Y = ℕ} _ v 16 48 long) in
    counted is_digit _ v _ long c.fits-block.1 digits c.first_set.ensures refl
