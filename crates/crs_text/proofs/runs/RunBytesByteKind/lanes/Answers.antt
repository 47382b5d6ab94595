use Rattle.std.proofs.Common.{ℕ, leb, cond, bit_and, refl}
use Rattle.std.proofs.lemmas.Simd.{zip2_splat, zip2_of_maps, splat_is_map}
use Rattle.crs_decimal.specs.inner.Prelude.{is_run_byte}
use Rattle.crs_text.proofs.tokens.RunLemmas.{counted}
use Rattle.crs_text.proofs.runs.RunBytesByteKind.lanes.Goals as goal

pub returns : goal.returns
returns c =
    let v = c.args.block in
    let long = c.fits-block.0 in
    let letters = zip2_of_maps (λ a b. cond (leb a b) 255 0) _ _ v (splat_is_map v 16 26 long) (zip2_of_maps _ _ _ v (zip2_splat {Y = ℕ} _ v 16 32 long) (splat_is_map v 16 97 long)) in
    let digits = zip2_of_maps (λ a b. cond (leb a b) 255 0) _ _ v (splat_is_map v 16 10 long) (zip2_splat {Y = ℕ} _ v 16 48 long) in
    let signs = zip2_of_maps bit_and _ _ v (zip2_splat {Y = ℕ} _ v 16 43 long) (zip2_splat {Y = ℕ} _ v 16 45 long) in
    let marks = zip2_of_maps bit_and _ _ v (zip2_splat {Y = ℕ} _ v 16 46 long) (zip2_splat {Y = ℕ} _ v 16 95 long) in
    counted is_run_byte _ v _ long c.fits-block.1 (zip2_of_maps bit_and _ _ v (zip2_of_maps bit_and _ _ v (zip2_of_maps bit_and _ _ v letters digits) signs) marks) c.first_set.ensures refl
