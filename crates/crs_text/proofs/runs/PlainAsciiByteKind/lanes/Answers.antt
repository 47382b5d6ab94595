use Rattle.std.proofs.Common.{ℕ, leb, cond, bit_or, refl, sym}
use Rattle.std.proofs.lemmas.List.{map-id}
use Rattle.std.proofs.lemmas.Simd.{zip2_splat, zip2_of_maps, splat_is_map}
use Rattle.crs_text.specs.inner.Runs.{is_plain_ascii}
use Rattle.crs_text.proofs.tokens.RunLemmas.{counted}
use Rattle.crs_text.proofs.runs.PlainAsciiByteKind.lanes.Goals as goal

pub returns : goal.returns
returns c =
    let v = c.args.block in
    let long = c.fits-block.0 in
    let wide = zip2_of_maps (λ a b. cond (leb a b) 255 0) _ _ v (splat_is_map v 16 128 long) (sym (map-id v)) in
    counted is_plain_ascii _ v _ long c.fits-block.1 (zip2_of_maps bit_or _ _ v (zip2_splat {Y = ℕ} _ v 16 34 long) wide) c.first_set.ensures refl
