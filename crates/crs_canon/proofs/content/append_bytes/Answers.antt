use Rattle.std.proofs.Common.{◌≡◌, refl}
use Rattle.crs_canon.proofs.SpellingLemmas.{extended}
use Rattle.crs_canon.proofs.content.append_bytes.Goals as goal

pub returns : goal.returns
returns c =
    extended (λ written. written ≡ c.args.bytes.now) _ _ _ _ c.extend_from_slice.result c.extend_from_slice.ensures.items refl refl
