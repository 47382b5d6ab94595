use Rattle.std.proofs.Common.{◌+◌, ◌%◌, nat_lt, bit_or, refl}
use Rattle.std.proofs.lemmas.Bool.{agree_below_at}
use Rattle.crs_text.specs.Tokens.{is_letter}
use Rattle.crs_text.proofs.runs.is_letter.Goals as goal

pub returns : goal.returns
returns c = agree_below_at (λ b. nat_lt ((bit_or b 32 + 159) % 256) 26) is_letter 256 c.args.byte refl c.ranges.byte.fits
