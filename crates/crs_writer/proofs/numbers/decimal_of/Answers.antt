use Rattle.std.proofs.Common.{refl}
use Rattle.crs_writer.proofs.NumberLemmas.{number-read, number-refused}
use Rattle.crs_writer.proofs.numbers.decimal_of.Goals as goal

pub returns-in-Ok : goal.returns-in-Ok
returns-in-Ok c = λ value reads.
    number-read c.denotes_one.ensures c.args.raw.now c.args.raw.now c.in-Ok.value value refl c.in-Ok.ensures reads

pub returns-in-Err : goal.returns-in-Err
returns-in-Err c = λ value reads. absurd (number-refused c.args.raw.now c.args.raw.now _ value refl c.in-Err.ensures reads)
