use Rattle.std.proofs.Common.{◌∙◌, refl}
use Rattle.clap.specs.Words.{found_of}
use Rattle.crs_desk.proofs.ReadingLemmas.{flag_read}
use Rattle.crs_desk.proofs.line.reading.flag_asked.Goals as goal

pub returns : goal.returns
returns c =
    c.eq.ensures
    ∙ flag_read (found_of c.args.matches.now) c.args.name.now c.get_str.result _ c.unwrap_or.result c.unwrap_or.ensures c.get_str.ensures refl
