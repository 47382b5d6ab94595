use Rattle.std.proofs.Common.{◌≡◌, IfOk, List, ℕ, refl, subst}
use Rattle.clap.specs.Words.{found_of}
use Rattle.crs_desk.proofs.ReadingLemmas.{level_read}
use Rattle.crs_desk.proofs.line.reading.level_word.Goals as goal

pub returns : goal.returns
returns c =
    subst (λ (text : List ℕ). IfOk c.new.result (λ level. level ≡ text))
    (level_read (found_of c.args.matches.now) c.get_str.result _ c.unwrap_or.result c.unwrap_or.ensures c.get_str.ensures refl)
    c.new.ensures
