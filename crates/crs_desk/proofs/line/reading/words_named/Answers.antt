use Rattle.std.proofs.Common.{◌≡◌, IfOk, List, rules, subst}
use Rattle.clap.specs.Words.{Text, found_of}
use Rattle.crs_desk.proofs.ReadingLemmas.{no_words, some_words}
use Rattle.crs_desk.proofs.line.reading.words_named.Goals as goal

pub returns-in-Some : goal.returns-in-Some
returns-in-Some c =
    subst (λ (texts : List Text). IfOk c.of.result (λ words. words ≡ texts))
    (some_words (found_of c.args.matches.now) c.args.name.now c.get_strs.result c.in-Some.words c.get_strs.ensures (search rules))
    c.of.ensures

pub returns-in-None : goal.returns-in-None
returns-in-None c =
    subst (λ (texts : List Text). IfOk c.of-in-None.result (λ words. words ≡ texts))
    (no_words (found_of c.args.matches.now) c.args.name.now c.get_strs.result c.get_strs.ensures (search rules))
    c.of-in-None.ensures
