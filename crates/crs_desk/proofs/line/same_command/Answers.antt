use Rattle.std.proofs.Common.{Ok, codes}
use Rattle.clap.specs.Simple.{new_shape}
use Rattle.crs_desk.proofs.OptionLemmas.{grown, grows_none, grows_one}
use Rattle.crs_desk.proofs.line.same_command.Goals as goal

pub returns : goal.returns
returns c =
    let alone = grows_none (Ok c.lone_command-alone.result) c.lone_command-alone.ensures.globals in
    let one = grows_one c.needed_word.result alone c.arg-command.ensures c.needed_word.ensures.local c.needed_word.ensures.rule in
    let two = grows_one c.needed_word-2.result one c.with_argument-command.ensures c.needed_word-2.ensures.local c.needed_word-2.ensures.rule in
    let three = grows_one c.level_argument.result two c.with_argument-command-2.ensures c.level_argument.ensures.local c.level_argument.ensures.rule in
    let four = grows_one c.rules_argument.result three c.with_argument-command-3.ensures c.rules_argument.ensures.local c.rules_argument.ensures.rule in
    let five = grows_one c.flag_argument.result four c.with_argument-command-4.ensures c.flag_argument.ensures.local c.flag_argument.ensures.rule in
    let six = grows_one c.flag_argument-2.result five c.with_argument-command-5.ensures c.flag_argument-2.ensures.local c.flag_argument-2.ensures.rule in
    let seven = grows_one c.verbose_argument.result six c.with_argument.ensures c.verbose_argument.ensures.local c.verbose_argument.ensures.rule in
    record { shape = grown (new_shape (codes "same")) seven c.lone_command-alone.ensures.shape; globals = seven.globals }
