use Rattle.std.proofs.Common.{Ok, codes}
use Rattle.clap.specs.Simple.{new_shape}
use Rattle.crs_desk.proofs.OptionLemmas.{grown, grows_none, grows_one}
use Rattle.crs_desk.proofs.line.rules_command.Goals as goal

pub returns : goal.returns
returns c =
    let alone = grows_none (Ok c.lone_command-alone.result) c.lone_command-alone.ensures.globals in
    let one = grows_one c.used_argument.result alone c.arg-command.ensures c.used_argument.ensures.local c.used_argument.ensures.rule in
    let two = grows_one c.name_argument.result one c.with_argument-command.ensures c.name_argument.ensures.local c.name_argument.ensures.rule in
    let three = grows_one c.rules_file_argument.result two c.with_argument-command-2.ensures c.rules_file_argument.ensures.local c.rules_file_argument.ensures.rule in
    let four = grows_one c.verbose_argument.result three c.with_argument.ensures c.verbose_argument.ensures.local c.verbose_argument.ensures.rule in
    record { shape = grown (new_shape (codes "rules")) four c.lone_command-alone.ensures.shape; globals = four.globals }
