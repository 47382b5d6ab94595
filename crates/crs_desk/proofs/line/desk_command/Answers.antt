use Rattle.std.proofs.Common.{Ok}
use Rattle.crs_desk.proofs.OptionLemmas.{HasCommands, adds_argument, adds_command}
use Rattle.crs_desk.specs.CommandLine.{lone_desk}
use Rattle.crs_desk.proofs.line.desk_command.Goals as goal

pub returns : goal.returns
returns c =
    let alone : HasCommands (Ok c.desk_alone.result) lone_desk = record { shape = c.desk_alone.ensures.shape; globals = c.desk_alone.ensures.globals } in
    let verbose = adds_argument c.verbose_argument.result alone c.with_argument-command.ensures c.verbose_argument.ensures.local c.verbose_argument.ensures.rule in
    let one = adds_command c.spelling_command-canon.result _ verbose c.spelling_command-canon.ensures.shape c.spelling_command-canon.ensures.globals c.with_command-command.ensures in
    let two = adds_command c.spelling_command-digest.result _ one c.spelling_command-digest.ensures.shape c.spelling_command-digest.ensures.globals c.with_command-command-2.ensures in
    let three = adds_command c.check_command.result _ two c.check_command.ensures.shape c.check_command.ensures.globals c.with_command-command-3.ensures in
    let four = adds_command c.group_command.result _ three c.group_command.ensures.shape c.group_command.ensures.globals c.with_command-command-4.ensures in
    let five = adds_command c.same_command.result _ four c.same_command.ensures.shape c.same_command.ensures.globals c.with_command-command-5.ensures in
    let six = adds_command c.explain_command.result _ five c.explain_command.ensures.shape c.explain_command.ensures.globals c.with_command-command-6.ensures in
    let seven = adds_command c.rules_command.result _ six c.rules_command.ensures.shape c.rules_command.ensures.globals c.with_command.ensures in
    record { shape = seven.shape; globals = seven.globals }
