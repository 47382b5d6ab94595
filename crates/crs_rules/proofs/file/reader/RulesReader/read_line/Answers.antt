use Rattle.std.proofs.Common.{◌∙◌, ap, sym}
use Rattle.crs_rules.specs.RulesFile.{next}
use Rattle.crs_rules.proofs.ReaderLemmas.{statement-line}
use Rattle.crs_rules.proofs.file.reader.RulesReader.read_line.Goals as goal

pub returns-in-Ok-clause-answer : goal.returns-in-Ok-clause-answer
returns-in-Ok-clause-answer c =
    statement-line c.args.self.now c.args.line.now c.in-Ok.items _ c.read_statement.new.self c.read_statement.result
    (sym c.is_idle.ensures ∙ c.if-is_idle.false) c.in-Ok.ensures (ap next c.self.view_is) c.read_statement.ensures.answer
