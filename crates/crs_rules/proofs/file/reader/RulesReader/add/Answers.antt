use Rattle.std.proofs.Common.{ap}
use Rattle.std.specs.Option.{option_copied}
use Rattle.crs_rules.specs.Rules.{RulesParts}
use Rattle.crs_rules.specs.Statements.{Reading}
use Rattle.crs_rules.proofs.GrownLemmas.{grown_by, grown_joined, grown_on, grown_seen}
use Rattle.crs_rules.proofs.file.reader.RulesReader.add.Goals as goal

pub returns-in-Ok-clause-grown : goal.returns-in-Ok-clause-grown
returns-in-Ok-clause-grown c =
    let q : Reading = record { line = c.self.inside.line; seen = c.self.inside.seen; rules = c.self.inside.rules } in
    let seen : Reading = record q { seen = c.add.new.self } in
    grown_on c.args.self.now seen (record seen { rules = c.join.new.rules })
    (grown_seen c.args.self.now q _ _ c.add.new.self c.self.view_is c.in-Ok-true.ensures.added)
    (grown_joined seen (option_copied c.args.first) c.in-Some.member c.join.new.rules c.in-Ok.ensures.joined)

pub returns-in-Ok-true-clause-grown : goal.returns-in-Ok-true-clause-grown
returns-in-Ok-true-clause-grown c =
    let q : Reading = record { line = c.self.inside.line; seen = c.self.inside.seen; rules = c.self.inside.rules } in
    let seen : Reading = record q { seen = c.add.new.self } in
    grown_on c.args.self.now seen (record seen { rules = c.join.new.rules })
    (grown_seen c.args.self.now q _ _ c.add.new.self c.self.view_is c.in-Ok-true.ensures.added)
    (grown_by seen (record seen { rules = c.join.new.rules }) (ap (λ (rules : RulesParts). record seen { rules = rules }) c.in-Err-join.ensures.unchanged))
