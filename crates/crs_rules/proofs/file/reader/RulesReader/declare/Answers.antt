use Rattle.std.proofs.Common.{ap}
use Rattle.crs_value.specs.inner.Prelude.{item_at}
use Rattle.crs_rules.specs.Members.{MemberParts}
use Rattle.crs_rules.specs.Rules.{RulesParts}
use Rattle.crs_rules.specs.Statements.{Reading}
use Rattle.crs_rules.proofs.GrownLemmas.{grown_by, grown_kind, grown_on, grown_seen}
use Rattle.crs_rules.proofs.ReaderLemmas.{declared-as}
use Rattle.crs_rules.proofs.file.reader.RulesReader.declare.Goals as goal

pub returns-in-Ok-clause-answer : goal.returns-in-Ok-clause-answer
returns-in-Ok-clause-answer c =
    declared-as c.args.kind c.args.self.now (item_at c.args.items.now c.args.at) c.in-Some.member c.kind_node.result
    c.member.inside.name.now c.self.inside.line c.self.inside.seen c.add.new.self c.self.inside.rules c.declare_kind.new.self
    c.self.view_is c.requires.other c.in-Some.ensures (ap (λ (m : MemberParts). m.name) c.member.view_is) c.kind_node.ensures
    (rw c.in-Ok-true.field-0-test at c.in-Ok-true.ensures.added) c.in-Ok.ensures.ok

pub returns-in-Ok-clause-grown : goal.returns-in-Ok-clause-grown
returns-in-Ok-clause-grown c =
    let q : Reading = record { line = c.self.inside.line; seen = c.self.inside.seen; rules = c.self.inside.rules } in
    let seen : Reading = record q { seen = c.add.new.self } in
    grown_on c.args.self.now seen (record seen { rules = c.declare_kind.new.self })
    (grown_seen c.args.self.now q _ _ c.add.new.self c.self.view_is c.in-Ok-true.ensures.added)
    (rw c.in-Ok.ensures.ok (grown_kind seen _))

pub returns-in-Ok-true-clause-grown : goal.returns-in-Ok-true-clause-grown
returns-in-Ok-true-clause-grown c =
    let q : Reading = record { line = c.self.inside.line; seen = c.self.inside.seen; rules = c.self.inside.rules } in
    let seen : Reading = record q { seen = c.add.new.self } in
    grown_on c.args.self.now seen (record seen { rules = c.declare_kind.new.self })
    (grown_seen c.args.self.now q _ _ c.add.new.self c.self.view_is c.in-Ok-true.ensures.added)
    (grown_by seen (record seen { rules = c.declare_kind.new.self })
    (ap (λ (rules : RulesParts). record seen { rules = rules }) c.in-Err-declare_kind.ensures.err))
