use Rattle.std.proofs.lemmas.Result.{err_from_is_err_and}
use Rattle.crs_rules.proofs.GrownLemmas.{grown_on}
use Rattle.crs_rules.proofs.WalkLemmas.{refused-over, walks-on}
use Rattle.crs_rules.proofs.file.reader.RulesReader.add_others.Goals as goal

pub loop-at-preserved : goal.loop-at-preserved
loop-at-preserved c =
    walks-on c.loop-at.invariant c.in-Some.is (c.in_ok-add.field-0, c.in_ok-add.ensures.answer) c.next-at.ensures c.add.ensures.grown

pub returns-in_err-add : goal.returns-in_err-add
returns-in_err-add c = let p = err_from_is_err_and c.from_residual.result c.from_residual.ensures.1 in record {
  answer = rw (p.1, p.2) (refused-over c.loop-at.invariant c.in-Some.is c.in_err-add.field-0.0 c.in_err-add.ensures.answer);
  grown = grown_on c.args.self.now c.loop-at.self c.add.new.self c.loop-at.invariant.grown c.add.ensures.grown;
}
