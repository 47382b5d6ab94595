use Rattle.std.proofs.lemmas.Result.{err_from_is_err_and}
use Rattle.crs_rules.proofs.GrownLemmas.{grown_on}
use Rattle.crs_rules.proofs.WalkLemmas.{refused-over, walks-on}
use Rattle.crs_rules.proofs.file.reader.RulesReader.sort_others.Goals as goal

pub loop-at-preserved : goal.loop-at-preserved
loop-at-preserved c = walks-on c.loop-at.invariant c.in-Some.is c.in_ok-sort.ensures.answer c.next-at.ensures c.sort.ensures.grown

pub returns-in_err-sort : goal.returns-in_err-sort
returns-in_err-sort c = let p = err_from_is_err_and c.from_residual.result c.from_residual.ensures.1 in record {
  answer = rw (p.1, p.2) (refused-over c.loop-at.invariant c.in-Some.is c.in_err-sort.field-0.0 c.in_err-sort.ensures.answer);
  grown = grown_on c.args.self.now c.loop-at.self c.sort.new.self c.loop-at.invariant.grown c.sort.ensures.grown;
}
