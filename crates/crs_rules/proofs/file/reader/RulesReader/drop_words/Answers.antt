use Rattle.std.proofs.lemmas.Result.{err_from_is_err_and}
use Rattle.crs_rules.proofs.GrownLemmas.{grown_on}
use Rattle.crs_rules.proofs.WalkLemmas.{refused-over, walks-on}
use Rattle.crs_rules.proofs.file.reader.RulesReader.drop_words.Goals as goal

pub loop-at-preserved : goal.loop-at-preserved
loop-at-preserved c = walks-on c.loop-at.invariant c.in-Some.is c.in_ok-drop_word.ensures.answer c.next-at.ensures c.drop_word.ensures.grown

pub returns-in_err-drop_word : goal.returns-in_err-drop_word
returns-in_err-drop_word c = let p = err_from_is_err_and c.from_residual.result c.from_residual.ensures.1 in record {
  answer = rw (p.1, p.2) (refused-over c.loop-at.invariant c.in-Some.is c.in_err-drop_word.field-0.0 c.in_err-drop_word.ensures.answer);
  grown = grown_on c.args.self.now c.loop-at.self c.drop_word.new.self c.loop-at.invariant.grown c.drop_word.ensures.grown;
}
