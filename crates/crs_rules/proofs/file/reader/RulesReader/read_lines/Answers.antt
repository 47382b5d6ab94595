use Rattle.std.proofs.lemmas.Result.{err_from_is_err_and}
use Rattle.crs_rules.proofs.FileLemmas.{few-still, file-fault, file-on, reads-line}
use Rattle.crs_rules.proofs.GrownLemmas.{grown_on}
use Rattle.crs_rules.proofs.file.reader.RulesReader.read_lines.Goals as goal

pub returns-in_err-read_line : goal.returns-in_err-read_line
returns-in_err-read_line c = let p = err_from_is_err_and c.from_residual.result c.from_residual.ensures.1 in record {
  answer = rw (p.1, p.2) (file-fault c.first_line.result.0.now c.first_line.result.1.now _ (c.lines_are_one.ensures.cut c.first_line.result.1.now)
      c.loop-left.invariant.leads c.first_line.ensures.lines c.in_err-read_line.field-0.0 c.in_err-read_line.ensures.answer);
  grown = grown_on c.args.self.now c.loop-left.self c.read_line.new.self c.loop-left.invariant.grown c.read_line.ensures.grown;
}

pub loop-left-preserved : goal.loop-left-preserved
loop-left-preserved c = record {
  leads = file-on c.first_line.result.0.now c.loop-left.invariant.leads c.first_line.ensures.lines c.in_ok-read_line.ensures.answer;
  few = few-still c.loop-left.self.line c.read_line.new.self.line _ _ _ c.loop-left.invariant.few c.first_line.ensures.less
      (reads-line c.loop-left.self c.read_line.new.self c.first_line.result.0.now c.in_ok-read_line.ensures.answer);
  grown = grown_on c.args.self.now c.loop-left.self c.read_line.new.self c.loop-left.invariant.grown c.read_line.ensures.grown;
}
