use Rattle.crs_text.proofs.rows.NestingLemmas.{leads_from_refusal, none_open}
use Rattle.crs_text.proofs.nesting.open_delimiter.Goals as goal

pub returns-clause-refused : goal.returns-clause-refused
returns-clause-refused c = λ number r. c.innermost.ensures r.before r.left (leads_from_refusal c.args.text.now number c.args.place r)

pub returns-clause-whole : goal.returns-clause-whole
returns-clause-whole c = λ item s e. none_open c.args.text.now item c.args.place c.innermost.result s e c.innermost.ensures
