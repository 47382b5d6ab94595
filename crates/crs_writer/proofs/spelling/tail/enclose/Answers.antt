use Rattle.std.proofs.Common.{rules}
use Rattle.std.proofs.lemmas.Result.{on_ok_weaker}
use Rattle.crs_writer.proofs.EncloseLemmas.{enclosing}
use Rattle.crs_writer.proofs.spelling.tail.enclose.Goals as goal

pub returns : goal.returns
returns c = on_ok_weaker c.append.result (λ closes front items e l.
    enclosing front items c.args.at c.args.out.now.items c.open_at.new.out.items c.append.new.out.items e l (search rules) c.open_at.ensures closes)
    c.append.ensures
