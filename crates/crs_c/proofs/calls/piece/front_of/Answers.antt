use Rattle.std.proofs.Common.{sym, arith}
use Rattle.std.proofs.lemmas.List.{take_all}
use Rattle.crs_c.proofs.calls.piece.front_of.Goals as goal

pub returns-then-text-most-clause-value : goal.returns-then-text-most-clause-value
returns-then-text-most-clause-value c = sym (take_all c.args.most c.args.text.now (omega arith))
