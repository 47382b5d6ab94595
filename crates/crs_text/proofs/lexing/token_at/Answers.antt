use Rattle.std.proofs.Common.{rules}
use Rattle.crs_text.proofs.tokens.LexedLemmas.{lexed_word}
use Rattle.crs_text.proofs.lexing.token_at.Goals as goal

pub returns-in-65-to-90 : goal.returns-in-65-to-90
returns-in-65-to-90 c = lexed_word c.args.left.now c.length.result c.length.ensures.value (search rules)
