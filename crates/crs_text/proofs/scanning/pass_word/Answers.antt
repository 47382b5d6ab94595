use Rattle.std.proofs.Common.{ap, ◌∙◌, arith}
use Rattle.std.proofs.lemmas.List.{length-drop}
use Rattle.std.specs.List.{prefix_len}
use Rattle.crs_text.specs.Tokens.{is_word_byte}
use Rattle.crs_text.proofs.tokens.LexedLemmas.{lexed_word}
use Rattle.crs_text.proofs.scanning.pass_word.Goals as goal

pub overflow_add-at : goal.overflow_add-at
overflow_add-at c =
    let lexed = lexed_word _ c.in-Some.length (c.in-Some.ensures ∙ ap (prefix_len is_word_byte) c.rest_of.ensures) c.requires.letter in
    omega (arith, lexed.1, length-drop c.args.at.now c.args.text.now, c.requires.more)

pub is_opening-requires : goal.is_opening-requires
is_opening-requires c =
    let lexed = lexed_word _ c.in-Some.length (c.in-Some.ensures ∙ ap (prefix_len is_word_byte) c.rest_of.ensures) c.requires.letter in
    omega (arith, lexed.1, length-drop c.args.at.now c.args.text.now, c.requires.more)

pub pass_node-requires-clause-lexed : goal.pass_node-requires-clause-lexed
pass_node-requires-clause-lexed c =
    lexed_word _ c.in-Some.length (c.in-Some.ensures ∙ ap (prefix_len is_word_byte) c.rest_of.ensures) c.requires.letter

pub pass-requires-clause-lexed : goal.pass-requires-clause-lexed
pass-requires-clause-lexed c =
    lexed_word _ c.in-Some.length (c.in-Some.ensures ∙ ap (prefix_len is_word_byte) c.rest_of.ensures) c.requires.letter
