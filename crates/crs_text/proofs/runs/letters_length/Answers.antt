use Rattle.std.proofs.Common.{drop, sym, ◌∙◌, arith}
use Rattle.std.proofs.Math.Seq.{drop-cons}
use Rattle.crs_text.specs.Tokens.{StopsAt, is_letter, is_word_byte}
use Rattle.crs_text.proofs.tokens.RunLemmas.{run_stops, wider}
use Rattle.crs_text.proofs.tokens.TokenLemmas.{letter_in_word}
use Rattle.crs_text.proofs.runs.letters_length.Goals as goal

pub returns-then-ends_word : goal.returns-then-ends_word
returns-then-ends_word c =
    let left = c.args.left.now in
    let n = c.letter_lanes-count.result in
    let found = c.letter_lanes-count.ensures in
    let letters = found ∙ sym (run_stops is_letter left 0 16 (omega arith) (omega (arith, found))) in
    let ends : StopsAt is_word_byte (drop n left) = rw (drop-cons left n 0 (omega arith)) (c.ends_word.ensures c.if-ends_word.true) in
    letters ∙ wider is_letter is_word_byte letter_in_word left (rw letters at ends)
