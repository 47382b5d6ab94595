use Rattle.std.proofs.Common.{◌≡◌, map, take}
use Rattle.crs_desk.proofs.line.word.LineWords.of.Given as goal

abbrev pub invariant-loop-text : goal.invariant-loop-text
invariant-loop-text l = l.words.items ≡ map (λ text. text.now) (take l.text-index l.texts)
