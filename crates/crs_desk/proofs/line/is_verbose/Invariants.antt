use Rattle.std.proofs.Common.{◌≡◌, drop, map}
use Rattle.crs_desk.specs.CommandLine.{is_verbose}
use Rattle.crs_desk.proofs.line.is_verbose.Given as goal

abbrev pub invariant-loop-word : goal.invariant-loop-word
invariant-loop-word l =
    is_verbose (map (λ word. word.items) l.fn.words) ≡ is_verbose (map (λ word. word.items) (drop l.word-index l.fn.words))
