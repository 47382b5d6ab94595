use Rattle.std.proofs.Common.{◌≡◌, ◌++◌, false}
use Rattle.std.specs.List.{flat_map}
use Rattle.unicode_width.specs.Width.{char_width}
use Rattle.crs_explain.specs.Excerpt.{printed, blanks}
use Rattle.crs_explain.proofs.excerpt.append_blanks.Given as goal

abbrev pub invariant-loop-c : goal.invariant-loop-c
invariant-loop-c l =
    l.out.items ≡ l.fn.out.items ++ flat_map (λ c. blanks (char_width false (printed c))) l.yielded
