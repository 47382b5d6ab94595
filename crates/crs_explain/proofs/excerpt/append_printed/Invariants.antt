use Rattle.std.proofs.Common.{◌≡◌, ◌++◌, encode_utf8}
use Rattle.std.specs.List.{flat_map}
use Rattle.crs_explain.specs.Excerpt.{printed}
use Rattle.crs_explain.proofs.excerpt.append_printed.Given as goal

abbrev pub invariant-loop-c : goal.invariant-loop-c
invariant-loop-c l = l.out.items ≡ l.fn.out.items ++ flat_map (λ c. encode_utf8 (printed c)) l.yielded
