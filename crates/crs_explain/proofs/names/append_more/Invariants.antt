use Rattle.std.proofs.Common.{◌≡◌, ◌++◌, drop}
use Rattle.crs_streams.specs.inner.Prelude.{json_more, json_text}
use Rattle.crs_explain.proofs.names.append_more.Given as goal

abbrev pub invariant-loop-name : goal.invariant-loop-name
invariant-loop-name l =
    l.out.items ++ json_more json_text (drop l.name-index l.names) ≡ l.fn.out.items ++ json_more json_text l.names
