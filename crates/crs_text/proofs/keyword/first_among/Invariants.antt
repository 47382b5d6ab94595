use Rattle.std.proofs.Common.{◌≡◌, map, drop}
use Rattle.crs_text.specs.inner.KeywordTable.{as_spelled, first_among}
use Rattle.crs_text.proofs.keyword.first_among.Given as goal

abbrev pub invariant-loop-spelling : goal.invariant-loop-spelling
invariant-loop-spelling l =
    first_among (map as_spelled (drop l.spelling-index l.spellings)) l.word ≡ first_among (map as_spelled l.spellings) l.word
