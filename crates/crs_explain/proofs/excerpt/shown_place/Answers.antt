use Rattle.crs_explain.proofs.ExcerptLemmas.{trimmed}
use Rattle.crs_explain.proofs.excerpt.shown_place.Goals as goal

pub returns-then-place-text-clause-value : goal.returns-then-place-text-clause-value
returns-then-place-text-clause-value c =
    trimmed c.args.text.now c.trim_ascii_end.result.now c.args.place c.if-place-text.true c.trim_ascii_end.ensures.value
