use Rattle.crs_canon.proofs.SpellingLemmas.{extended, whole}
use Rattle.crs_canon.proofs.canonical.Canonical.write.Goals as goal

pub returns : goal.returns
returns g c =
    let text = g.Self.Spell.spelling c.args.level c.args.self.now in
    extended (g.Self.Canonical.IsSpelling c.args.level c.args.self.now) _ _ _ text c.extend_from_slice.result c.extend_from_slice.ensures.items
    (whole _ text _ _ c.as_slice.ensures.value c.in_ok-spell.ensures c.new-text.ensures.items)
    (c.laws.ensures.written c.args.level c.args.self.now c.laws.ensures.value)
