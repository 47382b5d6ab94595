use Rattle.crs_normal.proofs.parts.PartFrameLemmas.{frames-canonical}
use Rattle.crs_normal.proofs.texts.WrittenFormLemmas.{one-text}
use Rattle.crs_normal.proofs.laws.parts.frames_are_canonical.Goals as goal

pub returns : goal.returns
returns c level =
    frames-canonical level (one-text (c.datums_are_canonical.ensures.datum level))
    (one-text (c.datums_are_canonical.ensures.ensemble level))
