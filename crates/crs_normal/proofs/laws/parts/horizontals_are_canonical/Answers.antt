use Rattle.crs_normal.proofs.parts.PartKindLemmas.{horizontals-canonical}
use Rattle.crs_normal.proofs.texts.WrittenFormLemmas.{one-text}
use Rattle.crs_normal.proofs.laws.parts.horizontals_are_canonical.Goals as goal

pub returns : goal.returns
returns c level =
    horizontals-canonical level (c.written_forms_are_equal_where_same.ensures level)
    (one-text (c.kinds_are_canonical.ensures.geodetic level)) (one-text (c.kinds_are_canonical.ensures.projected level))
