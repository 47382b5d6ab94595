-- A bridge: the canonical text of a CRS.
use Rattle.std.specs.Prelude.{ℕ, List}
use Rattle.crs_text.specs.Written.{item_text}
use Rattle.crs_value.specs.declared.values.crs.Crs.{Crs}
use Rattle.crs_value.specs.declared.values.level.Level.{Level}
use Rattle.crs_normal.specs.inner.SpelledCrs.{item_crs, norm_crs}

-- the text of the one form of a CRS at a level
abbrev pub crs_text : Level → Crs → List ℕ
crs_text level x = item_text (item_crs (norm_crs level x))
