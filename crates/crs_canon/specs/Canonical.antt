-- What the contracts of this crate say of canonical texts, spellings and sets, passed on. Declares nothing.
pub use Rattle.crs_normal.specs.AxisAlone.{IsSpelledAxis}
pub use Rattle.crs_normal.specs.CanonicalForm.{IsCanonicalForm}
pub use Rattle.crs_normal.specs.Normal.{IsNormalIn, IsNormalText}
pub use Rattle.crs_normal.specs.PartSpellings.{IsFrame, IsSpelledAxisMeridian, IsSpelledBase, IsSpelledBox, IsSpelledCompound, IsSpelledConversion, IsSpelledDatum, IsSpelledDeformationModel, IsSpelledDynamic, IsSpelledEllipsoid, IsSpelledEnsemble, IsSpelledExtent, IsSpelledFrame, IsSpelledGeodetic, IsSpelledGeoidModel, IsSpelledHorizontal, IsSpelledIdent, IsSpelledMember, IsSpelledMeridian, IsSpelledMethod, IsSpelledParameter, IsSpelledProjected, IsSpelledUnit, IsSpelledUsage, IsSpelledVertical}
pub use Rattle.crs_writer.specs.Canonical.{AppendsSpelling, CanonicalText, IsCanonicalOf, IsCanonicalText, canon_writes, canons_equal, digest_of}
pub use Rattle.crs_writer.specs.SetText.{HaveOneTextWhereSame, IsSetText}
