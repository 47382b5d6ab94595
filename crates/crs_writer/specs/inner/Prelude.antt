-- The names that proofs of the crates above cite, passed on from one place. Declares nothing.
pub use Rattle.crs_writer.specs.Canonical.{AppendsSpelling, CanonicalText, IsCanonicalOf, IsCanonicalText, canons_equal}
pub use Rattle.crs_writer.specs.inner.CrsText.{crs_text}
pub use Rattle.crs_writer.specs.inner.EqualityLaws.{canons-decide, canons-hash}
pub use Rattle.crs_writer.specs.inner.Members.{ArePut, AreSpellingsOf, IsOnlySpelling, lacking, spellings}
unfoldable pub use Rattle.crs_writer.specs.inner.Members.{set_text}
pub use Rattle.crs_writer.specs.SetText.{HaveOneTextWhereSame, IsSetText, SpellsOneOf, comma_separated, commas}
