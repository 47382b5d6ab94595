-- The names that proofs of the crates above cite, passed on from one place. Declares nothing.
pub use Rattle.crs_same.specs.inner.Agreement.{AgreeAt, AgreeAxes, AgreeBase, AgreeCompound, AgreeConversion, AgreeCrs, AgreeDatum, AgreeDynamic, AgreeEllipsoid, AgreeEnsemble, AgreeFrame, AgreeGeodetic, AgreeGiven, AgreeHorizontal, AgreeMeridian, AgreeMethod, AgreeProjected, AgreeSystem, AgreeTail, AgreeVertical, IsZero, SameRemark, SameUsages}
unfoldable pub use Rattle.crs_same.specs.inner.Agreement.{AgreeAxis}
pub use Rattle.crs_same.specs.Parts.{given, DifferenceParts, Differences, Parts, exchanged, part, ◌⨾◌, DifferencesInCrs, FirstInCrs, or_greenwich, parts_of_datum, parts_of_ellipsoid, parts_of_ensemble, parts_of_given, identifiers, numbers, units}
unfoldable pub use Rattle.crs_same.specs.Parts.{AreSame, parts_of_base, parts_of_compound, parts_of_conversion, parts_of_geodetic, parts_of_horizontal, parts_of_method, parts_of_projected, parts_of_vertical, parts_of_frame}
pub use Rattle.crs_same.specs.Paths.{further_text, path_text}
pub use Rattle.crs_same.specs.SameCrs.{IsHorizontalPart}
unfoldable pub use Rattle.crs_same.specs.SameCrs.{SameCrs, SameDynamic}
pub use Rattle.crs_same.specs.SameParts.{SameGeoidModel, SameParameter, SameDeformationModel, SameMember, HasAt, IsPositionOf, SameAxisAlone, SameAxisMeridian, StandsAt, own_or, SameLength, SameUnit, SameUnitAsked, kind_as, or_metre, SameBox, SameExtent, SameUsage, usages_of}
pub use Rattle.crs_same.specs.SameIdents.{SameIdent, SameIdents, SameNamed, AllHaveSame, BothOrNeither, HasSame, SameSet, with_bare}
unfoldable pub use Rattle.crs_same.specs.SameParts.{SameValue}
pub use Rattle.crs_same.specs.Sameness.{IsSameness, IsSamenessOf}
pub use Rattle.crs_same.specs.inner.SamenessLaws.{agree-as, agree-as-of, by, equal-by, in-words, of, optional, over, same-as, same-as-of, set, ◌⊗◌}
