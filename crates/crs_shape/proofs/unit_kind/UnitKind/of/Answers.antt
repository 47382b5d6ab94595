use Rattle.crs_text.specs.declared.keyword.Keyword.TheVariants as keyword
use Rattle.crs_shape.specs.declared.unit_kind.UnitKind.TheVariants as kinds
use Rattle.crs_shape.proofs.words.WordLemmas.{keyword-alone, keyword-spells}
use Rattle.crs_shape.proofs.unit_kind.UnitKind.of.Goals as goal

pub returns-in-LengthUnit : goal.returns-in-LengthUnit
returns-in-LengthUnit c = keyword-spells c.keywords_are_spelled.ensures keyword.LengthUnit c.args.keyword c.in-LengthUnit.is

pub returns-in-AngleUnit : goal.returns-in-AngleUnit
returns-in-AngleUnit c = keyword-spells c.keywords_are_spelled.ensures keyword.AngleUnit c.args.keyword c.in-AngleUnit.is

pub returns-in-ScaleUnit : goal.returns-in-ScaleUnit
returns-in-ScaleUnit c = keyword-spells c.keywords_are_spelled.ensures keyword.ScaleUnit c.args.keyword c.in-ScaleUnit.is

pub returns-in-PlainUnit : goal.returns-in-PlainUnit
returns-in-PlainUnit c = keyword-spells c.keywords_are_spelled.ensures keyword.PlainUnit c.args.keyword c.in-PlainUnit.is

pub returns-in_default : goal.returns-in_default
returns-in_default c word e kinds.Length = keyword-alone c.keywords_are_spelled.ensures keyword.LengthUnit c.args.keyword c.in_default.not-LengthUnit word e
returns-in_default c word e kinds.Angle = keyword-alone c.keywords_are_spelled.ensures keyword.AngleUnit c.args.keyword c.in_default.not-AngleUnit word e
returns-in_default c word e kinds.Scale = keyword-alone c.keywords_are_spelled.ensures keyword.ScaleUnit c.args.keyword c.in_default.not-ScaleUnit word e
returns-in_default c word e kinds.Plain = keyword-alone c.keywords_are_spelled.ensures keyword.PlainUnit c.args.keyword c.in_default.not-PlainUnit word e
