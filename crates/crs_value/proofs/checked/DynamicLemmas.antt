-- The check of dynamic parts beside ensembles.
use Rattle.std.proofs.Common.{Option, None, Some}
use Rattle.crs_text.specs.inner.Prelude.{Item, arguments, RefusedAt}
use Rattle.crs_shape.specs.declared.class.Class.{Class}
use Rattle.crs_shape.specs.declared.class.Class.TheVariants as class
use Rattle.crs_value.specs.Checks.{BadDynamic, HasEnsemble, IsUnsteady, AnyOf, IsLeast}
use Rattle.crs_value.specs.Reading.{those}

-- beside an ensemble each dynamic part breaks it
pub bad-beside : (c : Class) (item : Item) (o : Option RefusedAt) → HasEnsemble c item → IsLeast (AnyOf IsUnsteady (those c class.Dynamic (arguments item))) o →
    IsLeast (BadDynamic c item) o
bad-beside c item None has h = λ fault k. h fault k.1
bad-beside c item (Some least) has h = ((has, h.0), λ fault k. h.1 fault k.1)
