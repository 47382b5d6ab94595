-- What is sought among arguments: one of a class, in a parent of a class.
use Rattle.crs_text.specs.declared.items.ItemKind.TheVariants as kind
use Rattle.crs_shape.specs.declared.class.Class.{Class}
use Rattle.crs_shape.specs.declared.class.Class.TheVariants as class

-- what is sought: an argument of a class, in a parent of a class
pub record SoughtParts : Type 0 where
  pub parent : Class
  pub class : Class
