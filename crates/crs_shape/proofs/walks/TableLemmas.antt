-- In every row of the tables the slots are apart: by computation.
use Rattle.std.proofs.Common.{◌≡◌, true, refl}
use Rattle.crs_shape.specs.declared.class.Class.{Class}
use Rattle.crs_shape.specs.Shape.{slots_of, is_apart}
use Rattle.crs_shape.proofs.naming.KeywordTableLemmas.{every-class}

pub apart_tables : (c : Class) → is_apart (slots_of c) ≡ true
apart_tables = every-class (λ c. is_apart (slots_of c)) refl
