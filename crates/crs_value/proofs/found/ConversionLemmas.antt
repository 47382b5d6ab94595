-- The search for the unit of a parameter among its classes.
use Rattle.std.proofs.Common.{◌≡◌, ℕ, zero, suc, ◌<◌, ◌≤◌, length, drop, slice_index_or, Option, Some, None, List, [], ◌∷◌, sym, subst, arith}
use Rattle.crs_text.specs.inner.Prelude.{Item, arguments}
use Rattle.crs_shape.specs.declared.class.Class.{Class}
use Rattle.crs_shape.specs.declared.class.Class.TheVariants as class
use Rattle.crs_value.specs.Reading.{those, ReadsElse}
use Rattle.crs_value.specs.Reads.{ReadsUnit, ReadsAsUnit, ReadsUnitOf, parameter_units}
use Rattle.crs_value.specs.Values.{UnitParts}

-- what the rest of the classes says is what all of them say
pub record Choosing (item : Item) (index : ℕ) : Type 0 where
  pub reads : (unit : Option UnitParts) → ReadsUnitOf (drop index parameter_units) class.Parameter item unit → ReadsUnitOf parameter_units class.Parameter item unit

units-some : (ds : List Class) (i : ℕ) (e c : Class) (item found : Item) (more : List Item) (unit : UnitParts) → i < length ds →
    those c (slice_index_or ds i e) (arguments item) ≡ found ∷ more → ReadsUnit (slice_index_or ds i e) found unit → ReadsUnitOf (drop i ds) c item (Some unit)
units-some [] i e c item found more unit within are reads = absurd (omega arith)
units-some (d ∷ ds) zero e c item found more unit within are reads =
    let P : List Item → Type 0 = λ xs. ReadsElse (ReadsAsUnit d) xs (ReadsUnitOf ds c item) (Some unit) in
    subst P (sym are) reads
units-some (d ∷ ds) (suc i) e c item found more unit within are reads = units-some ds i e c item found more unit (omega arith) are reads

units-none : (ds : List Class) (i : ℕ) (c : Class) (item : Item) → length ds ≤ i → ReadsUnitOf (drop i ds) c item None
units-none [] zero c item past = tt
units-none [] (suc i) c item past = tt
units-none (d ∷ ds) zero c item past = absurd (omega arith)
units-none (d ∷ ds) (suc i) c item past = units-none ds i c item (omega arith)

pub chosen : (item found : Item) (more : List Item) (i : ℕ) (e : Class) (unit : UnitParts) → Choosing item i → i < 4 →
    those class.Parameter (slice_index_or parameter_units i e) (arguments item) ≡ found ∷ more → ReadsUnit (slice_index_or parameter_units i e) found unit →
    ReadsUnitOf parameter_units class.Parameter item (Some unit)
chosen item found more i e unit so within are reads =
    so.reads (Some unit) (units-some parameter_units i e class.Parameter item found more unit (omega (arith, within)) are reads)

pub none-chosen : (item : Item) (i : ℕ) → Choosing item i → 4 ≤ i → ReadsUnitOf parameter_units class.Parameter item None
none-chosen item i so past = so.reads None (units-none parameter_units i class.Parameter item (omega (arith, past)))
