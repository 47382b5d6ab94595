-- What the checks say of a normal CRS: how many axes there are, and of which type its system is.
use Rattle.std.proofs.Common.{◌≡◌, ◌≢◌, ℕ, suc, ◌+◌, ◌^◌, ◌≤◌, ◌<◌, length, inl, inr, ⊎_elim, List, [], ◌∷◌, codes, refl, ◌∙◌, ap, arith}
use Rattle.std.proofs.lemmas.Bool.{cases_lt}
use Rattle.crs_decimal.specs.inner.Prelude.{SameNumber, Value, exact, whole_number}
use Rattle.crs_text.specs.inner.Prelude.{Item, arguments, RefusedAt}
use Rattle.crs_shape.specs.declared.class.Class.{Class}
use Rattle.crs_shape.specs.declared.class.Class.TheVariants as class
use Rattle.crs_shape.specs.declared.system_type.SystemType.{SystemType}
use Rattle.crs_shape.specs.declared.system_type.SystemType.TheVariants as types
use Rattle.crs_shape.specs.inner.Prelude.{IsOneOf, dimensions_of, system_word}
use Rattle.crs_value.specs.inner.Prelude.{at, BadSystems, those, ReadsEach, ReadsFirst, ReadsHead, ReadsNumberOf, ReadsType, SystemParts}
use Rattle.crs_value.specs.declared.values.level.Level.{Level}
use Rattle.crs_normal.specs.Normal.{words_in}
use Rattle.crs_value.specs.Sound.{Each}
use Rattle.crs_normal.specs.inner.LowerLaws.{LowerLaws}
use Rattle.crs_normal.proofs.normal.UnitLemmas.{type-form}
use Rattle.crs_normal.proofs.normal.DimensionLemmas.{AreSmall, few-axes as count-small}
use Rattle.crs_normal.proofs.normal.FormLemmas.{IsGood, opened, raws-in}

-- ---- how many axes there are

pub each-length : {V : Type 0} (R : Item → V → Type 0) (items : List Item) (values : List V) →
    ReadsEach R items values → length values ≡ length items
each-length R [] [] reads = refl
each-length R [] (v ∷ vs) reads = absurd reads
each-length R (i ∷ is) [] reads = absurd reads
each-length R (i ∷ is) (v ∷ vs) reads = ap suc (each-length R is vs reads.1)

abbrev pub AreFree : (SystemType → List ℕ) → List Item → List Item → List Item → Type 0
AreFree dimensions systems axes units = (fault : RefusedAt) → ¬ (BadSystems dimensions systems axes units fault)

-- a dimension is one of those of the system's type
one-dimension : (dimensions : SystemType → List ℕ) (cs : Item) (more axes units : List Item) →
    AreFree dimensions (cs ∷ more) axes units → (t : SystemType) (v : Value) →
    ReadsFirst ReadsType (those class.CoordinateSystem class.Word (arguments cs)) t →
    ReadsNumberOf class.CoordinateSystem cs v → ¬ ¬ (IsOneOf v (dimensions t))
one-dimension dimensions cs more axes units free t v type dimension other =
    free (at 23 cs) (inl (inl (inl (refl, (t, (v, (type, dimension, other)))))))

pub few-axes : LowerLaws → (dimensions : SystemType → List ℕ) → ((t : SystemType) → AreSmall (dimensions t)) →
    (systems axes units : List Item) → AreFree dimensions systems axes units →
    (x : SystemParts) → ReadsFirst ReadsHead systems x → length x.axes ≡ length axes → length x.axes + 1 < 2 ^ 64
few-axes laws dimensions small [] axes units free x reads count = absurd reads
few-axes laws dimensions small (cs ∷ more) axes units free x reads count =
    ⊎_elim (λ few. few)
    (λ many. absurd (free (at 25 cs) (inl (inl (inr (refl, (x.dimension, (reads.dimension, other many))))))))
    (cases_lt (length x.axes + 1) (2 ^ 64))
  where
    three : length axes ≤ 3 → 2 ^ 64 ≤ length x.axes + 1 → ⊥
    three a b = let c = count in omega arith

    other : 2 ^ 64 ≤ length x.axes + 1 → ¬ (SameNumber (exact x.dimension) (whole_number (length axes)))
    other many same =
        one-dimension dimensions cs more axes units free x.system_type x.dimension reads.system_type reads.dimension
        (λ one. three (count-small laws.symmetric laws.transitive x.dimension (length axes) (dimensions x.system_type)
        (small x.system_type) one same) many)

-- ---- of which type the system is

-- that of a CRS called geographic is ellipsoidal
pub geographic-type : (systems axes units : List Item) → AreFree (dimensions_of class.GeographicCrs) systems axes units →
    (x : SystemParts) → ReadsFirst ReadsHead systems x → x.system_type ≡ types.Ellipsoidal
geographic-type [] axes units free x reads = absurd reads
geographic-type (cs ∷ more) axes units free x reads = by x.system_type reads.system_type
  where
    by : (t : SystemType) → ReadsFirst ReadsType (those class.CoordinateSystem class.Word (arguments cs)) t →
        t ≡ types.Ellipsoidal
    by types.Ellipsoidal type = refl
    by other type =
        absurd (one-dimension (dimensions_of class.GeographicCrs) cs more axes units free other x.dimension type
        reads.dimension (λ one. one))

-- a geodetic CRS that isn't geographic has no ellipsoidal system
pub not-ellipsoidal : (level : Level) (c : Class) (systems : List Item) →
    Each (IsGood level c class.CoordinateSystem) systems →
    Each (λ cs. words_in class.CoordinateSystem cs ≢ codes "ellipsoidal" ∷ []) systems → (x : SystemParts) →
    ReadsFirst ReadsHead systems x →
    x.system_type ≢ types.Ellipsoidal
not-ellipsoidal level c [] good none x reads e = absurd reads
not-ellipsoidal level c (cs ∷ more) good none x reads e =
    none.0 (raws-in (opened cs refl good.0).1 0 (type-form level) refl refl refl x.system_type reads.system_type
    ∙ ap (λ t. system_word t ∷ []) e)
