-- Compound CRSs, and with them all CRSs, in their one form are read back from their items.
use Rattle.std.proofs.Common.{◌≡◌, ◌⊎◌, ℕ, ◌+◌, List, [], ◌∷◌, inl, inr, refl, ◌∙◌, ap}
use Rattle.crs_text.specs.inner.Prelude.{Item, arguments, at_place}
use Rattle.crs_shape.specs.declared.class.Class.{Class}
use Rattle.crs_shape.specs.declared.class.Class.TheVariants as class
use Rattle.crs_shape.specs.declared.system_type.SystemType.TheVariants as types
use Rattle.crs_shape.specs.inner.Prelude.{class_named}
use Rattle.crs_value.specs.inner.Prelude.{CompoundParts, GeodeticParts, those, ReadsElse, ReadsFirst, ReadsAsHorizontal, ReadsCompound, ReadsCrs, IsCompound, IsHorizontal, IsCrs}
use Rattle.crs_value.specs.declared.values.compound.Horizontal.{Horizontal}
use Rattle.crs_value.specs.declared.values.compound.Horizontal.TheVariants as horizontal
use Rattle.crs_value.specs.declared.values.crs.Crs.{Crs}
use Rattle.crs_value.specs.declared.values.crs.Crs.TheVariants as crs
use Rattle.crs_value.specs.declared.values.level.Level.{Level}
use Rattle.crs_normal.specs.inner.LowerLaws.{LowerLaws}
use Rattle.crs_normal.specs.PartSpellings.{geodetic_class}
use Rattle.crs_normal.specs.inner.SpelledCrs.{geodetic_keyword, item_compound, item_crs, item_geodetic, item_horizontal, item_projected, item_vertical, norm_compound, norm_crs, norm_geodetic, norm_horizontal, norm_projected, norm_vertical}
use Rattle.crs_normal.proofs.read.CrsLemmas.{geodetic-read, projected-read, vertical-read, of-tail, tail-read}
use Rattle.crs_normal.proofs.made.TailLemmas.{compound-names}
use Rattle.crs_normal.proofs.texts.SegmentLemmas.{IsIn, ReadsBack, Seen, Segment, a-text, either-item, if_left, if_right, items_of, lacks, one-field, one-item, placed-at, seen}
use Rattle.crs_normal.proofs.read.ViewLemmas.{keyword-names}
use Rattle.crs_normal.proofs.texts.RootLemmas.{crs_class, is-geodetic}
use Rattle.crs_normal.proofs.made.CompoundLemmas.{names-of}

abbrev compound : Class
compound = class.CompoundCrs

geographic-in : (level : Level) (g : GeodeticParts) → g.system.system_type ≡ types.Ellipsoidal →
    IsIn compound class.GeographicCrs (item_geodetic (norm_geodetic level g))
geographic-in level g e =
    ap (λ t. class_named compound (geodetic_keyword t)) e ∙ keyword-names _ _

-- the horizontal part is a geographic CRS or a projected one
abbrev side : (level : Level) (h : Horizontal) → IsHorizontal h →
    IsIn compound class.GeographicCrs (item_horizontal (norm_horizontal level h))
    ⊎ IsIn compound class.ProjectedCrs (item_horizontal (norm_horizontal level h))
side level (horizontal.Geodetic g) s = inl (geographic-in level g s.1)
side level (horizontal.Projected p) s = inr (keyword-names _ _)

module _ (laws : LowerLaws) (level : Level) where
  -- what is read of the arguments of each class
  abbrev ReadsAmong : List Item → List Item → List Item → Horizontal → Type 0
  ReadsAmong xs ys zs value =
      ReadsElse (ReadsAsHorizontal class.GeodeticCrs) xs
      (ReadsElse (ReadsAsHorizontal class.GeographicCrs) ys (ReadsFirst (ReadsAsHorizontal class.ProjectedCrs) zs)) value

  horizontal-field : {ss : List (Segment compound)} {item : Item} → Seen compound ss item → (h : Horizontal)
      (s : IsHorizontal h) → items_of class.GeodeticCrs ss ≡ [] →
      items_of class.GeographicCrs ss ≡ if_left (item_horizontal (norm_horizontal level h)) (side level h s) [] →
      items_of class.ProjectedCrs ss ≡ if_right (item_horizontal (norm_horizontal level h)) (side level h s) [] →
      ReadsAmong (those compound class.GeodeticCrs (arguments item))
      (those compound class.GeographicCrs (arguments item)) (those compound class.ProjectedCrs (arguments item))
      (norm_horizontal level h)
  horizontal-field {item = item} look (horizontal.Geodetic g) s none left right =
      let value = horizontal.Geodetic (norm_geodetic level g) in
      rw (lacks look class.GeodeticCrs none)
      (placed-at look class.GeographicCrs
      (λ ys. ReadsAmong [] ys (those compound class.ProjectedCrs (arguments item)) value)
      (item_geodetic (norm_geodetic level g)) left
      (λ p. (tt, geodetic-read laws class.GeographicCrs (search keyword-names) level g s.0 p)))
  horizontal-field {item = item} look (horizontal.Projected r) s none left right =
      let value = horizontal.Projected (norm_projected level r) in
      rw (lacks look class.GeodeticCrs none, lacks look class.GeographicCrs left)
      (placed-at look class.ProjectedCrs (λ zs. ReadsFirst (ReadsAsHorizontal class.ProjectedCrs) zs value)
      (item_projected (norm_projected level r)) right (λ p. (refl, projected-read laws level r s.0 p)))

  pub compound-read : (k : CompoundParts) → IsCompound k →
      ReadsBack item_compound (ReadsCompound class.CompoundCrs) (norm_compound level k)
  compound-read k s place =
      let look = seen compound (a-text k.name ∷
      either-item class.GeographicCrs class.ProjectedCrs refl (item_horizontal (norm_horizontal level k.horizontal))
      (side level k.horizontal s.horizontal) ∷
      one-item class.VerticalCrs (item_vertical (norm_vertical level k.vertical)) (keyword-names _ _) ∷
      of-tail compound-names level k.tail s.tail)
      (at_place place (item_compound (norm_compound level k))) (place + 11) refl in record {
        name = refl;
        horizontal = horizontal-field look k.horizontal s.horizontal refl refl refl;
        vertical = one-field look class.VerticalCrs item_vertical _ _ refl
            (vertical-read laws level k.vertical s.vertical);
        tail = tail-read laws look level k.tail s.tail refl refl refl refl refl refl refl;
      }

-- ---- all CRSs

pub crs-read : LowerLaws → (level : Level) (x : Crs) → IsCrs x → (place : ℕ) →
    ReadsCrs (crs_class x) (at_place place (item_crs (norm_crs level x))) (norm_crs level x)
crs-read laws level (crs.Geodetic g) s place = (
  is-geodetic g.system.system_type,
  geodetic-read laws (geodetic_class g.system.system_type) (names-of g.system.system_type) level g s place,
)
crs-read laws level (crs.Projected p) s place = (refl, projected-read laws level p s place)
crs-read laws level (crs.Vertical v) s place = (refl, vertical-read laws level v s place)
crs-read laws level (crs.Compound k) s place = (refl, compound-read laws level k s place)
