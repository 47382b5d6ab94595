-- Whether an item is well formed, and whether it is normal, by computing.
use Rattle.std.proofs.Common.{◌≡◌, ◌≢◌, ℕ, ◌+◌, ◌≤◌, Bool, true, false, List, [], ◌∷◌, ◌++◌, map, Option, Some, None, codes, decimal, if◌then◌else◌, inl, inr, refl, sym, ap, subst}
use Rattle.std.specs.Cmp.Lexicographic.{slice_cmp}
use Rattle.std.specs.Ordering.{nat_cmp}
use Rattle.std.specs.declared.cmp.Ordering.{Ordering}
use Rattle.std.specs.declared.cmp.Ordering.TheVariants.{Less, Equal, Greater}
use Rattle.crs_text.specs.inner.Prelude.{Item, leaf, node, Siblings, End, More, arguments, skip, spelling_of, AreFormed, AreAllFormed, item_text}
use Rattle.crs_text.specs.declared.keyword.Keyword.{Keyword}
use Rattle.crs_shape.specs.declared.class.Class.{Class}
use Rattle.crs_shape.specs.declared.class.Class.TheVariants as class
use Rattle.crs_shape.specs.inner.Prelude.{keywords_of, class_in}
use Rattle.crs_value.specs.inner.Prelude.{AtClass, is_a, those, single_of}
use Rattle.crs_value.specs.Sound.{Each}
use Rattle.crs_value.specs.declared.values.level.Level.{Level}
use Rattle.crs_value.specs.declared.values.level.Level.TheVariants as levels
use Rattle.crs_normal.specs.Normal.{Below, AreNormalIn, AtLevel, IsFirst, IsNormalIn, IsFirstKeyword, left_out}
use Rattle.crs_normal.specs.Normal.{Ascend, AreOrdered, HasAxes, HasCodes, Has, HasSets, HasTail, IsCode, LacksEllipsoidal, Lacks, HasOwnForm, Rise, bare_classes, numbers_in, rank, set_classes, words_in}
use Rattle.crs_normal.specs.inner.LowerLaws.{LowerLaws}
use Rattle.crs_normal.proofs.verdicts.Verdicts.{Verdict, at_most, both, each, equal, equal_by, implied, negated, none, one_of, some, via}
use Rattle.crs_normal.proofs.verdicts.SingleVerdict.{is_code, is_single, is_word, single_in}

-- ---- the arguments of a class

abbrev put_if : Bool → Item → List Item → List Item
put_if true x xs = x ∷ xs
put_if false x xs = xs

-- computed in one pass
abbrev found : Class → Class → Siblings → List Item
found parent c End = []
found parent c (More item items) = put_if (is_a parent c item) item (found parent c items)

put-if : (b : Bool) (x : Item) (xs ys : List Item) → xs ≡ ys → put_if b x xs ≡ (if b then x ∷ ys else ys)
put-if true x xs ys e = ap (x ∷◌) e
put-if false x xs ys e = e

pub found-those : (parent c : Class) (items : Siblings) → found parent c items ≡ those parent c items
found-those parent c End = refl
found-those parent c (More item items) =
    put-if (is_a parent c item) item (found parent c items) (those parent c items) (found-those parent c items)

-- a verdict on what was found is one on the arguments of the class
abbrev over : (P : List Item → Type 0) → ((xs : List Item) → Verdict (P xs)) → (parent c : Class) (items : Siblings) →
    Verdict (P (those parent c items))
over P judge parent c items =
    via (subst P (found-those parent c items)) (subst P (sym (found-those parent c items))) (judge (found parent c items))

abbrev at_class : (c : Option Class) (P : Class → Type 0) → ((d : Class) → Verdict (P d)) → Verdict (AtClass c P)
at_class None P judge = Some (inr (λ h. h))
at_class (Some d) P judge = judge d

abbrev has : (c d : Class) (item : Item) → Verdict (Has c d item)
has c d item = over (λ xs. xs ≢ []) some c d (arguments item)

abbrev lacks : (c d : Class) (item : Item) → Verdict (Lacks c d item)
lacks c d item = over (λ xs. xs ≡ []) none c d (arguments item)

-- ---- sets

pub equal-less : Equal ≡ Less → ⊥
equal-less e = cc

pub greater-less : Greater ≡ Less → ⊥
greater-less e = cc

abbrev is_less : (o : Ordering) → Verdict (o ≡ Less)
is_less Less = Some (inl refl)
is_less Equal = Some (inr equal-less)
is_less Greater = Some (inr greater-less)

abbrev ascend : (items : List Item) → Verdict (Ascend items)
ascend [] = Some (inl tt)
ascend (item ∷ items) =
    both (each (λ other. Below (item_text item) (item_text other))
    (λ other. is_less (slice_cmp nat_cmp (item_text item) (item_text other))) items) (ascend items)

abbrev has_sets : (c : Class) (item : Item) → Verdict (HasSets c item)
has_sets c item =
    each (λ d. Ascend (those c d (arguments item))) (λ d. over Ascend ascend c d (arguments item)) set_classes

-- ---- axes

abbrev order_is : (k : ℕ) (orders : List Item) → Verdict (map (numbers_in class.Order) orders ≡ (decimal k ∷ []) ∷ [])
order_is k orders = equal_by (equal_by equal) (map (numbers_in class.Order) orders) ((decimal k ∷ []) ∷ [])

abbrev ordered : (k : ℕ) (axes : List Item) → Verdict (AreOrdered k axes)
ordered k [] = Some (inl tt)
ordered k (axis ∷ axes) =
    both (over (λ xs. map (numbers_in class.Order) xs ≡ (decimal k ∷ []) ∷ []) (order_is k) class.Axis class.Order
    (arguments axis)) (ordered (k + 1) axes)

abbrev has_axes : (c : Class) (item : Item) → Verdict (HasAxes c item)
has_axes c item =
    via (λ h. record { ordered = h.0; own_units = h.1.0; none_shared = h.1.1 })
    (λ r. (r.ordered, (r.own_units, r.none_shared)))
    (both (over (AreOrdered 1) (ordered 1) c class.Axis (arguments item))
    (both (over (Each (Has class.Axis class.AxisUnit)) (each (Has class.Axis class.AxisUnit) (has class.Axis class.AxisUnit))
    c class.Axis (arguments item)) (lacks c class.AxisUnit item)))

-- ---- the order of the end

abbrev rises : (c : Class) (least : ℕ) (items : Siblings) → Verdict (Rise c least items)
rises c least End = Some (inl tt)
rises c least (More item items) =
    at_class (class_in c item) (λ d. (least ≤ rank d) × Rise c (rank d) items)
    (λ d. both (at_most least (rank d)) (rises c (rank d) items))

abbrev has_tail : (c : Class) (item : Item) → Verdict (HasTail c item)
has_tail c item =
    via (λ h. record { in_order = h.0; none_bare = h.1 }) (λ r. (r.in_order, r.none_bare))
    (both (rises c 0 (arguments item)) (each (λ d. Lacks c d item) (λ d. lacks c d item) bare_classes))

-- ---- what a node of each class has

abbrev has_codes : (item : Item) → Verdict (HasCodes item)
has_codes item = each IsCode is_code (single_of (skip 1 (arguments item)) ++ single_of (skip 2 (arguments item)))

abbrev is_one : (xs : List (List ℕ)) (w : List ℕ) → Verdict (xs ≡ w ∷ [])
is_one xs w = equal_by equal xs (w ∷ [])

abbrev not_ellipsoidal : (c : Class) (item : Item) → Verdict (LacksEllipsoidal c item)
not_ellipsoidal c item =
    over (Each (λ cs. words_in class.CoordinateSystem cs ≢ codes "ellipsoidal" ∷ []))
    (each (λ cs. words_in class.CoordinateSystem cs ≢ codes "ellipsoidal" ∷ [])
    (λ cs. negated (is_one (words_in class.CoordinateSystem cs) (codes "ellipsoidal")))) c class.CoordinateSystem
    (arguments item)

abbrev pub own : (c : Class) (item : Item) → Verdict (HasOwnForm c item)
own class.GeodeticCrs item =
    via (λ h. (h.0, h.1.0, h.1.1.0, h.1.1.1)) (λ h. (h.0, (h.1, (h.2, h.3))))
    (both (not_ellipsoidal class.GeodeticCrs item) (both (has class.GeodeticCrs class.PrimeMeridian item)
    (both (has_axes class.GeodeticCrs item) (has_tail class.GeodeticCrs item))))
own class.GeographicCrs item =
    via (λ h. (h.0, h.1.0, h.1.1)) (λ h. (h.0, (h.1, h.2)))
    (both (has class.GeographicCrs class.PrimeMeridian item)
    (both (has_axes class.GeographicCrs item) (has_tail class.GeographicCrs item)))
own class.ProjectedCrs item = both (has_axes class.ProjectedCrs item) (has_tail class.ProjectedCrs item)
own class.VerticalCrs item = both (has_axes class.VerticalCrs item) (has_tail class.VerticalCrs item)
own class.CompoundCrs item = has_tail class.CompoundCrs item
own class.BaseCrs item = has class.BaseCrs class.PrimeMeridian item
own class.GeodeticFrame item = rises class.GeodeticFrame 0 (arguments item)
own class.VerticalFrame item = rises class.VerticalFrame 0 (arguments item)
own class.Ellipsoid item = has class.Ellipsoid class.LengthUnit item
own class.VerticalExtent item = has class.VerticalExtent class.LengthUnit item
own class.PrimeMeridian item =
    implied (is_one (numbers_in class.PrimeMeridian item) (codes "0")) (lacks class.PrimeMeridian class.AngleUnit item)
own class.Identifier item = has_codes item
own other item = Some (inl tt)

abbrev first_is : (keyword : List ℕ) (keywords : List Keyword) → Verdict (IsFirst keyword keywords)
first_is keyword [] = Some (inr (λ h. h))
first_is keyword (first ∷ others) = equal keyword (spelling_of first)

abbrev written : (c : Class) (keyword : List ℕ) → Verdict (IsFirstKeyword c keyword)
written class.AxisUnit keyword = one_of (equal keyword (codes "LENGTHUNIT")) (equal keyword (codes "ANGLEUNIT"))
written c keyword = first_is keyword (keywords_of c)

-- ---- items

abbrev at_level : (level : Level) (c : Class) (item : Item) → Verdict (AtLevel level c item)
at_level levels.Full c item = Some (inl (refl, (refl, (refl, tt))))
at_level levels.Definition c item =
    each (λ d. [] ≡ those c d (arguments item)) (λ d. over (λ xs. [] ≡ xs) (λ xs. via (λ e. sym e) (λ e. sym e) (none xs)) c d (arguments item)) left_out

abbrev mutual
  pub formed : LowerLaws → (item : Item) → Verdict (AreFormed item)
  formed l (leaf kind place raw) = is_single l kind raw
  formed l (node place keyword square first others close) =
      via (λ h. (h.0, h.1.0, h.1.1)) (λ h. (h.0, (h.1, h.2)))
      (both (is_word keyword) (both (formed l first) (all_formed l others)))

  pub all_formed : LowerLaws → (items : Siblings) → Verdict (AreAllFormed items)
  all_formed l End = Some (inl tt)
  all_formed l (More item items) = both (formed l item) (all_formed l items)

abbrev mutual
  pub normal_in : LowerLaws → (level : Level) (parent c : Class) (item : Item) → Verdict (IsNormalIn level parent c item)
  normal_in l level parent c (leaf kind place raw) = single_in l parent kind raw
  normal_in l level parent c (node place keyword square first others close) =
      via
      (λ h. record {
        first_keyword = h.0;
        at_level = h.1.0;
        own_form = h.1.1.0;
        ascending_sets = h.1.1.1.0;
        normal_arguments = (h.1.1.1.1.0, h.1.1.1.1.1);
      })
      (λ r. (r.first_keyword, (r.at_level, (r.own_form, (r.ascending_sets, (r.normal_arguments.0, r.normal_arguments.1))))))
      (both (written c keyword) (both (at_level level c (node place keyword square first others close))
      (both (own c (node place keyword square first others close))
      (both (has_sets c (node place keyword square first others close))
      (both (at_class (class_in c first) (λ d. IsNormalIn level c d first) (λ d. normal_in l level c d first))
      (all_normal_in l level c others))))))

  pub all_normal_in : LowerLaws → (level : Level) (c : Class) (items : Siblings) → Verdict (AreNormalIn level c items)
  all_normal_in l level c End = Some (inl tt)
  all_normal_in l level c (More item items) =
      both (at_class (class_in c item) (λ d. IsNormalIn level c d item) (λ d. normal_in l level c d item))
      (all_normal_in l level c items)
