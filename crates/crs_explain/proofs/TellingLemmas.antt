-- Of each part that differs something is told, and all that is told of it tells of that part.
use Rattle.std.proofs.Common.{◌≡◌, ◌∙◌, ◌+◌, codes, ◌↔◌, arith, ℕ, zero, suc, true, if◌then◌else◌, inl, inr, Option, Some, None, List, [], ◌∷◌, ◌++◌, length, max, refl, ap, subst, sym, take, append_assoc}
use Rattle.std.specs.List.{AllByRecursion, flat_map, prefix_len}
use Rattle.std.specs.List.Sorted.{IsPermutation}
use Rattle.std.specs.Option.{option_map, option_and_then}
use Rattle.std.specs.Str.{bytes_eq}
use Rattle.std.proofs.lemmas.Bool.{cases_Bool}
use Rattle.std.proofs.lemmas.List.{nil_from_length}
use Rattle.std.proofs.lemmas.List.Elements.{All-from_recursion, recursion_from_All}
use Rattle.std.proofs.lemmas.List.Sorted.{All-permutation, length_permutation, list_any-IsPermutation}
use Rattle.std.proofs.lemmas.Slice.Eq.{bytes_eq-Decides}
use Rattle.crs_decimal.specs.inner.Prelude.{Value}
use Rattle.crs_shape.specs.declared.unit_kind.UnitKind.{UnitKind}
use Rattle.crs_value.specs.declared.values.compound.Horizontal.{Horizontal}
use Rattle.crs_value.specs.declared.values.compound.Horizontal.TheVariants as horizontal
use Rattle.crs_value.specs.declared.values.crs.Crs.{Crs}
use Rattle.crs_value.specs.declared.values.crs.Crs.TheVariants as crs
use Rattle.crs_value.specs.declared.values.frame.Frame.{Frame}
use Rattle.crs_value.specs.declared.values.frame.Frame.TheVariants as frame
use Rattle.crs_value.specs.declared.values.level.Level.{Level}
use Rattle.crs_value.specs.inner.Prelude.{CompoundParts, ConversionParts, GeodeticParts, BaseParts, ProjectedParts, VerticalParts, DynamicParts, AxisParts, EllipsoidParts, MeridianParts, SystemParts, TailParts, UnitParts, ParameterParts, IsParameter, IsConversion}
use Rattle.crs_value.specs.SoundCompound.{IsHorizontal}
use Rattle.crs_value.specs.SoundCrs.{IsCrs}
use Rattle.crs_value.specs.Sound.{Each}
use Rattle.crs_same.specs.declared.content.Content.{Content}
use Rattle.crs_same.specs.declared.content.Content.TheVariants as content
use Rattle.crs_same.specs.declared.step.Step.{Step}
use Rattle.crs_same.specs.declared.step.Step.TheVariants as step
use Rattle.crs_same.specs.Parts.{◌▸◌, Parts, none, part, ◌⨾◌, DifferenceParts, Differences, given, length_unit, nodes, sets}
use Rattle.crs_same.specs.Parts.{parts_of_method, parts_of_conversion, parts_of_dynamic, parts_of_tail, parts_of_geodetic, parts_of_base, parts_of_projected, parts_of_vertical, parts_of_horizontal, parts_of_compound, parts_of_crs}
use Rattle.crs_same.specs.Parts.{parts_of_ellipsoid, parts_of_ellipsoids, parts_of_meridian, parts_of_frame, parts_of_axis, parts_at, parts_of_axes, parts_of_system}
use Rattle.crs_same.specs.inner.Prelude.{DifferencesInCrs, SameParameter, SameSet, further_text, path_text}
use Rattle.crs_streams.specs.Escaped.{escaped}
use Rattle.crs_explain.proofs.DifferingLemmas.{NotSet}
use Rattle.crs_explain.proofs.ToldLemmas.{both-empty}
use Rattle.crs_explain.specs.InOrder.{AreOrderedTexts}
use Rattle.crs_explain.specs.CodePoints.{code_points}
use Rattle.crs_explain.specs.Differing.{AreDifferenceTexts, AreTexts, AreTextsBehind, AreTextsOf, AreTextsOfName, AreTextsOfNames, AreTextsOfOne, AreTextsOfSet, PartTexts, are_empty, difference_line, has_part, shown, is_of_part, parameter_path, part_of}
use Rattle.crs_canon.specs.Named.{named_once}

each-both : {V : Type 0} (P : V → Type 0) (xs ys : List V) → Each P xs → Each P ys → Each P (xs ++ ys)
each-both P [] ys f g = g
each-both P (x ∷ xs) ys f g = (f.0, each-both P xs ys f.1 g)

-- ---- of each part something is told

lone : (level : Level) (path : List ℕ) (first second : Content) → NotSet first → AreTextsOf level path first second [] → ⊥
lone level path (content.Parameters xs lacking) second other are = other
lone level path first second other (one, e, is) = absurd (cc)

module _ (level : Level) (told : (path : List ℕ) (xs ys : List ParameterParts) → Each IsParameter xs → Each IsParameter ys →
    AreTextsOfSet level path xs ys [] → SameSet (SameParameter level) xs ys) where
  abbrev pub IsTold : DifferenceParts → Type 0
  IsTold d = (path : List ℕ) → AreTextsOf level path d.first d.second [] → ⊥

  pub record Tells (parts : Parts) : Type 0 where
    pub tells : (found : List DifferenceParts) → Differences parts found → Each IsTold found

  nothing : Tells none
  nothing = record { tells = λ found is. subst (Each IsTold) (sym is) tt }

  infixr 10 ◌⨟◌
  ◌⨟◌ : {these others : Parts} → Tells these → Tells others → Tells (these ⨾ others)
  f ⨟ g = record {
    tells = λ found h.
        let (front, back, is, here, there) = h in
        subst (Each IsTold) (sym is) (each-both IsTold front back (f.tells front here) (g.tells back there));
  }

  differing : {path : List Step} {Same : Type 0} {first second : Content} →
      (¬ Same → (at : List ℕ) → AreTextsOf level at first second [] → ⊥) → Tells (part path Same first second)
  differing {path} {Same} {first} {second} is-told = record { tells = each }
    where
      each : (found : List DifferenceParts) → Differences (part path Same first second) found → Each IsTold found
      each [] same = tt
      each (d ∷ further) (differs, is, last) = (subst IsTold (sym is) (is-told differs), subst (Each IsTold) (sym last) tt)

  one : {path : List Step} {Same : Type 0} {first second : Content} → NotSet first → Tells (part path Same first second)
  one {path} {Same} {first} {second} other = differing (λ differs at are. lone level at first second other are)

  given-one : {V : Type 0} (what : V → Content) → ((value : V) → NotSet (what value)) → (x : Option V) → NotSet (given what x)
  given-one what other None = tt
  given-one what other (Some value) = other value

  texts-if-any : {path : List Step} {Same : Type 0} {second : Content} (x : Option (List ℕ)) → Tells (part path Same (given content.Text x) second)
  texts-if-any x = one (given-one content.Text (λ v. tt) x)

  numbers-if-any : {path : List Step} {Same : Type 0} {second : Content} (x : Option Value) → Tells (part path Same (given content.Number x) second)
  numbers-if-any x = one (given-one content.Number (λ v. tt) x)

  units-if-any : {path : List Step} {Same : Type 0} {second : Content} (kind : UnitKind) (x : Option UnitParts) →
      Tells (part path Same (given (content.Unit kind) x) second)
  units-if-any kind x = one (given-one (content.Unit kind) (λ v. tt) x)

  length-of : {path : List Step} {Same : Type 0} {second : Content} (x : Option UnitParts) → Tells (part path Same (length_unit x) second)
  length-of None = one tt
  length-of (Some unit) = one tt

  either : {V : Type 0} (at : List Step) (name_of : V → List ℕ) (parts : V → V → Parts) → ((a b : V) → Tells (parts a b)) →
      (a b : Option V) → Tells (nodes at name_of parts a b)
  either at name_of parts each-of None None = nothing
  either at name_of parts each-of (Some a) (Some b) = each-of a b
  either at name_of parts each-of None (Some b) = one tt
  either at name_of parts each-of (Some a) None = one tt

  parameters : {path : List Step} (xs ys : List ParameterParts) → Each IsParameter xs → Each IsParameter ys →
      Tells (sets path (SameParameter level) content.Parameters xs ys)
  parameters xs ys are others = differing (λ differs at none. differs (told at xs ys are others none))

  dynamic : (at : List Step) (a b : Option DynamicParts) → Tells (parts_of_dynamic at level a b)
  unfolding parts_of_dynamic
  dynamic at a b =
      numbers-if-any (option_map (λ d. d.epoch) a) ⨟ one (given-one content.Model (λ v. tt) (option_and_then (λ d. d.model) a))

  ellipsoid : (at : List Step) (a b : EllipsoidParts) → Tells (parts_of_ellipsoid at level a b)
  ellipsoid at a b = one tt ⨟ one tt ⨟ one tt ⨟ length-of a.unit ⨟ one tt

  ellipsoids : (at : List Step) (a b : Option EllipsoidParts) → Tells (parts_of_ellipsoids at level a b)
  ellipsoids at a b = either at (λ e. e.name) (parts_of_ellipsoid at level) (ellipsoid at) a b

  meridian : (at : List Step) (a b : Option MeridianParts) → Tells (parts_of_meridian at level a b)
  unfolding parts_of_meridian
  meridian at a b = one tt ⨟ one tt ⨟ units-if-any _ _ ⨟ one tt

  frame-of : (at : List Step) (a b : Frame) → Tells (parts_of_frame at level a b)
  unfolding parts_of_frame
  frame-of at (frame.Datum a) (frame.Datum b) =
      one tt ⨟ ellipsoids (at ▸ step.Ellipsoid) a.ellipsoid b.ellipsoid ⨟ texts-if-any a.anchor ⨟ numbers-if-any a.anchor_epoch ⨟ one tt
  frame-of at (frame.Ensemble a) (frame.Ensemble b) =
      one tt ⨟ one tt ⨟ ellipsoids (at ▸ step.Ellipsoid) a.ellipsoid b.ellipsoid ⨟ one tt ⨟ one tt
  frame-of at (frame.Datum a) (frame.Ensemble b) =
      one tt ⨟ one tt ⨟ ellipsoids (at ▸ step.Ellipsoid) a.ellipsoid b.ellipsoid ⨟ one tt
  frame-of at (frame.Ensemble a) (frame.Datum b) =
      one tt ⨟ one tt ⨟ ellipsoids (at ▸ step.Ellipsoid) a.ellipsoid b.ellipsoid ⨟ one tt

  axis : (at : List Step) (a b : SystemParts) (x y : AxisParts) → Tells (parts_of_axis at level a b x y)
  unfolding parts_of_axis
  axis at a b x y = one tt ⨟ one tt ⨟ one (given-one content.Meridian (λ v. tt) x.meridian) ⨟ units-if-any _ _ ⨟ one tt

  axes-at : (at : List Step) (a b : SystemParts) (position : ℕ) → Tells (parts_at at level a b position)
  axes-at at a b position = record {
    tells = λ found h.
        let (x, here, (y, there, is)) = h in
        (either at (λ axis. axis.name) (parts_of_axis at level a b) (axis at a b) x y).tells found is;
  }

  axes : (at : List Step) (a b : SystemParts) (count : ℕ) → Tells (parts_of_axes at level a b count)
  axes at a b zero = nothing
  axes at a b (suc count) = axes at a b count ⨟ axes-at (at ▸ step.Axis (suc count)) a b (suc count)

  system : (at : List Step) (a b : SystemParts) → Tells (parts_of_system at level a b)
  unfolding parts_of_system
  system at a b = one tt ⨟ one tt ⨟ one tt ⨟ axes at a b (max (length a.axes) (length b.axes))

  conversion : (at : List Step) (a b : ConversionParts) → IsConversion a → IsConversion b → Tells (parts_of_conversion at level a b)
  unfolding parts_of_conversion parts_of_method
  conversion at a b is-a is-b = one tt ⨟ (one tt ⨟ one tt) ⨟ parameters a.parameters b.parameters is-a.parameters is-b.parameters ⨟ one tt

  tail : (at : List Step) (a b : TailParts) → Tells (parts_of_tail at level a b)
  unfolding parts_of_tail
  tail at a b = one tt ⨟ one tt ⨟ texts-if-any _

  geodetic : (at : List Step) (a b : GeodeticParts) → Tells (parts_of_geodetic at level a b)
  unfolding parts_of_geodetic
  geodetic at a b = search (◌⨟◌, one, dynamic, frame-of, meridian, system, tail) depth 9

  base : (at : List Step) (a b : BaseParts) → Tells (parts_of_base at level a b)
  unfolding parts_of_base
  base at a b =
      one tt ⨟ dynamic (at ▸ step.Dynamic) a.dynamic b.dynamic ⨟ frame-of (at ▸ step.Datum) a.frame b.frame
      ⨟ meridian (at ▸ step.Meridian) a.meridian b.meridian ⨟ units-if-any _ a.unit ⨟ one tt

  projected : (at : List Step) (a b : ProjectedParts) → IsConversion a.conversion → IsConversion b.conversion →
      Tells (parts_of_projected at level a b)
  unfolding parts_of_projected
  projected at a b is-a is-b =
      one tt ⨟ base (at ▸ step.Base) a.base b.base ⨟ conversion (at ▸ step.Conversion) a.conversion b.conversion is-a is-b
      ⨟ system (at ▸ step.System) a.system b.system ⨟ tail at a.tail b.tail

  vertical : (at : List Step) (a b : VerticalParts) → Tells (parts_of_vertical at level a b)
  unfolding parts_of_vertical
  vertical at a b = search (◌⨟◌, one, dynamic, frame-of, system, tail) depth 8

  horizontal-of : (at : List Step) (a b : Horizontal) → IsHorizontal a → IsHorizontal b → Tells (parts_of_horizontal at level a b)
  unfolding parts_of_horizontal
  horizontal-of at (horizontal.Geodetic a) (horizontal.Geodetic b) is-a is-b = geodetic at a b
  horizontal-of at (horizontal.Projected a) (horizontal.Projected b) is-a is-b = projected at a b is-a.0.conversion is-b.0.conversion
  horizontal-of at a b is-a is-b = one tt

  compound : (at : List Step) (a b : CompoundParts) → IsHorizontal a.horizontal → IsHorizontal b.horizontal → Tells (parts_of_compound at level a b)
  unfolding parts_of_compound
  compound at a b is-a is-b =
      one tt ⨟ horizontal-of (at ▸ step.Horizontal) a.horizontal b.horizontal is-a is-b
      ⨟ vertical (at ▸ step.Vertical) a.vertical b.vertical ⨟ tail at a.tail b.tail

  pub crs-of : (a b : Crs) → IsCrs a → IsCrs b → Tells (parts_of_crs level a b)
  crs-of (crs.Geodetic a) (crs.Geodetic b) is-a is-b = geodetic [] a b
  crs-of (crs.Projected a) (crs.Projected b) is-a is-b = projected [] a b is-a.conversion is-b.conversion
  crs-of (crs.Vertical a) (crs.Vertical b) is-a is-b = vertical [] a b
  crs-of (crs.Compound a) (crs.Compound b) is-a is-b = compound [] a b is-a.horizontal is-b.horizontal
  crs-of a b is-a is-b = one tt

  -- without texts no part differs
  pub none-differs : (found : List DifferenceParts) → Each IsTold found → AreTexts level found [] → found ≡ []
  none-differs [] each are = refl
  none-differs (d ∷ found) (here, each) (these, others, e, is, are) =
      absurd (here (path_text d.path) (subst (AreTextsOf level (path_text d.path) d.first d.second) (both-empty these others e).0 is))

  -- ---- the part of each text

  take-more : (n b : ℕ) (bytes : List ℕ) → take (1 + n) (b ∷ bytes) ≡ b ∷ take n bytes
  take-more n b bytes = let e : 1 + n ≡ suc n = omega arith in ap (λ k. take k (b ∷ bytes)) e

  cut : (path rest : List ℕ) → part_of (path ++ 91 ∷ rest) ≡ part_of path
  cut [] rest = refl
  cut (b ∷ path) rest = elim (cases_Bool (is_of_part b)) [
    | inl is ↦
        rw is
        (take-more (prefix_len is_of_part (path ++ 91 ∷ rest)) b (path ++ 91 ∷ rest) ∙ ap (λ bytes. b ∷ bytes) (cut path rest)
        ∙ sym (take-more (prefix_len is_of_part path) b path))
    | inr other ↦ rw other refl
  ]

  -- a text tells of the part at this path
  abbrev IsOf : List ℕ → PartTexts → Type 0
  IsOf path one = part_of one.path ≡ part_of path

  behind : (path rest : List ℕ) (found : List DifferenceParts) (texts : List PartTexts) →
      AreTextsBehind level (path ++ 91 ∷ rest) found texts → Each (IsOf path) texts
  behind path rest [] texts e = subst (Each (IsOf path)) (sym e) tt
  behind path rest (d ∷ found) texts (one, others, e, (here, first, second), are) =
      subst (Each (IsOf path)) (sym e)
      (ap part_of (here ∙ append_assoc path (91 ∷ rest) (further_text d.path)) ∙ cut path (rest ++ further_text d.path), behind path rest found others are)

  front-is : (path name : List ℕ) → parameter_path path name ≡ path ++ 91 ∷ 34 ∷ (name ++ codes "\"]")
  front-is path name =
      ap (λ bytes. bytes ++ codes "\"]") (append_assoc path (codes "[\"") name) ∙ append_assoc path (codes "[\"" ++ name) (codes "\"]")

  of-name : (path name : List ℕ) (x y : Option ParameterParts) (texts : List PartTexts) → AreTextsOfName level path name x y texts →
      Each (IsOf path) texts
  of-name path name (Some x) (Some y) texts (found, differ, are) =
      behind path (34 ∷ (name ++ codes "\"]")) found texts (subst (λ front. AreTextsBehind level front found texts) (front-is path name) are)
  of-name path name None y texts e = subst (Each (IsOf path)) (sym e) tt
  of-name path name (Some x) None texts e = subst (Each (IsOf path)) (sym e) tt

  of-names : (path : List ℕ) (xs ys : List ParameterParts) (names : List (List ℕ)) (texts : List PartTexts) →
      AreTextsOfNames level path xs ys names texts → Each (IsOf path) texts
  of-names path xs ys [] texts e = subst (Each (IsOf path)) (sym e) tt
  of-names path xs ys (name ∷ names) texts (these, others, e, is, are) =
      subst (Each (IsOf path)) (sym e)
      (each-both (IsOf path) these others (of-name path name (named_once name xs) (named_once name ys) these is) (of-names path xs ys names others are))

  unless : (path first second : List ℕ) (one : PartTexts) → IsOf path one → Each (IsOf path) (if are_empty first second then [] else one ∷ [])
  unless path [] [] one is = tt
  unless path [] (b ∷ second) one is = (is, tt)
  unless path (a ∷ first) second one is = (is, tt)

  of-set : (path : List ℕ) (xs ys : List ParameterParts) (texts : List PartTexts) → AreTextsOfSet level path xs ys texts → Each (IsOf path) texts
  of-set path xs ys texts (names, these, rest, paired, are, (one, e, is), whole) =
      subst (Each (IsOf path)) (sym whole) (each-both (IsOf path) these rest (of-names path xs ys names these are)
      (subst (Each (IsOf path)) (sym e) (unless path one.first one.second one (ap part_of is.0))))

  of-one : (path : List ℕ) (first second : Content) (texts : List PartTexts) → AreTextsOfOne level path first second texts → Each (IsOf path) texts
  of-one path first second texts (one, e, is) = subst (Each (IsOf path)) (sym e) (ap part_of is.0, tt)

  of-part : (path : List ℕ) (first second : Content) (texts : List PartTexts) → AreTextsOf level path first second texts → Each (IsOf path) texts
  of-part path (content.Parameters xs lacking) (content.Parameters ys others) texts are = of-set path xs ys texts are
  of-part path (content.Parameters xs lacking) second texts are = of-one path (content.Parameters xs lacking) second texts are
  of-part path first second texts are = of-one path first second texts are

  -- ---- texts of the same parts

  is-part : (path other : List ℕ) → path ≡ other → bytes_eq path other ≡ true
  is-part path other = (bytes_eq-Decides path other).1

  has-in-front : (these others : List PartTexts) (path : List ℕ) → has_part these path ≡ true → has_part (these ++ others) path ≡ true
  has-in-front [] others path has = absurd (cc)
  has-in-front (one ∷ these) others path has = elim (cases_Bool (bytes_eq (part_of one.path) path)) [
    | inl is ↦ rw is refl
    | inr other ↦ rw other (has-in-front these others path (rw other at has))
  ]

  has-behind : (these others : List PartTexts) (path : List ℕ) → has_part others path ≡ true → has_part (these ++ others) path ≡ true
  has-behind [] others path has = has
  has-behind (one ∷ these) others path has = elim (cases_Bool (bytes_eq (part_of one.path) path)) [
    | inl is ↦ rw is refl
    | inr other ↦ rw other (has-behind these others path has)
  ]

  -- each of these texts, which tell of one part, has one of those, which tell of it and are some
  has-each : (path : List ℕ) (these others : List PartTexts) → Each (IsOf path) these → Each (IsOf path) others → (others ≡ [] → ⊥) →
      Each (λ one. has_part others (part_of one.path) ≡ true) these
  has-each path [] others are those some = tt
  has-each path (one ∷ these) [] are those some = absurd (some refl)
  has-each path (one ∷ these) (other ∷ others) (is, are) (here, those) some =
      (rw (is-part (part_of other.path) (part_of one.path) (here ∙ sym is)) refl, has-each path these (other ∷ others) are (here, those) some)

  more : (P Q : PartTexts → Type 0) (texts : List PartTexts) → ((one : PartTexts) → P one → Q one) → Each P texts → Each Q texts
  more P Q [] f each = tt
  more P Q (one ∷ texts) f (here, each) = (f one here, more P Q texts f each)

  each-moved : (P : PartTexts → Type 0) (xs ys : List PartTexts) → IsPermutation xs ys → Each P xs → Each P ys
  each-moved P xs ys moved each = back ys (recursion_from_All P ys (All-permutation P xs ys moved (All-from_recursion P xs (there xs each))))
    where
      there : (xs : List PartTexts) → Each P xs → AllByRecursion P xs
      there [] each = tt
      there (x ∷ xs) each = (each.0, there xs each.1)

      back : (xs : List PartTexts) → AllByRecursion P xs → Each P xs
      back [] all = tt
      back (x ∷ xs) all = (all.0, back xs all.1)

  pub all-told : (found : List DifferenceParts) (these others : List PartTexts) → Each IsTold found → AreTexts level found these →
      AreTexts level found others → Each (λ one. has_part others (part_of one.path) ≡ true) these
  all-told [] these others each e are = subst (Each (λ one. has_part others (part_of one.path) ≡ true)) (sym e) tt
  all-told (d ∷ found) these others (here, each) (front, back, e, is, are) (ahead, rest, f, was, were) =
      let path = path_text d.path in
      rw (e, f) (each-both (λ one. has_part (ahead ++ rest) (part_of one.path) ≡ true) front back
      (more (λ one. has_part ahead (part_of one.path) ≡ true) (λ one. has_part (ahead ++ rest) (part_of one.path) ≡ true) front
      (λ one has. has-in-front ahead rest (part_of one.path) has)
      (has-each path front ahead (of-part path d.first d.second front is) (of-part path d.first d.second ahead was)
      (λ none. here path (subst (AreTextsOf level path d.first d.second) none was))))
      (more (λ one. has_part rest (part_of one.path) ≡ true) (λ one. has_part (ahead ++ rest) (part_of one.path) ≡ true) back
      (λ one has. has-behind ahead rest (part_of one.path) has) (all-told found back rest each are were)))

  -- in whatever order
  pub same-told : (a b : Crs) → IsCrs a → IsCrs b →
      ((found other : List DifferenceParts) → DifferencesInCrs level a b found → DifferencesInCrs level a b other → found ≡ other) →
      (words : List (List ℕ)) (these others : List PartTexts) → AreOrderedTexts words level a b these → AreOrderedTexts words level a b others →
      Each (λ one. has_part others (part_of one.path) ≡ true) these
  same-told a b is-a is-b once words these others (texts, (parts, found, are), order) (further, (same, differ, were), ordered) =
      let P : PartTexts → Type 0 = λ one. has_part others (part_of one.path) ≡ true in
      let all = all-told parts texts further ((crs-of a b is-a is-b).tells parts found) are
      (subst (λ parts. AreTexts level parts further) (once same parts differ found) were) in
      each-moved P texts these order.are_all
      (more (λ one. has_part further (part_of one.path) ≡ true) P texts
      (λ one has. sym (list_any-IsPermutation (λ other. bytes_eq (part_of other.path) (part_of one.path)) further others ordered.are_all) ∙ has) all)

  -- ---- nothing is told exactly where no part differs

  module _ (a b : Crs) (is-a : IsCrs a) (is-b : IsCrs b) (Same : Type 0) (same : DifferencesInCrs level a b [] → Same)
      (differ : (one : DifferenceParts) (further : List DifferenceParts) → DifferencesInCrs level a b (one ∷ further) → Same → ⊥) where
    pub where-same : (texts : List PartTexts) → AreDifferenceTexts level a b texts → (texts ≡ []) ↔ Same
    where-same texts (parts, found, are) = (there, back parts found are)
      where
        there : texts ≡ [] → Same
        there e =
            same (subst (DifferencesInCrs level a b)
            (none-differs parts ((crs-of a b is-a is-b).tells parts found) (subst (AreTexts level parts) e are)) found)

        back : (parts : List DifferenceParts) → DifferencesInCrs level a b parts → AreTexts level parts texts → Same → texts ≡ []
        back [] found are s = are
        back (one ∷ further) found are s = absurd (differ one further found s)

    pub ordered-where-same : (words : List (List ℕ)) (texts : List PartTexts) → AreOrderedTexts words level a b texts → (texts ≡ []) ↔ Same
    ordered-where-same words ordered (texts, are, order) =
        let i = where-same texts are in
        let long = length_permutation texts ordered order.are_all in (
          λ e. i.0 (nil_from_length texts (sym long ∙ ap length e)),
          λ s. nil_from_length ordered (long ∙ ap length (i.1 s)),
        )

    pub told-where-same : {B : Type 0} (tell : PartTexts → List B) → ((text : PartTexts) (others : List B) → tell text ++ others ≡ [] → ⊥) →
        (texts : List PartTexts) (told-of : List B) → AreDifferenceTexts level a b texts → told-of ≡ flat_map tell texts → (told-of ≡ []) ↔ Same
    told-where-same {B} tell some texts told-of are is =
        let i = where-same texts are in
        (λ e. i.0 (none-told texts (sym is ∙ e)), λ s. is ∙ ap (flat_map tell) (i.1 s))
      where
        none-told : (texts : List PartTexts) → flat_map tell texts ≡ [] → texts ≡ []
        none-told [] e = refl
        none-told (text ∷ texts) e = absurd (some text (flat_map tell texts) e)

pub line-has-bytes : (text : PartTexts) (others : List ℕ) → difference_line text ++ others ≡ [] → ⊥
line-has-bytes text others e =
    let line = (both-empty (difference_line text) others (sym e)).0 in
    let end =
    (both-empty (escaped text.path ++ codes ": " ++ shown text.first ++ codes " | " ++ shown text.second ++ code_points text.first text.second) (10 ∷ []) (sym line)).1 in
    absurd (cc)
