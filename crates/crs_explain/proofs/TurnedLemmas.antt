-- Two CRSs, and two sets of parameters, in the other order have the same texts, each with its values exchanged.
use Rattle.std.proofs.Common.{◌≡◌, ◌∙◌, ◌↔◌, ◌<◌, ℕ, zero, suc, Bool, true, if◌then◌else◌, inl, inr, Option, Some, None, List, [], ◌∷◌, map, refl, ap, subst, sym, slice_index_or}
use Rattle.std.proofs.Math.Bool.{and_comm}
use Rattle.std.proofs.lemmas.Bool.{cases_Bool}
use Rattle.std.proofs.lemmas.List.{length-map, map-append}
use Rattle.std.proofs.lemmas.List.Sorted.{IsPermutation-map}
use Rattle.std.specs.List.{filter}
use Rattle.std.specs.List.Sorted.{ties}
use Rattle.std.specs.Ordering.{is_lt, nat_cmp}
use Rattle.std.specs.Option.{is_some}
use Rattle.crs_decimal.specs.inner.Prelude.{Value}
use Rattle.crs_shape.specs.declared.unit_kind.UnitKind.TheVariants as kinds
use Rattle.crs_value.specs.inner.Prelude.{ParameterParts, IsIn, UnitParts}
use Rattle.crs_value.specs.Values.{IdentParts}
use Rattle.crs_value.specs.declared.values.crs.Crs.{Crs}
use Rattle.crs_value.specs.declared.values.level.Level.{Level}
use Rattle.crs_same.specs.inner.Prelude.{SameIdents, SameUnit, SameValue, BothOrNeither, ◌⨾◌, DifferenceParts, Differences, DifferencesInCrs, Parts, exchanged, part, path_text}
use Rattle.crs_same.specs.declared.content.Content.{Content}
use Rattle.crs_same.specs.declared.content.Content.TheVariants as content
use Rattle.crs_same.specs.declared.step.Step.{Step}
use Rattle.crs_canon.specs.Named.{ArePairedNames, named_once}
use Rattle.crs_explain.proofs.DifferingLemmas.{one-of}
use Rattle.crs_explain.specs.InOrder.{AreInOrder, rank}
use Rattle.crs_explain.specs.Differing.{AreDifferenceTexts, AreTexts, AreTextsBehind, AreTextsOf, AreTextsOfName, AreTextsOfNames, AreTextsOfOthers, AreTextsOfSet, are_empty, parameter_path, parts_of_parameter, PartTexts, texts_exchanged}

abbrev Turned : List PartTexts → List PartTexts
Turned texts = map texts_exchanged texts

-- ---- parts

-- what differs among these parts does so among those, with its values exchanged
record Turns (these those : Parts) : Type 0 where
  turns : (found : List DifferenceParts) → Differences these found → Differences those (map exchanged found)

one : {path : List Step} {Same Other : Type 0} {first second : Content} → (Same → Other) → (Other → Same) →
    Turns (part path Same first second) (part path Other second first)
one {path} {Same} {Other} {first} {second} there back = record { turns = each }
  where
    each : (found : List DifferenceParts) → Differences (part path Same first second) found →
        Differences (part path Other second first) (map exchanged found)
    each [] same = there same
    each (d ∷ further) (differs, is, last) = (λ other. differs (back other), ap exchanged is, ap (map exchanged) last)

both : {these those others more : Parts} → Turns these those → Turns others more → Turns (these ⨾ others) (those ⨾ more)
both f g = record {
  turns = λ found (front, back, is, here, there).
      (map exchanged front, map exchanged back, ap (map exchanged) is ∙ map-append exchanged front back, f.turns front here, g.turns back there);
}

-- ---- whether there is a value

turned-unless : (first second : List ℕ) (one : PartTexts) →
    Turned (if are_empty first second then [] else one ∷ []) ≡ (if are_empty second first then [] else texts_exchanged one ∷ [])
turned-unless [] [] one = refl
turned-unless [] (b ∷ second) one = refl
turned-unless (a ∷ first) [] one = refl
turned-unless (a ∷ first) (b ∷ second) one = refl

module _ (level : Level) (value : (a b : Value) → SameValue a b → SameValue b a)
    (unit : (a b : Option UnitParts) → BothOrNeither (SameUnit kinds.Plain level) a b → BothOrNeither (SameUnit kinds.Plain level) b a)
    (idents : (a b : List IdentParts) → SameIdents level a b → SameIdents level b a) where
  parameter : (x y : ParameterParts) → Turns (parts_of_parameter level x y) (parts_of_parameter level y x)
  parameter x y =
      both (one (value x.value y.value) (value y.value x.value))
      (both (one (unit x.unit y.unit) (unit y.unit x.unit))
      (one (idents x.identifiers y.identifiers) (idents y.identifiers x.identifiers)))

  behind : (front : List ℕ) (found : List DifferenceParts) (texts : List PartTexts) → AreTextsBehind level front found texts →
      AreTextsBehind level front (map exchanged found) (Turned texts)
  behind front [] texts e = ap Turned e
  behind front (d ∷ found) texts (one, others, e, (here, first, second), are) =
      (texts_exchanged one, Turned others, ap Turned e, (here, second, first), behind front found others are)

  name-of : (path name : List ℕ) (p q : Option ParameterParts) (texts : List PartTexts) → AreTextsOfName level path name p q texts →
      AreTextsOfName level path name q p (Turned texts)
  name-of path name (Some x) (Some y) texts (found, differ, are) =
      (map exchanged found, (parameter x y).turns found differ, behind (parameter_path path name) found texts are)
  name-of path name (Some x) None texts e = ap Turned e
  name-of path name None (Some y) texts e = ap Turned e
  name-of path name None None texts e = ap Turned e

  names-of : (path : List ℕ) (xs ys : List ParameterParts) (names : List (List ℕ)) (texts : List PartTexts) →
      AreTextsOfNames level path xs ys names texts → AreTextsOfNames level path ys xs names (Turned texts)
  names-of path xs ys [] texts e = ap Turned e
  names-of path xs ys (name ∷ names) texts (these, others, e, is, are) = (
    Turned these,
    Turned others,
    ap Turned e ∙ map-append texts_exchanged these others,
    name-of path name (named_once name xs) (named_once name ys) these is,
    names-of path xs ys names others are,
  )

  others-of : (path : List ℕ) (xs ys : List ParameterParts) (texts : List PartTexts) → AreTextsOfOthers level path xs ys texts →
      AreTextsOfOthers level path ys xs (Turned texts)
  others-of path xs ys texts (one, e, (here, first, second)) =
      (texts_exchanged one, ap Turned e ∙ turned-unless one.first one.second one, (here, second, first))

  paired : (xs ys : List ParameterParts) (names : List (List ℕ)) → ArePairedNames xs ys names → ArePairedNames ys xs names
  paired xs ys names are = record {
    ascend = are.ascend;
    same = λ name.
        subst (λ b. IsIn name names ↔ (b ≡ true)) (and_comm (is_some (named_once name xs)) (is_some (named_once name ys))) (are.same name);
  }

  pub set-of : (path : List ℕ) (xs ys : List ParameterParts) (texts : List PartTexts) → AreTextsOfSet level path xs ys texts →
      AreTextsOfSet level path ys xs (Turned texts)
  set-of path xs ys texts (names, these, others, are, told, left, whole) = (
    names,
    Turned these,
    Turned others,
    paired xs ys names are,
    names-of path xs ys names these told,
    others-of path xs ys others left,
    ap Turned whole ∙ map-append texts_exchanged these others,
  )

  -- ---- all parts

  part-of : (path : List ℕ) (first second : Content) (texts : List PartTexts) → AreTextsOf level path first second texts →
      AreTextsOf level path second first (Turned texts)
  part-of path (content.Parameters xs lacking) (content.Parameters ys others) texts are = set-of path xs ys texts are
  part-of path (content.Parameters xs lacking) second texts (one, e, (here, these, those)) =
      one-of level path second (content.Parameters xs lacking) (Turned texts) (inl tt) (texts_exchanged one, ap Turned e, (here, those, these))
  part-of path first second texts (one, e, (here, these, those)) =
      one-of level path second first (Turned texts) (inr tt) (texts_exchanged one, ap Turned e, (here, those, these))

  pub parts-of : (parts : List DifferenceParts) (texts : List PartTexts) → AreTexts level parts texts →
      AreTexts level (map exchanged parts) (Turned texts)
  parts-of [] texts e = ap Turned e
  parts-of (d ∷ parts) texts (these, others, e, is, are) = (
    Turned these,
    Turned others,
    ap Turned e ∙ map-append texts_exchanged these others,
    part-of (path_text d.path) d.first d.second these is,
    parts-of parts others are,
  )

  pub crs-of : (a b : Crs) → ((parts : List DifferenceParts) → DifferencesInCrs level a b parts → DifferencesInCrs level b a (map exchanged parts)) →
      (texts : List PartTexts) → AreDifferenceTexts level a b texts → AreDifferenceTexts level b a (Turned texts)
  crs-of a b turn texts (parts, differ, are) = (map exchanged parts, turn parts differ, parts-of parts texts are)

-- ---- in the order of some words

filter-turned : (test : PartTexts → Bool) → ((told : PartTexts) → test (texts_exchanged told) ≡ test told) → (parts : List PartTexts) →
    filter test (Turned parts) ≡ Turned (filter test parts)
filter-turned test same [] = refl
filter-turned test same (told ∷ parts) = elim (cases_Bool (test told)) [
  | inl is ↦ rw (same told, is, filter-turned test same parts) refl
  | inr other ↦ rw (same told, other, filter-turned test same parts) refl
]

module _ (words : List (List ℕ)) where
  abbrev tie : PartTexts → PartTexts → Bool
  tie = ties (λ x y. is_lt (nat_cmp (rank words x) (rank words y)))

  rank-at : (parts : List PartTexts) (i : ℕ) (other : PartTexts) →
      rank words (slice_index_or (Turned parts) i other) ≡ rank words (slice_index_or parts i (texts_exchanged other))
  rank-at [] i other = refl
  rank-at (told ∷ parts) zero other = refl
  rank-at (told ∷ parts) (suc i) other = rank-at parts i other

  pub in-order : (parts ordered : List PartTexts) → AreInOrder words parts ordered → AreInOrder words (Turned parts) (Turned ordered)
  in-order parts ordered is = record {
    are_all = IsPermutation-map texts_exchanged parts ordered is.are_all;
    by_word = λ i j other below within.
        rw (rank-at ordered i other, rank-at ordered j other)
        (is.by_word i j (texts_exchanged other) below (subst (λ n. j < n) (length-map ordered texts_exchanged) within));
    as_before = λ x.
        filter-turned (tie x) (λ told. refl) ordered ∙ ap Turned (is.as_before x) ∙ sym (filter-turned (tie x) (λ told. refl) parts);
  }
