-- What the table of keywords says, row by row, by computation.
use Rattle.std.proofs.Common.{◌≡◌, ℕ, Bool, true, false, not, List, length, Option, Some, None, ◌==◌, ◌&&◌, ◌||◌, [], ◌∷◌, if◌then◌else◌, inl, inr, ap, subst, sym, ◌∙◌, refl, rules, ◌^◌, ◌<◌, map, arith, max}
use Rattle.std.specs.List.{list_all, list_any, find, flat_map}
use Rattle.std.proofs.Math.Bool.{beq}
use Rattle.std.specs.Cmp.{booleans_Decides}
use Rattle.std.proofs.lemmas.Bool.{agree_below_at, and_parts, cases_Bool, eqb-true, eqb-false}
use denote.Enum.Bare.{sameb, same_true}
use denote.Enum.Declared.{rowss, tag_of}
use denote.Enum.Enum.{tag_below}
use Rattle.crs_text.specs.declared.keyword.Keyword.{Keyword}
use Rattle.crs_text.specs.inner.Prelude.{spelling_of, every_keyword}
use Rattle.crs_shape.specs.declared.class.Class.{Class}
use Rattle.crs_shape.specs.Keywords.{every_class, has_keyword, is_keyword, is_known, root_named}
use Rattle.crs_shape.specs.inner.KeywordTable.{classes_of, classes_by, is_among, is_part, is_root, rivals_of, IsClear, argument_classes}
use Rattle.crs_shape.specs.Shape.{has_class, class_named, SlotParts, slots_of, takes}
use Rattle.crs_shape.proofs.naming.ListLemmas.{passes-all, passes-none, list_any-map}
use Rattle.std.specs.Int.{bit_at}
use Rattle.std.proofs.lemmas.List.Folds.{list_any-append}
use Rattle.std.proofs.lemmas.Bool.Decides.{nat_tests}
use Rattle.std.proofs.lemmas.Nat.Bits.{bit_at_or, bit_at-lt, bit_at-zero, bit_at-pow_same, bit_at-pow_other}
use Rattle.crs_shape.specs.contracts.class.Class.{the_type}
use Rattle.crs_shape.specs.inner.ClassSet.{word_of, has_bit, bit_of, set_of}
use Rattle.crs_text.specs.contracts.keyword.Keyword as keywords
use Rattle.crs_shape.specs.contracts.class.Class as classes

-- each class is among all, and each keyword: by its number

pub class-among : (c : Class) → is_among c every_class ≡ true
class-among c =
    agree_below_at (λ n. list_any (λ d. tag_of classes.the_type d == n) every_class) (λ _. true) (length (rowss classes.the_type.parts))
    (tag_of classes.the_type c) refl (tag_below (rowss classes.the_type.parts) (classes.the_type.to c))

keyword-among : (k : Keyword) → list_any (λ j. sameb keywords.the_type j k) every_keyword ≡ true
keyword-among k =
    agree_below_at (λ n. list_any (λ j. tag_of keywords.the_type j == n) every_keyword) (λ _. true) (length (rowss keywords.the_type.parts))
    (tag_of keywords.the_type k) refl (tag_below (rowss keywords.the_type.parts) (keywords.the_type.to k))

-- what all pass, each passes

pub every-class : (test : Class → Bool) → list_all test every_class ≡ true → (c : Class) → test c ≡ true
every-class test all c =
    passes-all test (λ d. sameb classes.the_type d c) c (λ d. same_true classes.the_type (search rules) d c) every_class (class-among c) all

pub every-keyword : (test : Keyword → Bool) → list_all test every_keyword ≡ true → (k : Keyword) → test k ≡ true
every-keyword test all k =
    passes-all test (λ j. sameb keywords.the_type j k) k (λ j. same_true keywords.the_type (search rules) j k) every_keyword (keyword-among k) all

-- whether two answers are the same
abbrev same_class : Option Class → Option Class → Bool
same_class None None = true
same_class None (Some b) = false
same_class (Some a) None = false
same_class (Some a) (Some b) = sameb classes.the_type a b

same_class-true : (a b : Option Class) → same_class a b ≡ true → a ≡ b
same_class-true None None e = refl
same_class-true None (Some b) e = cc
same_class-true (Some a) None e = cc
same_class-true (Some a) (Some b) e = ap Some (same_true classes.the_type (search rules) a b e)

-- the spelling of a keyword; no letters, which are no keyword, where there is none
abbrev pub spelling_by : Option Keyword → List ℕ
spelling_by None = []
spelling_by (Some k) = spelling_of k

-- what passes without a keyword and with each
every-option : (test : Option Keyword → Bool) → (test None && list_all (λ k. test (Some k)) every_keyword) ≡ true → (o : Option Keyword) → test o ≡ true
every-option test all None = (and_parts _ _ all).0
every-option test all (Some k) = every-keyword (λ j. test (Some j)) (and_parts _ _ all).1 k

-- a keyword's classes name in a parent what its spelling names
abbrev is_named : Option Keyword → Class → Bool
is_named o parent = same_class (find (is_part parent) (classes_by o)) (class_named parent (spelling_by o))

pub named : (parent : Class) (o : Option Keyword) → find (is_part parent) (classes_by o) ≡ class_named parent (spelling_by o)
unfolding is_keyword class_named
named parent o = same_class-true _ _ (every-class (is_named o) (every-option (λ p. list_all (is_named p) every_class) refl o) parent)

-- and what it names at the root of a text
pub named_root : (o : Option Keyword) → find is_root (classes_by o) ≡ root_named (spelling_by o)
unfolding is_keyword root_named
named_root o = same_class-true _ _ (every-option (λ p. same_class (find is_root (classes_by p)) (root_named (spelling_by p))) refl o)

-- and its spelling is known where it has a class
pub known : (o : Option Keyword) → has_class (classes_by o) ≡ is_known (spelling_by o)
unfolding is_keyword is_known
known o = (booleans_Decides _ _).0 (every-option (λ p. beq (has_class (classes_by p)) (is_known (spelling_by p))) refl o)

-- and a class is among its classes where its spelling is a keyword of the class
abbrev is_own : Class → Option Keyword → Bool
is_own c o = beq (is_among c (classes_by o)) (is_keyword c (spelling_by o))

pub among-keyword : (c : Class) (o : Option Keyword) → is_among c (classes_by o) ≡ is_keyword c (spelling_by o)
unfolding is_keyword
among-keyword c o = (booleans_Decides _ _).0 (every-class (λ d. is_own d o) (every-option (λ p. list_all (λ d. is_own d p) every_class) refl o) c)

-- whether all that go before a class among some are its rivals
abbrev is_settled : Class → List Class → Bool
is_settled c [] = true
is_settled c (d ∷ ds) = sameb classes.the_type d c || (is_among d (rivals_of c) && is_settled c ds)

-- so they are among the classes of each of its keywords
abbrev is_settled_by : Keyword → Class → Bool
is_settled_by k c = not (has_keyword c k) || is_settled c (classes_of k)

settled : (c : Class) (k : Keyword) → has_keyword c k ≡ true → is_settled c (classes_of k) ≡ true
settled c k has = rw has at (every-class (is_settled_by k) (every-keyword (λ j. list_all (is_settled_by j) every_class) refl k) c)

-- none is found where none passes
find-none : (test : Class → Bool) (cs : List Class) → find test cs ≡ None → list_any test cs ≡ false
find-none test [] none = refl
find-none test (c ∷ cs) none = elim (cases_Bool (test c)) [
  | inl e ↦ absurd (let never : ◌≡◌ {A = Option Class} (Some c) None = rw e at none in cc)
  | inr e ↦ rw e (find-none test cs (rw e at none))
]

none-passes : (test : Class → Bool) (cs : List Class) (d : Class) → find test cs ≡ None → is_among d cs ≡ true → test d ≡ false
none-passes test cs d none among =
    passes-none test (λ c. sameb classes.the_type c d) d (λ c. same_true classes.the_type (search rules) c d) cs among (find-none test cs none)

first-settled : (test : Class → Bool) (c : Class) (cs : List Class) → is_among c cs ≡ true → is_settled c cs ≡ true → test c ≡ true → find test (rivals_of c) ≡ None →
    find test cs ≡ Some c
first-settled test c [] among settled own none = cc
first-settled test c (d ∷ ds) among settled own none =
    elim (sameb classes.the_type d c)
    as (λ b. sameb classes.the_type d c ≡ b → (b || is_among c ds) ≡ true → (b || (is_among d (rivals_of c) && is_settled c ds)) ≡ true → (if test d then Some d else find test ds) ≡ Some c) [
      | true ↦ λ e a s.
          let P : Class → Type 0 = λ x. (if test x then Some x else find test ds) ≡ Some c in
          subst P (sym (same_true classes.the_type (search rules) d c e)) (ap (λ b. if b then Some c else find test ds) own)
      | false ↦ λ e a s.
          ap (λ b. if b then Some d else find test ds) (none-passes test (rivals_of c) d none (and_parts _ _ s).0)
          ∙ first-settled test c ds a (and_parts _ _ s).1 own none
    ] refl among settled

-- a keyword of a class names it where it is clear
pub clear-named : (parent c : Class) (k : Keyword) → has_keyword c k ≡ true → is_among c (classes_of k) ≡ true → IsClear parent c → find (is_part parent) (classes_of k) ≡ Some c
clear-named parent c k has among clear = first-settled (is_part parent) c (classes_of k) among (settled c k has) clear.0 clear.1

-- ---- a word that is made of some bits has those alone, so a set of classes has those that it is made of

abbrev is_one : ℕ → Bool
is_one n = n == 1

-- one of two bits is set where their greater is
either : (a b : ℕ) → a < 2 → b < 2 → is_one (max a b) ≡ (is_one a || is_one b)
either a b p q = grind (arith, nat_tests)

-- a power of two has one bit
power : (k i : ℕ) → has_bit (2 ^ k) i ≡ (k == i)
power k i =
    elim (k == i) as (λ b. (k == i) ≡ b → has_bit (2 ^ k) i ≡ b) [
      | true ↦ λ e. ap (λ j. has_bit (2 ^ k) j) (sym (eqb-true k i e)) ∙ ap is_one (bit_at-pow_same k)
      | false ↦ λ e. ap is_one (bit_at-pow_other k i (λ same. eqb-false k i e (sym same)))
    ] refl

pub has_bit-word_of : (i : ℕ) (ks : List ℕ) → has_bit (word_of ks) i ≡ list_any (λ k. k == i) ks
has_bit-word_of i [] = ap is_one (bit_at-zero i)
has_bit-word_of i (k ∷ ks) =
    ap is_one (bit_at_or (2 ^ k) (word_of ks) i)
    ∙ either (bit_at (2 ^ k) i) (bit_at (word_of ks) i) (bit_at-lt (2 ^ k) i) (bit_at-lt (word_of ks) i)
    ∙ ap (λ b. b || has_bit (word_of ks) i) (power k i)
    ∙ ap (λ b. (k == i) || b) (has_bit-word_of i ks)

pub has_bit-set_of : (c : Class) (cs : List Class) → has_bit (set_of cs) (bit_of c) ≡ is_among c cs
has_bit-set_of c cs = has_bit-word_of (bit_of c) (map bit_of cs) ∙ list_any-map (λ k. k == bit_of c) bit_of cs

among-parts : (c : Class) (slots : List SlotParts) → is_among c (flat_map (λ s. s.classes) slots) ≡ list_any (λ s. takes s c) slots
among-parts c [] = refl
among-parts c (s ∷ ss) =
    list_any-append (λ d. sameb the_type d c) s.classes (flat_map (λ t. t.classes) ss)
    ∙ ap (λ b. takes s c || b) (among-parts c ss)

pub has_bit-parts : (parent c : Class) → has_bit (set_of (argument_classes parent)) (bit_of c) ≡ is_part parent c
has_bit-parts parent c = has_bit-set_of c (argument_classes parent) ∙ among-parts c (slots_of parent)
