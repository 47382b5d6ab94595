-- What a word names is what the table of keywords says: a word is a keyword exactly where it is that one's spelling,
-- letter case aside, each keyword's classes are right, and no keyword of a class is left out.
use Rattle.std.proofs.Common.{◌≡◌, ℕ, ◌&&◌, List, [], ◌∷◌, Option, Some, None, refl, sym, ap, ◌∙◌, rules}
use Rattle.std.specs.List.{list_any, find}
use Rattle.std.specs.Cmp.{both_ways}
use Rattle.std.specs.Str.{str_eq_ignore_ascii_case, str_to_ascii_lowercase}
use Rattle.std.proofs.Math.Bool.{and-true}
use Rattle.std.proofs.lemmas.Map.Views.{any-filter_same}
use Rattle.std.proofs.lemmas.Slice.Eq.{bytes_eq-Decides}
use denote.Enum.Bare.{sameb, same_true}
use Rattle.crs_text.specs.declared.keyword.Keyword.{Keyword}
use Rattle.crs_text.specs.inner.Prelude.{spelling_of, keyword_of, AreSpelled}
use Rattle.crs_shape.specs.contracts.class.Class as classes
use Rattle.crs_shape.specs.declared.class.Class.{Class}
use Rattle.crs_shape.specs.Keywords.{keywords_of, has_keyword, is_one_of, is_keyword, first_named, is_known, every_class, root_classes, root_named}
use Rattle.crs_shape.specs.inner.KeywordTable.{classes_of, classes_by, is_among, is_part, is_root}
use Rattle.crs_shape.specs.Shape.{has_class, SlotParts, slots_of, named_in, class_named}
use Rattle.crs_shape.proofs.naming.KeywordTableLemmas.{class-among, spelling_by, named, named_root, known, among-keyword}

-- Two words that are the same keyword, or both none

module _ (law : AreSpelled) (a b : List ℕ) (e : keyword_of a ≡ keyword_of b) where
  same-one_of : (ks : List Keyword) → is_one_of ks a ≡ is_one_of ks b
  same-one_of [] = refl
  same-one_of (k ∷ ks) = rw (spelled, same-one_of ks) refl
    where
      spelled : str_eq_ignore_ascii_case (spelling_of k) a ≡ str_eq_ignore_ascii_case (spelling_of k) b
      spelled = both_ways _ _ (λ f. (law k b).1 (sym e ∙ (law k a).0 f)) (λ f. (law k a).1 (e ∙ (law k b).0 f))

  same-keyword : (c : Class) → is_keyword c a ≡ is_keyword c b
  unfolding is_keyword
  same-keyword c = same-one_of (keywords_of c)

  same-first : (cs : List Class) → first_named cs a ≡ first_named cs b
  same-first [] = refl
  same-first (c ∷ cs) = rw (same-keyword c, same-first cs) refl

  same-named : (slots : List SlotParts) → named_in slots a ≡ named_in slots b
  same-named [] = refl
  same-named (s ∷ ss) = rw (same-first s.classes, same-named ss) refl

-- a word is the keyword that its spelling is
own : AreSpelled → (o : Option Keyword) → keyword_of (spelling_by o) ≡ o
unfolding keyword_of
own law None = refl
own law (Some k) = (law k (spelling_of k)).0 ((bytes_eq-Decides (str_to_ascii_lowercase (spelling_of k)) _).1 refl)

-- The laws

pub class_named-table : AreSpelled → (parent : Class) (word : List ℕ) →
    find (is_part parent) (classes_by (keyword_of word)) ≡ class_named parent word
unfolding class_named
class_named-table law parent word =
    named parent (keyword_of word) ∙ same-named law (spelling_by (keyword_of word)) word (own law (keyword_of word)) (slots_of parent)

pub root_named-table : AreSpelled → (word : List ℕ) → find is_root (classes_by (keyword_of word)) ≡ root_named word
unfolding root_named
root_named-table law word =
    named_root (keyword_of word) ∙ same-first law (spelling_by (keyword_of word)) word (own law (keyword_of word)) root_classes

pub is_known-table : AreSpelled → (word : List ℕ) → has_class (classes_by (keyword_of word)) ≡ is_known word
unfolding is_known
is_known-table law word =
    known (keyword_of word)
    ∙ λ i. list_any (λ c. same-keyword law (spelling_by (keyword_of word)) word (own law (keyword_of word)) c i) every_class

-- the classes of a keyword are those that have it
pub among-classes_of : (c : Class) (k : Keyword) → is_among c (classes_of k) ≡ has_keyword c k
among-classes_of c k =
    any-filter_same (λ d. sameb classes.the_type d c) (λ d. has_keyword d k) (has_keyword c k)
    (λ d e. ap (λ x. has_keyword x k) (same_true classes.the_type (search rules) d c e)) every_class
    ∙ ap (λ b. has_keyword c k && b) (class-among c)
    ∙ and-true (has_keyword c k)

pub is_keyword-table : AreSpelled → (c : Class) (word : List ℕ) → is_among c (classes_by (keyword_of word)) ≡ is_keyword c word
is_keyword-table law c word = among-keyword c (keyword_of word) ∙ same-keyword law (spelling_by (keyword_of word)) word (own law (keyword_of word)) c
