-- What isn't of the kind of a class, or has none of its keywords, isn't of the class.
use Rattle.std.proofs.Common.{◌≡◌, ◌≢◌, ℕ, true, false, ◌==◌, List, map, Option, Some, refl, sym, ◌∙◌, ap, rules}
use Rattle.std.specs.List.{find}
use Rattle.std.proofs.lemmas.Bool.{false_from_ne_true}
use denote.Enum.Bare.{sameb, same_true, same_false, true_same}
use Rattle.crs_text.specs.contracts.items.ItemKind as kinds
use Rattle.crs_text.specs.declared.items.ItemKind.{ItemKind}
use Rattle.crs_text.specs.declared.items.ItemKind.TheVariants as kind
use Rattle.crs_text.specs.declared.keyword.Keyword.{Keyword}
use Rattle.crs_text.specs.inner.Prelude.{Item, leaf, node, kind_of_item, keyword_in, keyword_of, AreSpelled, number, text, word}
use Rattle.crs_shape.specs.contracts.class.Class.{the_type}
use Rattle.crs_shape.specs.declared.class.Class.{Class}
use Rattle.crs_shape.specs.declared.class.Class.TheVariants as class
use Rattle.crs_shape.specs.inner.ClassSet.{has_bit, keyword_bit, keyword_set}
use Rattle.crs_shape.specs.Keywords.{is_keyword, keywords_of}
use Rattle.crs_shape.specs.inner.KeywordTable.{classes_of, classes_by, is_among, is_part, IsClear}
use Rattle.crs_shape.specs.ShapeFault.{class_in}
use Rattle.crs_shape.specs.Shape.{is_class}
use Rattle.crs_shape.specs.inner.SoughtKind.{kind_for}
use Rattle.crs_shape.proofs.naming.KeywordTableLemmas.{has_bit-word_of, clear-named}
use Rattle.crs_shape.proofs.naming.ItemLemmas.{class_in-node, not-among}
use Rattle.crs_shape.proofs.naming.KeywordLemmas.{among-classes_of, class_named-table, is_keyword-table}
use Rattle.crs_shape.proofs.naming.ListLemmas.{list_any-map}

-- ---- the kind

-- a class that nodes aren't of has no keyword
no-keyword : (c : Class) (spelled : List ℕ) → kind_for c ≢ kind.Node → is_keyword c spelled ≡ false
unfolding is_keyword
no-keyword class.Number spelled other = refl
no-keyword class.Text spelled other = refl
no-keyword class.Word spelled other = refl
no-keyword c spelled other = absurd (other refl)

leaf-other : (c d : Class) (k : ItemKind) → k ≡ kind_for c → sameb kinds.the_type (kind_for d) k ≡ false → false ≡ sameb the_type d c
leaf-other c d k right other =
    sym (false_from_ne_true (sameb the_type d c) (λ e.
    same_false kinds.the_type (kind_for d) k other (ap kind_for (same_true the_type (search rules) d c e) ∙ sym right)))

pub other_kind : AreSpelled → (parent c : Class) (k : ItemKind) (item : Item) → k ≡ kind_for c → sameb kinds.the_type (kind_of_item item) k ≡ false →
    false ≡ is_class c (class_in parent item)
other_kind law parent c k (leaf number place raw) right other = leaf-other c class.Number k right other
other_kind law parent c k (leaf text place raw) right other = leaf-other c class.Text k right other
other_kind law parent c k (leaf word place raw) right other = leaf-other c class.Word k right other
other_kind law parent c k (node place spelled square first others close) right other =
    sym (not-among c (is_part parent) (classes_by (keyword_of spelled))
    (is_keyword-table law c spelled ∙ no-keyword c spelled (λ e. same_false kinds.the_type kind.Node k other (sym (right ∙ e)))))
    ∙ ap (is_class c) (class_named-table law parent spelled)

-- ---- a node's keyword

pub is_node : (a b k : ItemKind) → a ≡ k → sameb kinds.the_type a b ≡ true → sameb kinds.the_type b kind.Node ≡ true → kind.Node ≡ k
is_node a b k e f g = sym (same_true kinds.the_type (search rules) b kind.Node g) ∙ sym (same_true kinds.the_type (search rules) a b f) ∙ e

pub node_named : AreSpelled → (parent c : Class) (item : Item) (k : Option Keyword) → kind.Node ≡ kind_of_item item → k ≡ keyword_in item →
    is_class c (find (is_part parent) (classes_by k)) ≡ is_class c (class_in parent item)
node_named law parent c item k is e =
    ap (λ o. is_class c (find (is_part parent) (classes_by o))) e ∙ ap (is_class c) (class_in-node law parent item is)

-- the set of a class's keywords has the bits of these
has_bit-keyword_set : (c : Class) (k : Keyword) → has_bit (keyword_set c) (keyword_bit k) ≡ is_among c (classes_of k)
has_bit-keyword_set c k =
    has_bit-word_of (keyword_bit k) (map keyword_bit (keywords_of c))
    ∙ list_any-map (λ i. i == keyword_bit k) keyword_bit (keywords_of c)
    ∙ sym (among-classes_of c k)

pub other_keyword : AreSpelled → (parent c : Class) (item : Item) (k : Keyword) → kind.Node ≡ kind_of_item item → Some k ≡ keyword_in item →
    has_bit (keyword_set c) (keyword_bit k) ≡ false → false ≡ is_class c (class_in parent item)
other_keyword law parent c item k is e none =
    sym (not-among c (is_part parent) (classes_of k) (sym (has_bit-keyword_set c k) ∙ none)) ∙ node_named law parent c item (Some k) is e

-- a keyword of a class that is clear in the parent
pub own_keyword : AreSpelled → (parent c : Class) (item : Item) (k : Keyword) → kind.Node ≡ kind_of_item item → Some k ≡ keyword_in item → has_bit (keyword_set c) (keyword_bit k) ≡ true →
    IsClear parent c → true ≡ is_class c (class_in parent item)
own_keyword law parent c item k is e has clear =
    let among : is_among c (classes_of k) ≡ true = sym (has_bit-keyword_set c k) ∙ has in
    sym (true_same the_type c c refl) ∙ ap (is_class c) (sym (clear-named parent c k (sym (among-classes_of c k) ∙ among) among clear)) ∙ node_named law parent c item (Some k) is e
