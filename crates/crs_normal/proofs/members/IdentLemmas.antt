-- Identifiers: the item of one reads as it wherever it is, and they are equal exactly where they are the same.
use Rattle.std.proofs.Common.{◌≡◌, ◌↔◌, ◌⊎◌, ℕ, ◌+◌, true, false, codes, if◌then◌else◌, Option, Some, None, List, [], ◌∷◌, inl, inr, refl, ap}
use Rattle.crs_text.specs.inner.Prelude.{Item, leaf, Siblings, End, More, number, text, at_place, at_places, item_text}
use Rattle.crs_shape.specs.declared.class.Class.TheVariants as class
use Rattle.crs_shape.specs.inner.Prelude.{class_of_kind}
use Rattle.crs_value.specs.inner.Prelude.{kept, ReadsIfAny, ReadsOptional, ReadsText, ReadsTextOf, single_of, ReadsIdent, IsIdent}
use Rattle.crs_value.specs.declared.values.level.Level.{Level}
use Rattle.crs_value.specs.Values.{IdentParts}
use Rattle.crs_same.specs.inner.Prelude.{SameIdent}
use Rattle.crs_normal.specs.inner.Prelude.{in_order, code_item, is_short, node_of, opt, text_item, text_node, item_ident, set_idents}
use Rattle.crs_normal.proofs.texts.SegmentLemmas.{IsIn, Segment, a-text, either-item, may-be, seen, text-field}
use Rattle.crs_normal.proofs.read.ViewLemmas.{keyword-names}

-- ---- a code: a number or a text

single-code : (raw : List ℕ) (place : ℕ) (rest : Siblings) →
    single_of (More (at_place place (code_item raw)) rest) ≡ at_place place (code_item raw) ∷ []
single-code raw place rest =
    elim (is_short raw) as (λ b. single_of (More (leaf (if b then number else text) place raw) rest)
    ≡ leaf (if b then number else text) place raw ∷ []) [ true ↦ refl | false ↦ refl ]

code-side : (raw : List ℕ) →
    IsIn class.Identifier class.Number (code_item raw) ⊎ IsIn class.Identifier class.Text (code_item raw)
code-side raw =
    elim (is_short raw) as (λ b. (Some (class_of_kind (if b then number else text)) ≡ Some class.Number)
    ⊎ (Some (class_of_kind (if b then number else text)) ≡ Some class.Text)) [ true ↦ inl refl | false ↦ inr refl ]

abbrev a-code : List ℕ → Segment class.Identifier
a-code raw = either-item class.Number class.Text refl (code_item raw) (code-side raw)

-- ---- what follows the code

abbrev behind-version : IdentParts → Siblings
behind-version x = opt (text_node (codes "CITATION")) x.citation (opt (text_node (codes "URI")) x.uri End)

version-read : (v c u : Option (List ℕ)) (start : ℕ) →
    ReadsOptional ReadsText (single_of (at_places start
    (opt code_item v (opt (text_node (codes "CITATION")) c (opt (text_node (codes "URI")) u End))))) v
version-read (Some v) c u start = rw single-code refl
version-read None (Some c) u start = tt
version-read None None (Some u) start = tt
version-read None None None start = tt

-- ---- an identifier

module _ (x : IdentParts) (place : ℕ) where
  abbrev sources : List (Segment class.Identifier)
  sources =
      may-be class.Citation (text_node (codes "CITATION")) x.citation (λ raw. keyword-names _ _) ∷
      may-be class.Uri (text_node (codes "URI")) x.uri (λ raw. keyword-names _ _) ∷ []

  abbrev with-version : Option (List ℕ) → Item
  with-version v =
      at_place place
      (node_of (codes "ID") (text_item x.authority) (More (code_item x.code) (opt code_item v (behind-version x))))

  sources-read : (v : Option (List ℕ)) →
      ReadsIfAny ReadsTextOf class.Citation class.Identifier (with-version v) x.citation
      × ReadsIfAny ReadsTextOf class.Uri class.Identifier (with-version v) x.uri
  sources-read None =
      let look = seen class.Identifier (a-text x.authority ∷ a-code x.code ∷ sources) (with-version None) (place + 2) refl in
      (text-field look class.Citation (codes "CITATION") x.citation refl, text-field look class.Uri (codes "URI") x.uri refl)
  sources-read (Some v) =
      let look = seen class.Identifier (a-text x.authority ∷ a-code x.code ∷ a-code v ∷ sources)
      (with-version (Some v)) (place + 2) refl in
      (text-field look class.Citation (codes "CITATION") x.citation refl, text-field look class.Uri (codes "URI") x.uri refl)

pub ident-read : (x : IdentParts) → IsIdent x → (place : ℕ) →
    ReadsIdent class.Identifier (at_place place (item_ident x)) x
ident-read x s place =
    let from = sources-read x place x.version in record {
      authority = refl;
      code = rw single-code refl;
      version = version-read x.version x.citation x.uri _;
      citation = from.0;
      uri = from.1;
    }

-- ---- identifiers as a set

pub ident-agrees : (a b : IdentParts) → (a ≡ b) ↔ SameIdent a b
ident-agrees a b = (
  λ e. record {
    authority = λ i. (e i).authority;
    code = λ i. (e i).code;
    version = λ i. (e i).version;
    citation = λ i. (e i).citation;
    uri = λ i. (e i).uri;
  },
  λ s. rw (s.authority, s.code, s.version, s.citation, s.uri),
)

-- ---- no identifiers

pub none-form : (level : Level) (xs : List IdentParts) → kept level xs ≡ [] → set_idents level xs ≡ []
unfolding set_idents
none-form level xs none = ap (in_order (λ i. item_text (item_ident i))) none
