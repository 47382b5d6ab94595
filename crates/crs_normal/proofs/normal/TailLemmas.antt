-- The end of a normal CRS is the one form of its value.
use Rattle.std.proofs.Common.{false, List, None, Option, Some, ℕ, [], ap, ap₂, codes, inl, inr, map, refl, sym, ◌∙◌, ◌≡◌, arith, subst}
use Rattle.crs_text.specs.inner.Prelude.{Item, End, RefusedAt, arguments, item_text}
use Rattle.crs_shape.specs.declared.class.Class.{Class}
use Rattle.crs_shape.specs.declared.class.Class.TheVariants as class
use Rattle.crs_shape.specs.inner.Prelude.{SlotParts, tail}
use Rattle.crs_value.specs.inner.Prelude.{RepeatsAny, once, GeoidModelParts, is_a, those, ReadsEach, ReadsBare, ReadsTail, ReadsTextOf, ReadsUsage, ReadsGeoidModel, SaysSome, TailParts, UsageParts, kept, kept-where_none-one}
use Rattle.crs_value.specs.declared.values.level.Level.{Level}
use Rattle.crs_same.specs.inner.Prelude.{usages_of, with_bare}
use Rattle.crs_normal.specs.Normal.{HasTail, Lacks, bare_classes}
use Rattle.crs_value.specs.Sound.{Each}
use Rattle.crs_normal.specs.inner.SpelledItems.{in_order, each, opt, text_node, item_ident, set_idents, item_usage, norm_tail, norm_usage, set_usages, tail_items}
use Rattle.crs_normal.specs.inner.SpelledCrs.{item_geoid_model, norm_geoid_model, set_geoid_models}
use Rattle.crs_normal.proofs.normal.CheckedLemmas.{once-only}
use Rattle.crs_normal.proofs.normal.FormLemmas.{Looked, Opened, found-in, front-in, front_in, good-in, optional-spelled, reads-kept, set-spelled}
use Rattle.crs_normal.proofs.normal.FrameLemmas.{none-read, usage-form}
use Rattle.crs_normal.proofs.normal.LeafLemmas.{PlainIsOne, text-node-form}
use Rattle.crs_normal.proofs.normal.UnitLemmas.{geoid_model-form, idents-found-spelled}
use Rattle.crs_normal.proofs.normal.IdentLemmas.{IsOneOf, by-rank, end-as, end_classes, in-slot, none-of, rise-at}
use Rattle.crs_normal.proofs.read.ViewLemmas.{Front, both, slot-lacks, slot_at, without_places_onto, onto}

-- ---- no part of a usage is bare

usages-bare : (c : Class) (item : Item) → HasTail c item → (t : TailParts) → ReadsTail c item t → usages_of t ≡ t.usages
usages-bare c item has t reads = by t.bare_parts reads.bare_parts
  where
    none : (u : UsageParts) → ReadsUsage c item u → ¬ (SaysSome u)
    none u read some =
        let scope = none-read _ _ has.none_bare.0 u.scope read.scope in
        let area = none-read _ _ has.none_bare.1.0 u.area read.area in
        let bbox = none-read _ _ has.none_bare.1.1.0 u.bbox read.bbox in
        let extent = none-read _ _ has.none_bare.1.1.1.0 u.extent read.extent in
        grind (arith, scope, area, bbox, extent, some)

    by : (bare : Option UsageParts) → ReadsBare c item bare → with_bare bare t.usages ≡ t.usages
    by None read = refl
    by (Some u) read = absurd (none u read.0 read.1)

-- ---- tails

module _ {level : Level} {c : Class} {slots : List SlotParts} {item : Item} {keyword : List ℕ} (o : Opened level c slots item keyword) (k : ℕ) where
  -- an argument of this class is in the slot at this position
  abbrev AtEnd : Class → Type 0
  AtEnd d = Looked o d (those c d (onto (front_in o k) End))

  -- the arguments at the end: geoid models, if there are any, and the tail
  pub tail-in : PlainIsOne → HasTail c item → ((fault : RefusedAt) → ¬ (RepeatsAny c (arguments item) once fault)) →
      ((i : Item) → IsOneOf c (slot_at slots k).classes i → Each (λ d. is_a c d i ≡ false) bare_classes →
      IsOneOf c end_classes i) →
      AtEnd class.GeoidModel → Each AtEnd tail.classes → (models : List GeoidModelParts) →
      ReadsEach (ReadsGeoidModel class.GeoidModel) (those c class.GeoidModel (arguments item)) models →
      (t : TailParts) → ReadsTail c item t →
      without_places_onto (front_in o k) End ≡ each item_geoid_model (set_geoid_models level models) (tail_items (norm_tail level t))
  unfolding set_geoid_models set_usages
  tail-in law has free ends at_models at models read_models t reads =
      let front = front_in o k in
      let bare =
      both {P = AtEnd} {Q = λ d. Lacks c d item} {R = λ d. those c d (onto front End) ≡ []}
      (λ d e lacks. sym (found-in o d e) ∙ lacks) bare_classes (at.1.0, (at.1.1.0, (at.1.1.1.0, (at.1.1.1.1.0, tt))))
      has.none_bare in
      let ones : Each (IsOneOf c end_classes) front =
      both (λ i s none. ends i (in-slot c (slot_at slots k) i s) none) front (front-in o k).inside
      (none-of c bare_classes front bare) in
      let rise = rise-at c slots (arguments item) o.slots 0 has.in_order k in
      let remarks = found-in o class.Remark at.1.1.1.1.1.1.0 in
      by-rank c end_classes
      ((omega arith, (omega arith, (omega arith, tt))), ((omega arith, (omega arith, tt)), ((omega arith, tt), (tt, tt))))
      rise.0 front rise.1.0 rise.1.1 ones End
      ∙ set-spelled item_geoid_model (norm_geoid_model level) (geoid_model-form level c) _ _ (good-in o class.GeoidModel)
      (found-in o class.GeoidModel at_models) o.sets.1.1.1.1.0 models read_models
      (set-spelled item_usage norm_usage (usage-form law level c) _ _ (good-in o class.Usage) (found-in o class.Usage at.0)
      o.sets.1.0 t.usages reads.usages
      (idents-found-spelled level c (arguments item) _ (good-in o class.Identifier)
      (found-in o class.Identifier at.1.1.1.1.1.0) o.sets.0 o.kept.left.0 t.identifiers reads.identifiers _ _
      (optional-spelled (text-node-form level c class.Remark (codes "REMARK") refl (λ bytes h. h)) _ _
      (good-in o class.Remark) remarks (once-only _ remarks (λ fault b. free fault (inr (inr (inr (inr (inl b))))))) t.remark
      reads.remark refl))
      ∙ ap₂ (λ us remark. each item_usage (in_order (λ u. item_text (item_usage u)) (map norm_usage us))
      (each item_ident (set_idents level t.identifiers) (opt (text_node (codes "REMARK")) remark End)))
      (sym (ap (kept level) (usages-bare c item has t reads)
      ∙ reads-kept level (ReadsUsage class.Usage) (those c class.Usage (arguments item)) t.usages reads.usages
      o.kept.left.1.0))
      (sym (kept-where_none-one level (those c class.Remark (arguments item)) t.remark
      (λ e. none-read (ReadsTextOf class.Remark) (those c class.Remark (arguments item)) e t.remark reads.remark)
      o.kept.left.1.1.0)))

  -- without geoid models
  pub plain_tail-in : PlainIsOne → HasTail c item →
      ((fault : RefusedAt) → ¬ (RepeatsAny c (arguments item) once fault)) → slot_at slots k ≡ tail →
      Looked o class.GeoidModel [] → Each AtEnd tail.classes → (t : TailParts) → ReadsTail c item t →
      without_places_onto (front_in o k) End ≡ tail_items (norm_tail level t)
  unfolding set_geoid_models
  plain_tail-in law has free is none at t reads =
      tail-in law has free (λ i one. end-as c i (subst (λ (slot : SlotParts). IsOneOf c slot.classes i) is one))
      (none ∙ sym (slot-lacks c class.GeoidModel tail (front_in o k) refl
      (subst (λ (slot : SlotParts). Front c slot (front_in o k)) is (front-in o k)))) at []
      (subst (λ (xs : List Item). ReadsEach (ReadsGeoidModel class.GeoidModel) xs [])
      (sym (found-in o class.GeoidModel none)) tt) t reads
