-- A normal text is the one form of the value that it spells, written.
use Rattle.std.proofs.Common.{◌≡◌, ℕ, inr, List, sym, ◌∙◌, ap, subst}
use Rattle.crs_text.specs.inner.Prelude.{Item, item_text}
use Rattle.crs_shape.specs.declared.class.Class.{Class}
use Rattle.crs_value.specs.inner.Prelude.{SpellsCrs, Spells}
use Rattle.crs_value.specs.declared.values.crs.Crs.{Crs}
use Rattle.crs_value.specs.declared.values.level.Level.{Level}
use Rattle.crs_normal.specs.Normal.{IsNormalIn, IsNormalText}
use Rattle.crs_normal.specs.inner.SpelledCrs.{item_crs, norm_crs}
use Rattle.crs_normal.specs.inner.LowerLaws.{LowerLaws}
use Rattle.crs_normal.proofs.normal.CompoundLemmas.{crs-form}
use Rattle.crs_normal.proofs.normal.FormLemmas.{without_places-text}
use Rattle.crs_normal.proofs.texts.ClosedLemmas.{same-some}

pub text-form : LowerLaws → (level : Level) (bytes : List ℕ) (value : Crs) → IsNormalText level bytes →
    Spells bytes value →
    bytes ≡ item_text (item_crs (norm_crs level value))
text-form laws level bytes value n s =
    let same : s.0 ≡ n.item = laws.one_node bytes s.0 n.item s.1.0 n.spells in
    let r : SpellsCrs n.item value = subst (λ (i : Item). SpellsCrs i value) same s.1.1 in
    let at : r.class_read ≡ n.class_read = same-some r.class_read n.class_read (sym r.root ∙ n.root) in
    let shaped = (laws.shape r.class_read n.item).0 (λ fault h. r.shaped fault (inr (r.class_read, (r.root, h)))) in
    let normal = subst (λ (c : Class). IsNormalIn level c c n.item) (sym at) n.normal in
    n.written ∙ sym (without_places-text n.item)
    ∙ ap item_text (crs-form laws r.class_read level r.class_read n.item value (record { shaped = shaped; normal = normal }) (r.unbroken, r.reads))
