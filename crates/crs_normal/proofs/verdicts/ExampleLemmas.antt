-- A text is normal, or isn't, as was computed of its item.
use Rattle.std.proofs.Common.{◌≡◌, ℕ, List, Some, sym, ap, subst, ◌∙◌}
use Rattle.crs_normal.specs.inner.LowerLaws.{LowerLaws}
use Rattle.crs_text.specs.inner.Prelude.{Item, IsNode, depth, SpellsNode, at_place, item_text}
use Rattle.crs_shape.specs.declared.class.Class.{Class}
use Rattle.crs_shape.specs.inner.Prelude.{class_of_root}
use Rattle.crs_value.specs.declared.values.level.Level.{Level}
use Rattle.crs_value.specs.inner.Prelude.{ReadsCrs, SpellsCrs, Spells}
use Rattle.crs_value.specs.declared.values.crs.Crs.{Crs}
use Rattle.crs_normal.specs.inner.Examples.{IsOtherwiseAt}
use Rattle.crs_normal.specs.Normal.{IsNormalIn, IsNormalText}
use Rattle.crs_normal.proofs.made.PlaceLemmas.{text-at}
use Rattle.crs_normal.proofs.verdicts.NormalVerdict.{formed, normal_in}
use Rattle.crs_normal.proofs.verdicts.TextItem.{item_of}
use Rattle.crs_normal.proofs.verdicts.Verdicts.{Fails, Holds, Verdict, at_most, proof, refutation}

-- the item of the text
abbrev pub placed : List ℕ → Item
placed bytes = at_place 0 (item_of bytes)

-- the text is written as the item that was read in it, which is a node of this class, not too deep, and well formed
abbrev pub IsRead : LowerLaws → Class → List ℕ → Type 0
IsRead l c bytes =
    (bytes ≡ item_text (item_of bytes)) × (class_of_root (placed bytes) ≡ Some c) × IsNode (item_of bytes)
    × Holds (at_most (depth (item_of bytes)) 12) × Holds (formed l (item_of bytes))

spelled : (l : LowerLaws) (c : Class) (bytes : List ℕ) → IsRead l c bytes → SpellsNode bytes (placed bytes)
spelled l c bytes r =
    subst (λ b. SpellsNode b (placed bytes)) (sym r.0)
    (l.spells (item_of bytes) (proof (formed l (item_of bytes)) r.4) r.2
    (proof (at_most (depth (item_of bytes)) 12) r.3))

abbrev verdict : LowerLaws → (level : Level) (c : Class) (bytes : List ℕ) → Verdict (IsNormalIn level c c (placed bytes))
verdict l level c bytes = normal_in l level c c (placed bytes)

pub is-normal : (l : LowerLaws) (level : Level) (c : Class) (bytes : List ℕ) → IsRead l c bytes →
    Holds (normal_in l level c c (placed bytes)) → IsNormalText level bytes
is-normal l level c bytes r h = record {
  item = placed bytes;
  class_read = c;
  spells = spelled l c bytes r;
  root = r.1;
  written = r.0 ∙ sym (text-at 0 (item_of bytes));
  normal = proof (verdict l level c bytes) h;
}

pub is-otherwise : (l : LowerLaws) (level : Level) (c : Class) (bytes : List ℕ) → IsRead l c bytes →
    Fails (normal_in l level c c (placed bytes)) → IsOtherwiseAt level bytes
is-otherwise l level c bytes r h = record {
  item = placed bytes;
  spells = spelled l c bytes r;
  written = r.0 ∙ sym (text-at 0 (item_of bytes));
  otherwise = λ n.
      let same : n.item ≡ placed bytes = l.one_node bytes n.item (placed bytes) n.spells (spelled l c bytes r) in
      let root : Some n.class_read ≡ Some c = sym n.root ∙ ap class_of_root same ∙ r.1 in
      let of : n.class_read ≡ c = cc in
      let here : IsNormalIn level n.class_read n.class_read (placed bytes) =
      subst (IsNormalIn level n.class_read n.class_read) same n.normal in
      refutation (verdict l level c bytes) h (subst (λ d. IsNormalIn level d d (placed bytes)) of here);
}

-- what a text of this class spells is read from its item
pub read-here : (l : LowerLaws) (c : Class) (bytes : List ℕ) → IsRead l c bytes → (crs : Crs) → Spells bytes crs →
    ReadsCrs c (placed bytes) crs
read-here l c bytes r crs s =
    let same : s.0 ≡ placed bytes = l.one_node bytes s.0 (placed bytes) s.1.0 (spelled l c bytes r) in
    let here : SpellsCrs (placed bytes) crs = subst (λ (i : Item). SpellsCrs i crs) same s.1.1 in
    let root : Some here.class_read ≡ Some c = sym here.root ∙ r.1 in
    let of : here.class_read ≡ c = cc in subst (λ (d : Class). ReadsCrs d (placed bytes) crs) of here.reads
