-- The canonical text that is written from the items of an accepted text.
use Rattle.std.proofs.Common.{◌≡◌, ℕ, List, [], ◌++◌, Some, sym, ap, subst, ◌∙◌}
use Rattle.crs_text.specs.inner.Prelude.{Item}
use Rattle.crs_shape.specs.inner.Prelude.{class_of_root}
use Rattle.crs_shape.specs.declared.class.Class.{Class}
use Rattle.crs_value.specs.inner.Prelude.{ReadsCrs, SpellsCrs}
use Rattle.crs_value.specs.declared.values.crs.Crs.{Crs}
use Rattle.crs_value.specs.declared.values.level.Level.{Level}
use Rattle.crs_writer.specs.inner.Prelude.{crs_text}
use Rattle.crs_writer.specs.inner.FromItems.{IsRead, Writes}

pub from-items : (level : Level) (item root : Item) (c : Class) (old bytes : List ℕ) (crs : Crs) → root ≡ item → old ≡ [] →
    Writes (ReadsCrs c root) (crs_text level) old bytes → SpellsCrs item crs → class_of_root item ≡ Some c → bytes ≡ crs_text level crs
from-items level item root c old bytes crs same empty w spells is =
    let h : Some spells.class_read ≡ Some c = sym spells.root ∙ is in
    let d : spells.class_read ≡ c = cc in
    let reads : ReadsCrs c root crs = subst (λ i. ReadsCrs c i crs) (sym same) (subst (λ k. ReadsCrs k item crs) d spells.reads) in
    w.writes crs reads ∙ ap (λ (x : List ℕ). x ++ crs_text level crs) empty

-- what an item spells is read from it as one of its class
pub spelled-read : (item root : Item) (c : Class) → root ≡ item → class_of_root item ≡ Some c → IsRead (SpellsCrs item) → IsRead (ReadsCrs c root)
spelled-read item root c same is (value, spells) =
    let h : Some spells.class_read ≡ Some c = sym spells.root ∙ is in
    let d : spells.class_read ≡ c = cc in
    (value, subst (λ i. ReadsCrs c i value) (sym same) (subst (λ k. ReadsCrs k item value) d spells.reads))
