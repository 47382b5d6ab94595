-- All CRSs are made, and their texts are normal.
use Rattle.std.proofs.Common.{ℕ, ◌≤◌, sym, arith}
use Rattle.crs_text.specs.inner.Prelude.{Item, at_place, item_text}
use Rattle.crs_shape.specs.declared.class.Class.{Class}
use Rattle.crs_value.specs.declared.values.crs.Crs.{Crs}
use Rattle.crs_value.specs.declared.values.crs.Crs.TheVariants as crs
use Rattle.crs_value.specs.declared.values.level.Level.{Level}
use Rattle.crs_value.specs.inner.Prelude.{IsCrs}
use Rattle.crs_normal.specs.inner.LowerLaws.{LowerLaws}
use Rattle.crs_normal.specs.inner.Prelude.{IsNormalText, item_crs, norm_crs}
use Rattle.crs_normal.proofs.made.CompoundLemmas.{compound-made, geodetic-made}
use Rattle.crs_normal.proofs.made.PlaceLemmas.{text-at}
use Rattle.crs_normal.proofs.made.SingleLemmas.{projected-made, vertical-made}
use Rattle.crs_normal.proofs.texts.RootLemmas.{crs_class, crs-rooted, made-stands}
use Rattle.crs_normal.proofs.made.NodeLemmas.{IsAcceptedNormal, fine-as}

deeper : {level : Level} {c : Class} {n : ℕ} {item : Item} → n ≤ 8 → IsAcceptedNormal level c n item →
    IsAcceptedNormal level c 8 item
deeper h m = (m.0, fine-as h (λ n. n) m.1)

pub crs-made : LowerLaws → (level : Level) (c : Crs) → IsCrs c → (p : ℕ) →
    IsAcceptedNormal level (crs_class c) 8 (at_place p (item_crs (norm_crs level c)))
crs-made l level (crs.Geodetic g) h p = deeper (omega arith) (geodetic-made l level g h p)
crs-made l level (crs.Projected g) h p = deeper (omega arith) (projected-made l level g h p)
crs-made l level (crs.Vertical g) h p = deeper (omega arith) (vertical-made l level g h p)
crs-made l level (crs.Compound g) h p = compound-made l level g h p

-- ---- a whole text

pub crs-text-normal : LowerLaws → (level : Level) (c : Crs) → IsCrs c →
    IsNormalText level (item_text (item_crs (norm_crs level c)))
crs-text-normal l level c h =
    let i : Item = item_crs (norm_crs level c) in
    let m : IsAcceptedNormal level (crs_class c) 8 (at_place 0 i) = crs-made l level c h 0 in
    record {
      item = at_place 0 i;
      class_read = crs_class c;
      spells = made-stands l.spells i m;
      root = crs-rooted level c 0;
      written = sym (text-at 0 i);
      normal = m.1.normal (crs_class c);
    }
