-- A form under steady rules is its own form.
use Rattle.std.proofs.Common.{◌≡◌, ℕ, Bool, List, true, false, sym, subst, ◌∙◌, if◌then◌else◌}
use Rattle.crs_text.specs.inner.Prelude.{item_text}
use Rattle.crs_value.specs.inner.Prelude.{IsCrs, Spells, AxisParts}
use Rattle.crs_value.specs.declared.values.crs.Crs.{Crs}
use Rattle.crs_value.specs.declared.values.level.Level.{Level}
use Rattle.crs_value.specs.declared.values.level.Level.TheVariants as levels
use Rattle.crs_same.specs.inner.Prelude.{SameCrs}
use Rattle.crs_normal.specs.inner.Prelude.{IsNormalText, axis_text, item_crs, norm_crs}
use Rattle.crs_writer.specs.inner.Prelude.{IsCanonicalOf, IsCanonicalText}
use Rattle.crs_canon.specs.MainTheorem.{MainTheorem}
use Rattle.crs_rules.specs.inner.LowerLaws.{FormLaws, SetLaws}
use Rattle.crs_rules.specs.ReorderedAxes.{IsCrsReordered}
use Rattle.crs_rules.specs.Rewritten.{rewritten, AreTextsOfAxes, IsForm}
use Rattle.crs_rules.specs.Rules.{Meaning, RulesParts, meaning, AreRules, AreSteady}
use Rattle.crs_rules.proofs.PartLemmas.{sound-meaning}
use Rattle.crs_rules.proofs.CrsLemmas.{crs-sound}
use Rattle.crs_rules.proofs.TextLemmas.{AxesAreWritten, one-text, texts-of-axes}
use Rattle.crs_rules.proofs.ReorderedLemmas.{crs-one}
use Rattle.crs_rules.proofs.SteadyLemmas.{kinds-kept, steady}
use Rattle.crs_rules.proofs.WholeLemmas.{rewritten-stays}

where-true : {A : Type 0} (b : Bool) (x y u v : A) → b ≡ true → x ≡ u → (if b then x else y) ≡ (if b then u else v)
where-true true x y u v e same = same
where-true false x y u v e same = absurd cc

module _ (level : Level) (b : FormLaws level) (o : SetLaws) where
  abbrev form_text : Crs → List ℕ
  form_text x = item_text (item_crs (norm_crs level x))

  written : (x : Crs) → IsCrs x → IsCanonicalText level x (form_text x)
  written x k = record { normal = b.normal x k; value = norm_crs level x; spells = b.accepted x k; same = b.one_form x k }

  -- a canonical text spells the one form
  spelled-norm : (x v : Crs) (bytes : List ℕ) → IsCrs x → IsCanonicalText level x bytes → Spells bytes v → v ≡ norm_crs level x
  spelled-norm x v bytes k c s =
      let e : bytes ≡ form_text x = (b.equal x x bytes (form_text x) k k c (written x k)).1 (b.same.reflexive x k) in
      b.value (form_text x) v (norm_crs level x) (subst (λ t. Spells t v) e s) (b.accepted x k)

  norm-sound : (x : Crs) → IsCrs x → IsCrs (norm_crs level x)
  norm-sound x k = b.sound (form_text x) (norm_crs level x) (b.accepted x k)

  -- a text that spells the one form is its canonical text
  own-text : (x : Crs) (bytes : List ℕ) → IsCrs x → IsNormalText level bytes → Spells bytes (norm_crs level x) →
      IsCanonicalText level (norm_crs level x) bytes
  own-text x bytes k n s = let same = b.same.reflexive (norm_crs level x) (norm-sound x k) in search same

  twice : (x : Crs) → IsCrs x → norm_crs level (norm_crs level x) ≡ norm_crs level x
  twice x k =
      sym (spelled-norm (norm_crs level x) (norm_crs level x) (form_text x) (norm-sound x k)
      (own-text x (form_text x) k (b.normal x k) (b.accepted x k)) (b.accepted x k))

  pub own-form : (r : RulesParts) → AreRules r → AreSteady r → (text bytes : List ℕ) → IsForm r level text bytes →
      IsForm r level bytes bytes
  own-form r h t text bytes f =
      let m : Meaning = meaning r in
      let x : Crs = f.is_canonical.0 in
      let k : IsCrs x = b.sound text x f.is_canonical.1 in
      let e : f.value ≡ norm_crs level x = spelled-norm x f.value f.canonical k f.is_canonical.2 f.spells in
      let u : Crs = rewritten f.axis_text m (norm_crs level x) in
      let l : IsCrs u = crs-sound f.axis_text r h (norm_crs level x) (norm-sound x k) in
      let g : IsCanonicalText level u bytes = rw e at f.form in
      let v : Crs = norm_crs level u in
      let s : Spells bytes v = rw (spelled-norm u g.value bytes l g g.spells) at g.spells in
      let z : Crs = rewritten f.axis_text m v in
      let same : SameCrs level z v =
      rw (rewritten-stays m (steady r t) o level (sound-meaning r h) f.axis_text x (norm-sound x k) (twice x k) (twice u l))
      at (b.one_form z (crs-sound f.axis_text r h v (norm-sound u l))) in
      let form : IsCanonicalText level z bytes = search (g.normal, s, same) in
      search (own-text u bytes l g.normal s, s, f.are_axis_texts, form)

  -- ---- CRSs that differ in the order of their axes alone

  reordered-one : (r : RulesParts) → AreRules r → r.uncounted.axis_order ≡ true → (text : AxisParts → List ℕ) → AreTextsOfAxes text →
      AxesAreWritten → (x y : Crs) → IsCrs x → IsCrs y → IsCrsReordered (norm_crs level x) (norm_crs level y) →
      rewritten text (meaning r) (norm_crs level x) ≡ rewritten text (meaning r) (norm_crs level y)
  reordered-one r h c text t w x y k l d =
      let is = one-text w (axis_text levels.Full) text (texts-of-axes w) t in
      where-true r.uncounted.axis_order _ _ _ _ c
      (crs-one (meaning r) (kinds-kept r) (sound-meaning r h) o level c text
      (λ p q a b z. o.axes_told p q a b (is p a ∙ (z ∙ sym (is q b)))) x y (norm-sound x k) (norm-sound y l) d)

  pub reordered-form : (r : RulesParts) → AreRules r → r.uncounted.axis_order ≡ true → AxesAreWritten → MainTheorem level →
      (first second bytes : List ℕ) (x y : Crs) → IsCanonicalOf level first first → IsCanonicalOf level second second →
      Spells first x → Spells second y → IsCrsReordered x y → IsForm r level first bytes → IsForm r level second bytes
  reordered-form r h c w t first second bytes x y a z s u d f =
      let k : IsCrs a.0 = b.sound first a.0 a.1 in
      let l : IsCrs z.0 = b.sound second z.0 z.1 in
      let p : x ≡ norm_crs level a.0 = spelled-norm a.0 x first k a.2 s in
      let q : y ≡ norm_crs level z.0 = spelled-norm z.0 y second l z.2 u in
      let v : f.value ≡ x =
      b.value first f.value x (rw (t.one first f.canonical first f.is_canonical a) at f.spells) s in
      let all : rewritten f.axis_text (meaning r) f.value ≡ rewritten f.axis_text (meaning r) y =
      rw (v, p, q) (reordered-one r h c f.axis_text f.are_axis_texts w a.0 z.0 k l (rw (p, q) at d)) in
      let form : IsCanonicalText level (rewritten f.axis_text (meaning r) y) bytes = rw all at f.form in
      search (z, u, f.are_axis_texts, form)
