-- Arguments of one class, before others, fill the slots of a class.
use Rattle.std.proofs.Common.{◌≡◌, ◌≤◌, ◌≢◌, true, false, true≢false, IsTrue, IsFalse, Option, Some, None, List, [], ◌∷◌, ◌++◌, length, refl, sym, ap, ◌∙◌, arith}
use Rattle.std.specs.Option.{is_some}
use Rattle.crs_text.specs.inner.Prelude.{Item}
use Rattle.crs_shape.specs.declared.class.Class.{Class}
use Rattle.crs_shape.specs.inner.Prelude.{Fills, AllTaken, Allowed, SlotParts, takes}
use Rattle.crs_normal.proofs.made.NodeLemmas.{given, repeated}

pub held : {A : Type 0} (o : Option A) → is_some o ≡ true → A
held None e = absurd (true≢false (sym e))
held (Some a) e = a

pub given-few : {A : Type 0} (spell : A → Item) (x : Option A) → length (given spell x) ≤ 1
given-few spell None = omega arith
given-few spell (Some a) = omega arith

repeated-onto : (d : Class) (js : List Item) (cs ds : List Class) → repeated d js (cs ++ ds) ≡ repeated d js cs ++ ds
repeated-onto d [] cs ds = refl
repeated-onto d (j ∷ js) cs ds = ap (λ r. d ∷ r) (repeated-onto d js cs ds)

taken-more : (slot : SlotParts) (d : Class) (js : List Item) (rest : List Class) → takes slot d ≡ true →
    AllTaken slot rest →
    AllTaken slot (repeated d js rest)
taken-more slot d [] rest t h = h
taken-more slot d (j ∷ js) rest t h = (t, taken-more slot d js rest t h)

repeated-few : (d : Class) (js : List Item) → length js ≤ 1 → length (repeated d js []) ≤ 1
repeated-few d [] h = omega arith
repeated-few d (j ∷ []) h = omega arith
repeated-few d (j ∷ k ∷ js) h = absurd (omega arith)

repeated-some : (d : Class) (js : List Item) → js ≢ [] → 1 ≤ length (repeated d js [])
repeated-some d [] h = absurd (h refl)
repeated-some d (j ∷ js) h = omega arith

module _ (slot : SlotParts) (slots : List SlotParts) where
  -- arguments that fill the slot by themselves
  pub slot-fits : (d : Class) (js : List Item) (rest : List Class) → takes slot d ≡ true →
      (IsTrue slot.required → js ≢ []) → (IsFalse slot.many → length js ≤ 1) → Allowed slots rest →
      Allowed (slot ∷ slots) (repeated d js rest)
  slot-fits d js rest t some few a =
      let fills : Fills slot (repeated d js []) = record {
        taken = taken-more slot d js [] t tt;
        enough = λ h. repeated-some d js (some h);
        not_more = λ h. repeated-few d js (few h);
      } in
      (repeated d js [] ∷ a.0, ((fills, a.1.0), ap (repeated d js) a.1.1 ∙ repeated-onto d js [] _))

  -- before others in a slot that takes any number
  pub more-fit : (d : Class) (js : List Item) (rest : List Class) → takes slot d ≡ true → slot.required ≡ false →
      slot.many ≡ true → Allowed (slot ∷ slots) rest → Allowed (slot ∷ slots) (repeated d js rest)
  more-fit d js rest t none many ([], a) = absurd a.0
  more-fit d js rest t none many (run ∷ runs, a) =
      let fills : Fills slot (repeated d js run) = record {
        taken = taken-more slot d js run t a.0.0.taken;
        enough = λ h. absurd (true≢false (sym h ∙ none));
        not_more = λ h. absurd (true≢false (sym many ∙ h));
      } in
      (repeated d js run ∷ runs, ((fills, a.0.1), ap (repeated d js) a.1 ∙ repeated-onto d js run _))

  -- a slot that nothing fills
  pub none-fit : (rest : List Class) → slot.required ≡ false → Allowed slots rest → Allowed (slot ∷ slots) rest
  none-fit rest none a =
      let fills : Fills slot [] =
      record { taken = tt; enough = λ h. absurd (true≢false (sym h ∙ none)); not_more = λ h. omega arith } in
      ([] ∷ a.0, ((fills, a.1.0), a.1.1))
