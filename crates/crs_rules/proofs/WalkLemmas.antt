-- Walks over some things, one after another: what leads from one reading to another, as far as it was gone.
use Rattle.std.proofs.Common.{◌≡◌, ◌≢◌, ℕ, Option, None, Some, sym, List, [], ◌∷◌, inl, inr, refl, subst}
use Rattle.crs_text.specs.inner.Prelude.{IsAt, Item, Siblings, End, More, first_of, here, rest_of}
use Rattle.crs_value.specs.inner.Prelude.{Holds, ahead, item_at}
use Rattle.crs_rules.specs.inner.Grown.{HasGrown}
use Rattle.crs_rules.specs.declared.file.fault.RulesFault.{RulesFault}
use Rattle.crs_rules.specs.declared.file.fault.RulesFault.TheVariants as faults
use Rattle.crs_rules.specs.declared.file.fault.RulesRefusal.{RulesRefusal}
use Rattle.crs_rules.specs.Statements.{FaultOver, IsRefusedBy, Over, Reading, listed}
use Rattle.crs_rules.proofs.GrownLemmas.{grown_on}

-- what is left decides about the whole
pub record Leads {A : Type 0} (Step : Reading → A → Reading → Type 0) (Fault : Reading → A → RulesRefusal → Type 0)
    (r : Reading) (xs : List A) (q : Reading) (ys : List A) : Type 0 where
  pub over : (s : Reading) → Over Step q ys s → Over Step r xs s
  pub fault : (f : RulesRefusal) → FaultOver Step Fault q ys f → FaultOver Step Fault r xs f

-- a walk at an item of a tree, or after the last
pub record Walks (Step : Reading → Item → Reading → Type 0) (Fault : Reading → Item → RulesRefusal → Type 0)
    (r : Reading) (xs : List Item) (q : Reading) (tree : Item) (at : Option ℕ) : Type 0 where
  pub holds : Holds tree at
  pub leads : Leads Step Fault r xs q (listed (ahead tree at))
  pub grown : HasGrown r q

listed-first : (items : Siblings) → items ≢ End → listed items ≡ first_of items ∷ listed (rest_of items)
listed-first End some = absurd (some refl)
listed-first (More item items) some = refl

at-item : {Step : Reading → Item → Reading → Type 0} {Fault : Reading → Item → RulesRefusal → Type 0} {r q : Reading} {xs : List Item}
    {tree : Item} {at : Option ℕ} {id : ℕ} → Walks Step Fault r xs q tree at → at ≡ Some id
    → Leads Step Fault r xs q (item_at tree id ∷ listed (rest_of (here tree id)))
at-item {Step = Step} {Fault = Fault} {r = r} {q = q} {xs = xs} {tree = tree} {id = id} w e =
    subst (Leads Step Fault r xs q) (listed-first (here tree id) (subst (Holds tree) e w.holds))
    (subst (λ o. Leads Step Fault r xs q (listed (ahead tree o))) e w.leads)

-- the fault of the first of the items that are left is that of the whole
pub refused-over : {Step : Reading → Item → Reading → Type 0} {Fault : Reading → Item → RulesRefusal → Type 0} {r q : Reading} {xs : List Item}
    {tree : Item} {at : Option ℕ} {id : ℕ} → Walks Step Fault r xs q tree at → at ≡ Some id
    → (fault : RulesFault) → IsRefusedBy (Fault q (item_at tree id)) fault → IsRefusedBy (FaultOver Step Fault r xs) fault
refused-over w e (faults.Memory m) h = tt
refused-over w e (faults.Refused f) h = (at-item w e).fault f (inl h)

holds-at : (tree : Item) (items : Siblings) (at : Option ℕ) → IsAt tree items at → Holds tree at
holds-at tree items None e = tt
holds-at tree items (Some id) h = h.1

ahead-at : (tree : Item) (items : Siblings) (at : Option ℕ) → IsAt tree items at → ahead tree at ≡ items
ahead-at tree items None e = sym e
ahead-at tree items (Some id) h = h.0

-- the next item
pub walks-on : {Step : Reading → Item → Reading → Type 0} {Fault : Reading → Item → RulesRefusal → Type 0} {r q p : Reading} {xs : List Item}
    {tree : Item} {at after : Option ℕ} {id : ℕ} → Walks Step Fault r xs q tree at → at ≡ Some id → Step q (item_at tree id) p
    → IsAt tree (rest_of (here tree id)) after → HasGrown q p → Walks Step Fault r xs p tree after
walks-on {Step = Step} {Fault = Fault} {r = r} {q = q} {p = p} {xs = xs} {tree = tree} {after = after} {id = id} w e step next grown = record {
  holds = holds-at tree (rest_of (here tree id)) after next;
  leads = subst (λ items. Leads Step Fault r xs p (listed items)) (sym (ahead-at tree (rest_of (here tree id)) after next)) (record {
    over = λ s h. (at-item w e).over s (p, step, h);
    fault = λ f h. (at-item w e).fault f (inr (p, step, h));
  });
  grown = grown_on r q p w.grown grown;
}

-- what each step keeps, all together keep
pub over-keeps : {A : Type 0} (Step : Reading → A → Reading → Type 0) (P : Reading → Type 0) →
    ((r s : Reading) (x : A) → P r → Step r x s → P s) → (r s : Reading) (xs : List A) → P r → Over Step r xs s → P s
over-keeps Step P f r s [] h e = subst P e h
over-keeps Step P f r s (x ∷ xs) h (q, step, more) = over-keeps Step P f q s xs (f r q x h step) more
