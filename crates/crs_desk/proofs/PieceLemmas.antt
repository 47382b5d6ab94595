-- What a feeder holds of a text: from piece to piece, and what it answers at the end.
use Rattle.std.proofs.Common.{◌≡◌, ◌++◌, ℕ, Bool, true, false, List, Some, inl, inr, subst, Result, Ok, Err, MatchResult}
use Rattle.crs_text.specs.inner.Prelude.{refusal_of, Item, RefusedAt, IsSettledRefusal, SpellsNode, RefusesText, IsTextFault}
use Rattle.crs_text.specs.declared.fault.Fault.{Fault}
use Rattle.crs_text.specs.declared.fault.Fault.TheVariants as faults
use Rattle.crs_value.specs.declared.values.crs.Crs.{Crs}
use Rattle.crs_value.specs.declared.values.crs.Kind.{Kind}
use Rattle.crs_value.specs.inner.Prelude.{kind_of, SpellsCrs, RefusesCrs, SpellsKind, Refuses}
use Rattle.crs_desk.specs.inner.Pieces.{IsHeld, IsWholeHeld}

-- at the end what is held is the text, or its front
pub whole-held : (refused : Bool) (text held : List ℕ) → IsHeld refused text held → IsWholeHeld text held
whole-held false text held whole = inl whole
whole-held true text held front = inr front

-- ---- what is held answers for the text

abbrev pub SettledRefuses : Type 0
SettledRefuses = (bytes : List ℕ) (n place : ℕ) → IsSettledRefusal bytes n place → RefusesText bytes n place

abbrev pub SettledStays : Type 0
SettledStays = (bytes more : List ℕ) (n place : ℕ) → IsSettledRefusal bytes n place →
    IsSettledRefusal (bytes ++ more) n place × RefusesText (bytes ++ more) n place

abbrev pub RefusedOnce : Type 0
RefusedOnce = (bytes : List ℕ) (n m place other : ℕ) → RefusesText bytes n place → RefusesText bytes m other →
    (n ≡ m) × (place ≡ other)

abbrev pub NodeOrRefused : Type 0
NodeOrRefused = (bytes : List ℕ) (item : Item) (n place : ℕ) → SpellsNode bytes item → ¬ (RefusesText bytes n place)

pub held-spells : SettledRefuses → NodeOrRefused → (text held : List ℕ) (item : Item) → IsWholeHeld text held
    → SpellsNode held item → SpellsNode text item
held-spells refuses apart text held item (inl whole) spells = subst (λ bytes. SpellsNode bytes item) whole spells
held-spells refuses apart text held item (inr front) spells =
    absurd (apart held item front.number front.place spells (refuses held front.number front.place front.is_settled))

pub held-refused : SettledRefuses → SettledStays → RefusedOnce → (text held : List ℕ) (number place : ℕ)
    → IsWholeHeld text held → RefusesText held number place → RefusesText text number place
held-refused refuses lasts once text held number place (inl whole) refused =
    subst (λ bytes. RefusesText bytes number place) whole refused
held-refused refuses lasts once text held number place (inr front) refused =
    let same = once held front.number number front.place place (refuses held front.number front.place front.is_settled) refused in
    rw (← same.0, ← same.1, front.is_front) (lasts held front.behind front.number front.place front.is_settled).1

-- the kind of the items that are held is that of the text
pub found-items : SettledRefuses → NodeOrRefused → (text held : List ℕ) (item : Item) (found : Result Kind RefusedAt)
    → SpellsNode held item
    → MatchResult found (λ kind. (value : Crs) × SpellsCrs item value × (kind ≡ kind_of value)) (RefusesCrs item)
    → IsWholeHeld text held → MatchResult found (SpellsKind text) (Refuses text)
found-items refuses apart text held item (Ok kind) node spells whole =
    (spells.0, (item, (held-spells refuses apart text held item whole node, spells.1)), spells.2)
found-items refuses apart text held item (Err refusal) node refused whole =
    inr (item, (held-spells refuses apart text held item whole node, refused))

-- the refusal of what is held is that of the text
pub found-refusal : SettledRefuses → SettledStays → RefusedOnce → (text held : List ℕ) (fault : Fault) (refusal : RefusedAt)
    → IsTextFault held fault → Some refusal ≡ refusal_of fault → IsWholeHeld text held → Refuses text refusal
found-refusal refuses lasts once text held (faults.Refused other) refusal refused is whole =
    let same : other ≡ refusal = cc in
    subst (Refuses text) same (inl (held-refused refuses lasts once text held other.number other.place whole refused))
found-refusal refuses lasts once text held (faults.Memory error) refusal refused is whole = cc
