-- What is written of sets that have no members, of an ensemble in the place of a frame, or where a level doesn't keep a part.
use Rattle.std.proofs.Common.{◌≡◌, ℕ, List, [], ◌∷◌, ◌++◌, Option, Some, None, true, false, IsSome, inl, inr, map, refl, sym, ap, subst, ◌∙◌}
use Rattle.std.proofs.lemmas.List.{append-nil}
use Rattle.crs_text.specs.inner.Prelude.{Item, End, arguments, item_text, others_text}
use Rattle.crs_shape.specs.declared.class.Class.{Class}
use Rattle.crs_shape.specs.declared.class.Class.TheVariants as class
use Rattle.crs_value.specs.inner.Prelude.{kept, kept_one, those, ReadsEach, ReadsElse, ReadsFirst, ReadsOne, ReadsOptional, LacksUsage, ReadsBare, ReadsBox, ReadsEnsemble, ReadsExtent, ReadsTextOf, ReadsUsage, ReadsAsDatum, ReadsAsEnsemble, ReadsFrame, SaysSome, UsageParts}
use Rattle.crs_value.specs.Values.{IdentParts}
use Rattle.crs_value.specs.declared.values.frame.Frame.{Frame}
use Rattle.crs_value.specs.declared.values.frame.Frame.TheVariants as frame
use Rattle.crs_value.specs.declared.values.level.Level.{Level}
use Rattle.crs_value.specs.declared.values.level.Level.TheVariants as levels
use Rattle.crs_same.specs.inner.Prelude.{with_bare}
use Rattle.crs_normal.specs.inner.Prelude.{item_ensemble, item_frame, norm_ensemble, norm_frame, each, item_ident, set_idents, item_usage, norm_usage, set_usages}
use Rattle.crs_writer.specs.inner.FromItems.{Writes}
use Rattle.crs_writer.specs.inner.Members.{set_text}
use Rattle.crs_writer.proofs.WrittenLemmas.{idents-written, usages-written}

-- the same text in other words
pub retold : {V : Type 0} (R : V → Type 0) (f g : V → List ℕ) (old new : List ℕ) → ((value : V) → f value ≡ g value) →
    Writes R f old new → Writes R g old new
retold R f g old new e w = record { writes = λ value r. w.writes value r ∙ ap (λ (x : List ℕ). old ++ x) (e value) }

-- nothing is written where the text is empty
pub untold : {V : Type 0} (R : V → Type 0) (f : V → List ℕ) (old : List ℕ) → ((value : V) → R value → f value ≡ []) → Writes R f old old
untold R f old e = record {
  writes = λ value r. sym (append-nil old) ∙ ap (λ (x : List ℕ). old ++ x) (sym (e value r));
}

-- ---- sets of no members

none-read : {V : Type 0} (R : Item → V → Type 0) (items : List Item) (values : List V) → items ≡ [] → ReadsEach R items values → values ≡ []
none-read R items [] e h = refl
none-read {V = V} R items (v ∷ vs) e h =
    let P : List Item → Type 0 = λ xs. ReadsEach R xs (v ∷ vs) in absurd (subst P e h)

empty-text : set_text [] ≡ []
unfolding set_text
empty-text = refl

pub none-written : {V : Type 0} (R : Item → V → Type 0) (spell : V → List ℕ) (items : List Item) (old : List ℕ) → items ≡ [] →
    Writes (ReadsEach R items) (λ values. set_text (map spell values)) old old
none-written R spell items old e =
    untold (ReadsEach R items) _ old (λ values h. ap (λ vs. set_text (map spell vs)) (none-read R items values e h) ∙ empty-text)

-- ---- identifiers and usages that a level keeps

pub idents-kept : (level : Level) → level ≡ levels.Full → (ids : List IdentParts) →
    set_text (map (λ i. item_text (item_ident i)) ids) ≡ others_text (each item_ident (set_idents level ids) End)
idents-kept level e ids =
    ap (λ l. set_text (map (λ i. item_text (item_ident i)) (kept l ids))) (sym e) ∙ sym (idents-written level ids)

pub idents-dropped : (level : Level) → level ≡ levels.Definition → (ids : List IdentParts) → others_text (each item_ident (set_idents level ids) End) ≡ []
idents-dropped level e ids =
    idents-written level ids ∙ ap (λ l. set_text (map (λ i. item_text (item_ident i)) (kept l ids))) e ∙ empty-text

abbrev usages_text : Option UsageParts → List UsageParts → List ℕ
usages_text bare usages = set_text (map (λ u. item_text (item_usage (norm_usage u))) (with_bare bare usages))

pub usages-kept : (level : Level) → level ≡ levels.Full → (bare : Option UsageParts) (usages : List UsageParts) →
    usages_text bare usages ≡ others_text (each item_usage (set_usages level (with_bare bare usages)) End)
usages-kept level e bare usages =
    ap (λ l. usages_text (kept_one l bare) (kept l usages)) (sym e) ∙ sym (usages-written level bare usages)

pub usages-dropped : (level : Level) → level ≡ levels.Definition → (bare : Option UsageParts) (usages : List UsageParts) →
    others_text (each item_usage (set_usages level (with_bare bare usages)) End) ≡ []
usages-dropped level e bare usages =
    usages-written level bare usages ∙ ap (λ l. usages_text (kept_one l bare) (kept l usages)) e ∙ empty-text

-- where no part is bare there is no bare usage
lacks-one : {V : Type 0} (R : Item → V → Type 0) (items : List Item) (value : Option V) → items ≡ [] → ReadsOptional R items value → ¬ (IsSome value)
lacks-one R items None e h some = let n : false ≡ true = some in let h : ⊥ = cc in h
lacks-one R items (Some v) e h some = let P : List Item → Type 0 = λ xs. ReadsOptional R xs (Some v) in subst P e h

lacks-some : (c : Class) (item : Item) (u : UsageParts) → LacksUsage c item → ReadsUsage c item u → ¬ (SaysSome u)
lacks-some c item u lacks reads (inl some) = lacks-one (ReadsTextOf class.Scope) _ u.scope lacks.scope reads.scope some
lacks-some c item u lacks reads (inr (inl some)) = lacks-one (ReadsTextOf class.Area) _ u.area lacks.area reads.area some
lacks-some c item u lacks reads (inr (inr (inl some))) = lacks-one (ReadsBox class.BoundingBox) _ u.bbox lacks.bbox reads.bbox some
lacks-some c item u lacks reads (inr (inr (inr some))) = lacks-one (ReadsExtent class.VerticalExtent) _ u.extent lacks.extent reads.extent some

lacking-none : (c : Class) (item : Item) (bare : Option UsageParts) → LacksUsage c item → ReadsBare c item bare → bare ≡ None
lacking-none c item None lacks h = refl
lacking-none c item (Some u) lacks (reads, some) = absurd (lacks-some c item u lacks reads some)

pub without-bare : (c : Class) (item : Item) (old new : List ℕ) (bare : Option UsageParts) (usages : List UsageParts) → LacksUsage c item →
    ReadsBare c item bare → new ≡ old ++ usages_text None usages → new ≡ old ++ usages_text bare usages
without-bare c item old new bare usages lacks h e =
    e ∙ ap (λ b. old ++ usages_text b usages) (sym (lacking-none c item bare lacks h))

-- where a part is bare there is a bare usage
pub with-some : (c : Class) (item : Item) (old new : List ℕ) (bare : Option UsageParts) (usages : List UsageParts) → ¬ (LacksUsage c item) →
    ReadsBare c item bare → ((u : UsageParts) → ReadsUsage c item u → new ≡ old ++ usages_text (Some u) usages) → new ≡ old ++ usages_text bare usages
with-some c item old new None usages some lacks w = absurd (some lacks)
with-some c item old new (Some u) usages some (reads, says) w = w u reads

-- ---- an ensemble in the place of a frame

ensemble-in : (keyword : List ℕ) (level : Level) (e : Class) (items : List Item) (old new : List ℕ) (f : Frame) →
    Writes (ReadsFirst (ReadsEnsemble e) items) (λ x. 44 ∷ item_text (item_ensemble (norm_ensemble level x))) old new →
    ReadsFirst (ReadsAsEnsemble e) items f → new ≡ old ++ 44 ∷ item_text (item_frame keyword (norm_frame level f))
ensemble-in keyword level e [] old new f w h = absurd h
ensemble-in keyword level e (item ∷ items) old new (frame.Datum d) w h = absurd h
ensemble-in keyword level e (item ∷ items) old new (frame.Ensemble x) w h = w.writes x h

pub ensemble-written : (keyword : List ℕ) (level : Level) (d e c : Class) (item : Item) (old new : List ℕ) → those c d (arguments item) ≡ [] →
    Writes (ReadsOne ReadsEnsemble e c item) (λ x. 44 ∷ item_text (item_ensemble (norm_ensemble level x))) old new →
    Writes (ReadsFrame d e c item) (λ f. 44 ∷ item_text (item_frame keyword (norm_frame level f))) old new
ensemble-written keyword level d e c item old new none w = record {
  writes = λ f h.
      let P : List Item → Type 0 = λ xs. ReadsElse (ReadsAsDatum d) xs (ReadsOne ReadsAsEnsemble e c item) f in
      ensemble-in keyword level e (those c e (arguments item)) old new f w (subst P none h);
}
