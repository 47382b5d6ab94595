-- Spellings of values that are put in order and appended are the text of their set.
use Rattle.std.proofs.Common.{◌≡◌, ◌↔◌, ℕ, List, [], ◌∷◌, ◌++◌, inl, inr, ⊎_elim, refl, sym, subst}
use Rattle.crs_normal.specs.inner.Prelude.{Ascends, IsCanonicalForm, IsIn, in_order}
use Rattle.crs_writer.specs.inner.Prelude.{AppendsSpelling, AreSpellingsOf, IsOnlySpelling, IsSetText, SpellsOneOf, comma_separated}

module _ {V : Type 0} (IsSpelling : V → List ℕ → Type 0) where
  -- the text of a value is its one spelling
  pub only-spelling : (Q : V → Type 0) (Same : V → V → Type 0) (text : V → List ℕ) → IsCanonicalForm Q Same IsSpelling →
      ((value : V) → Q value → IsSpelling value (text value)) → (value : V) → Q value → IsOnlySpelling (IsSpelling value) (text value)
  only-spelling Q Same text form written value q bytes = (
    λ p. form.one value bytes (text value) q p (written value q),
    λ same. subst (IsSpelling value) (sym same) (written value q),
  )

  -- the spellings are those of the values
  pub spellings-tell : (values : List V) (texts : List (List ℕ)) → AreSpellingsOf IsSpelling values texts →
      (text : List ℕ) → IsIn text texts ↔ SpellsOneOf IsSpelling values text
  spellings-tell [] [] h text = (λ p. p, λ p. p)
  spellings-tell [] (t ∷ texts) h text = absurd h
  spellings-tell (v ∷ values) [] h text = absurd h
  spellings-tell (v ∷ values) (t ∷ texts) h text =
      let rest = spellings-tell values texts h.1 text in
      (⊎_elim (λ e. inl ((h.0 text).1 e)) (λ p. inr (rest.0 p)), ⊎_elim (λ s. inl ((h.0 text).0 s)) (λ s. inr (rest.1 s)))

  -- what is appended is the text of the set
  pub set-text : ((texts : List (List ℕ)) → Ascends (λ text. text) (in_order (λ text. text) texts)) →
      ((texts : List (List ℕ)) (text : List ℕ) → IsIn text (in_order (λ text. text) texts) ↔ IsIn text texts) →
      (values : List V) (texts : List (List ℕ)) (before after : List ℕ) → AreSpellingsOf IsSpelling values texts →
      after ≡ before ++ comma_separated (in_order (λ text. text) texts) → AppendsSpelling (IsSetText IsSpelling values) before after
  set-text ascend same values texts before after spelled appended = record {
    spelling = comma_separated (in_order (λ text. text) texts);
    appended = appended;
    is_spelling = record {
      members = in_order (λ text. text) texts;
      ascend = ascend texts;
      same = λ text.
          let tell = spellings-tell values texts spelled text in
          (λ p. tell.0 ((same texts text).0 p), λ p. (same texts text).1 (tell.1 p));
      written = refl;
    };
  }
