-- A bridge: sets as they are written: each spelling once, in ascending order.
use Rattle.std.specs.Prelude.{◌≡◌, ◌↔◌, ℕ, not, List, [], ◌∷◌, ◌++◌, map, Vec}
use Rattle.std.specs.List.{filter, list_any}
use Rattle.std.specs.Str.{bytes_eq}
use Rattle.std.specs.declared.alloc.Global.{Global}
use Rattle.crs_normal.specs.inner.SpelledItems.{in_order, put_all}
use Rattle.crs_writer.specs.SetText.{commas}

-- a set after other arguments
unfoldable pub set_text : List (List ℕ) → List ℕ
set_text spellings = commas (in_order (λ bytes. bytes) spellings)

-- the bytes of vectors
abbrev pub spellings : List (Vec ℕ Global) → List (List ℕ)
spellings vectors = map (λ v. v.items) vectors

-- these texts without those that are among the others
abbrev pub lacking : (these others : List (List ℕ)) → List (List ℕ)
lacking these others = filter (λ text. not (list_any (bytes_eq text) others)) these

-- ---- values of which each has one spelling

-- the bytes of which this holds are these alone
abbrev pub IsOnlySpelling : (List ℕ → Type 0) → List ℕ → Type 0
IsOnlySpelling IsSpelling text = (bytes : List ℕ) → IsSpelling bytes ↔ (bytes ≡ text)

-- each text is the one spelling of its value
abbrev pub AreSpellingsOf : {V : Type 0} → (V → List ℕ → Type 0) → List V → List (List ℕ) → Type 0
AreSpellingsOf IsSpelling [] [] = Unit {0}
AreSpellingsOf IsSpelling [] (text ∷ texts) = ⊥
AreSpellingsOf IsSpelling (value ∷ values) [] = ⊥
AreSpellingsOf IsSpelling (value ∷ values) (text ∷ texts) =
    IsOnlySpelling (IsSpelling value) text × AreSpellingsOf IsSpelling values texts

-- the spellings of the values are put among those before
pub record ArePut {V : Type 0} (IsSpelling : V → List ℕ → Type 0) (values : List V)
    (before after : List (List ℕ)) : Type 0 where
  pub texts : List (List ℕ)
  pub spelled : AreSpellingsOf IsSpelling values texts
  pub all_put : after ≡ put_all (λ bytes. bytes) before texts
