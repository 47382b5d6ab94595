-- Words: each direction has its place among all, and what a keyword spells.
use Rattle.std.proofs.Common.{◌≡◌, ℕ, List, Some, get_or, ◌<◌, refl, sym, ap, ◌∙◌}
use Rattle.std.specs.Str.{str_to_ascii_lowercase}
use Rattle.std.proofs.lemmas.Slice.Eq.{bytes_eq-Decides}
use denote.Enum.Declared.{rowss, tag_of}
use denote.Enum.Enum.{tag_below}
use Rattle.crs_text.specs.declared.keyword.Keyword.{Keyword}
use Rattle.crs_text.specs.inner.Prelude.{spelling_of, keyword_of, AreSpelled}
use Rattle.crs_shape.specs.Words.{SpellsWord, every_direction}
use Rattle.crs_shape.specs.contracts.direction.Direction.{the_type}
use Rattle.crs_shape.specs.declared.direction.Direction.{Direction}
use Rattle.crs_shape.specs.declared.direction.Direction.TheVariants.{North}

-- ---- directions

abbrev pub direction_place : Direction → ℕ
direction_place d = tag_of the_type d

pub direction_placed : (d : Direction) → get_or every_direction (direction_place d) d ≡ d
unfolding every_direction
direction_placed North = refl
direction_placed other = refl

pub direction_within : (d : Direction) → direction_place d < 22
direction_within d = tag_below (rowss the_type.parts) (the_type.to d)

-- ---- words that are keywords

pub keyword-spells : AreSpelled → (k keyword : Keyword) → keyword ≡ k → (word : List ℕ) → keyword_of word ≡ Some keyword → SpellsWord word (spelling_of k)
keyword-spells law k keyword is word e =
    sym ((bytes_eq-Decides (str_to_ascii_lowercase (spelling_of k)) (str_to_ascii_lowercase word)).0 ((law k word).1 (e ∙ ap Some is)))

-- a word that is one keyword spells no other
pub keyword-alone : AreSpelled → (k keyword : Keyword) → ¬ (keyword ≡ k) → (word : List ℕ) → keyword_of word ≡ Some keyword → ¬ (SpellsWord word (spelling_of k))
keyword-alone law k keyword other word e spells =
    let is : Some keyword ≡ Some k = sym e ∙ (law k word).0 ((bytes_eq-Decides (str_to_ascii_lowercase (spelling_of k)) (str_to_ascii_lowercase word)).1 (sym spells)) in
    other (cc)
