-- A bridge: bytes that are cut into lines piece by piece.
use Rattle.std.specs.Prelude.{◌≡◌, ◌⊎◌, ◌+◌, ◌<◌, ◌≤◌, ◌++◌, ◌∷◌, [], ℕ, List, length}
use Rattle.crs_streams.specs.Lines.{AreLines, HasNoFeed, EndsInFeed, HasShortLines, IsTooLong, feeds}

-- the bytes are so many lines that have ended, of which none is too long, and the beginning of one that has not
pub record AreCut (bytes ended partial : List ℕ) (lines : ℕ) : Type 0 where
  pub are_bytes : bytes ≡ ended ++ partial
  pub begins : (ended ≡ []) ⊎ EndsInFeed ended
  pub are_short : HasShortLines ended
  pub is_one : HasNoFeed partial
  pub is_short : length partial ≤ 1048576
  pub is_counted : lines ≡ feeds ended

-- how bytes are cut further: before the first of them, where the line ends or goes on, and where it
-- is too long; and what is so of their lines
pub record CutsLines : Type 0 where
  pub none : AreCut [] [] [] 0
  pub line : {bytes ended partial : List ℕ} {lines : ℕ} (line : List ℕ) → AreCut bytes ended partial lines →
      HasNoFeed line → length partial + length line ≤ 1048576 →
      AreCut (bytes ++ (line ++ 10 ∷ [])) (ended ++ ((partial ++ line) ++ 10 ∷ [])) [] (lines + 1)
  pub more : {bytes ended partial : List ℕ} {lines : ℕ} (more : List ℕ) → AreCut bytes ended partial lines →
      HasNoFeed more → length partial + length more ≤ 1048576 →
      AreCut (bytes ++ more) ended (partial ++ more) lines
  pub long : {bytes ended partial : List ℕ} {lines : ℕ} (line rest : List ℕ) → AreCut bytes ended partial lines →
      HasNoFeed line → 1048576 < length partial + length line → length line + length rest ≤ 65536 →
      (long : IsTooLong (bytes ++ (line ++ rest)) (lines + 1)) × (long.front ≡ ended)
  pub short : {bytes ended partial : List ℕ} {lines : ℕ} → AreCut bytes ended partial lines → HasShortLines bytes
  pub fits : {bytes ended partial : List ℕ} {lines : ℕ} → AreCut bytes ended partial lines → lines ≤ length bytes
  pub joined : (a b : List ℕ) (xs ys : List (List ℕ)) → (a ≡ []) ⊎ EndsInFeed a → AreLines a xs → AreLines b ys →
      AreLines (a ++ b) (xs ++ ys)
