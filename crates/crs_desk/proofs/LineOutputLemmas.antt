-- What is written for lines one after another.
use Rattle.std.proofs.Common.{Bool, true, false, refl, Option, Some, None, append-nil, ◌≡◌, ◌⊎◌, ◌++◌, ◌∷◌, [], ℕ, List, inl, ap, sym, ◌∙◌, arith, append_assoc, max}
use Rattle.std.specs.Io.KnownBytes.{Appends}
use Rattle.crs_streams.specs.inner.Prelude.{CutsLines, EndsInFeed}
use Rattle.crs_desk.specs.LinesRun.{AreOutputs, IsFrontOutput, IsLinesOutput, Outputs}

-- where nothing is written, nothing is sent
pub appends-none : (contents : Option (List ℕ)) → Appends contents contents []
appends-none None = tt
appends-none (Some held) = sym (append-nil held)

max-none : (n : ℕ) → n ≡ max 0 n
max-none n = omega arith

pub outputs-append : (Output : Outputs) (xs ys : List (List ℕ)) (a b : List ℕ) (m n : ℕ) → AreOutputs Output xs a m
    → AreOutputs Output ys b n → AreOutputs Output (xs ++ ys) (a ++ b) (max m n)
outputs-append Output [] ys a b m n (none, zero-is) more = rw (none, zero-is, ← max-none n) more
outputs-append Output (x ∷ xs) ys a b m n (line, rest, first, others, one, further, is, greatest) more = (
  line,
  rest ++ b,
  first,
  max others n,
  one,
  outputs-append Output xs ys rest b others n further more,
  ap (λ l. l ++ b) is ∙ append_assoc line rest b,
  omega (arith, greatest),
)

-- what is written for bytes that are joined at a line feed
pub output-append : CutsLines → (Output : Outputs) (a b : List ℕ) (v w : List ℕ) (m n : ℕ) → (a ≡ []) ⊎ EndsInFeed a
    → IsLinesOutput Output a v m → IsLinesOutput Output b w n → IsLinesOutput Output (a ++ b) (v ++ w) (max m n)
output-append lines Output a b v w m n begins first other = record {
  texts = first.texts ++ other.texts;
  are_texts = lines.joined a b first.texts other.texts begins first.are_texts other.are_texts;
  are_outputs = outputs-append Output first.texts other.texts v w m n first.are_outputs other.are_outputs;
}

-- ---- fronts of what is written

-- what is written for whole lines, or for all of them
pub whole-front : (Output : Outputs) (bytes written : List ℕ) (status : ℕ) (end : Bool)
    → (bytes ≡ []) ⊎ EndsInFeed bytes ⊎ (end ≡ true) → IsLinesOutput Output bytes written status
    → IsFrontOutput Output bytes end written
whole-front Output bytes written status end whole output = record {
  front = bytes;
  rest = [];
  are_bytes = sym (append-nil bytes);
  are_whole = grind (arith, whole);
  status = status;
  is_output = output;
}

-- of no bytes nothing
pub front-none : (Output : Outputs) → IsFrontOutput Output [] false []
front-none Output =
    whole-front Output [] [] 0 false (inl refl) (record { texts = []; are_texts = refl; are_outputs = (refl, refl) })
