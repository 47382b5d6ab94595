-- Arguments between delimiters.
use Rattle.std.proofs.Common.{◌≡◌, ℕ, ◌<◌, List, [], ◌∷◌, ◌++◌, length, slice_set, sym, ap, ◌∙◌, arith, append_assoc}
use Rattle.std.proofs.Math.Seq.{set-append_seam}
use Rattle.std.proofs.lemmas.List.{append-nil}
use Rattle.crs_text.specs.inner.Prelude.{Siblings, End, More, item_text, others_text}
use Rattle.crs_normal.specs.inner.Prelude.{node_from}
use Rattle.crs_writer.specs.inner.Openings.{enclosed}

pub enclosing : (front : List ℕ) (items : Siblings) (at : ℕ) (old opened closed : List ℕ) →
    old ≡ front ++ others_text items → length front ≡ at → at < length old →
    opened ≡ slice_set old at 91 → closed ≡ opened ++ 93 ∷ [] → closed ≡ front ++ enclosed items
enclosing front End at old opened closed e l within f g =
    let same : length old ≡ length front = ap length (e ∙ append-nil front) in
    absurd (omega (arith, same, l, within))
enclosing front (More first others) at old opened closed e l within f g =
    let rest = item_text first ++ others_text others in
    let set_there : opened ≡ front ++ 91 ∷ rest =
    f ∙ ap (λ (x : List ℕ). slice_set x at 91) e ∙ ap (λ n. slice_set (front ++ 44 ∷ rest) n 91) (sym l) ∙ set-append_seam front 44 rest 91 in
    g ∙ ap (λ (x : List ℕ). x ++ 93 ∷ []) set_there ∙ append_assoc front (91 ∷ rest) (93 ∷ [])
    ∙ ap (λ (x : List ℕ). front ++ (91 ∷ x)) (append_assoc (item_text first) (others_text others) (93 ∷ []))

pub from-enclosed : (old keyword : List ℕ) (items : Siblings) → (old ++ keyword) ++ enclosed items ≡ old ++ item_text (node_from keyword items)
from-enclosed old keyword End = append-nil (old ++ keyword)
from-enclosed old keyword (More first others) =
    append_assoc old keyword (91 ∷ (item_text first ++ (others_text others ++ 93 ∷ [])))
