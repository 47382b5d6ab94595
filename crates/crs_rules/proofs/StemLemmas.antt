-- A text without ` ensemble` at its end is a text.
use Rattle.std.proofs.Common.{◌≡◌, ◌≢◌, ℕ, ◌==◌, ◌-◌, Bool, true, false, List, [], ◌∷◌, ◌++◌, refl, sym, subst, length, take, drop, codes, arith, if◌then◌else◌, nat_eq, IsUtf8}
use Rattle.std.specs.List.{ends_with}
use Rattle.std.proofs.lemmas.List.{take-append-drop}
use Rattle.std.proofs.lemmas.Slice.Eq.{bytes_eq-Decides}
use Rattle.std.proofs.lemmas.Str.{IsCharBoundary-at_seam, IsUtf8-take}
use Rattle.std.proofs.Math.Seq.{take-append_seam}
use Rattle.crs_text.specs.inner.Prelude.{IsInside, doubled}
use Rattle.crs_value.specs.inner.Prelude.{IsText}
use Rattle.crs_rules.specs.Rules.{without_ensemble}

second-unlike : (x s q : ℕ) (xs ys : List ℕ) → s ≢ q → x ∷ s ∷ xs ≡ q ∷ q ∷ ys → ⊥
second-unlike x s q xs ys n e = n cc

-- one more character before a front, which is inside where the space behind it is no quote
step : (c : ℕ) (cs front behind : List ℕ) (x : ℕ) →
    ((front : List ℕ) → front ++ 32 ∷ behind ≡ doubled cs → IsInside front) → (b : Bool) → (c == 34) ≡ b →
    x ∷ (front ++ 32 ∷ behind) ≡ (if b then 34 ∷ 34 ∷ doubled cs else c ∷ doubled cs) → IsInside (x ∷ front)
step c cs front behind x again false t e = let i = again front cc in (c ∷ i.0, rw t cc)
step c cs [] behind x again true t e = absurd (second-unlike x 32 34 behind (doubled cs) (omega arith) e)
step c cs (y ∷ front) behind x again true t e = let i = again front cc in (34 ∷ i.0, cc)

front-inside : (cs front behind : List ℕ) → front ++ 32 ∷ behind ≡ doubled cs → IsInside front
front-inside cs [] behind e = ([], refl)
front-inside [] (x ∷ front) behind e = absurd cc
front-inside (c ∷ cs) (x ∷ front) behind e =
    step c cs front behind x (λ f g. front-inside cs f behind g) (c == 34) refl e

utf8-front : (front behind : List ℕ) → IsUtf8 behind → IsUtf8 (front ++ behind) → IsUtf8 front
utf8-front front behind b w =
    subst IsUtf8 (take-append_seam front behind)
    (IsUtf8-take (front ++ behind) (length front) w (IsCharBoundary-at_seam (front ++ behind) front behind refl b))

abbrev word : List ℕ
word = codes " ensemble"

text-front : (front name : List ℕ) → front ++ word ≡ name → IsText name → IsText front
unfolding lib.Utf8.encode
text-front front name e k =
    let w : IsText (front ++ word) = subst IsText (sym e) k in
    (front-inside w.0.0 front (codes "ensemble") w.0.1, utf8-front front word (word, (refl, refl)) w.1)

pub stem-when : (name : List ℕ) → ends_with nat_eq name word ≡ true → IsText name → IsText (take (length name - 9) name)
stem-when name e k =
    let n : ℕ = length name - 9 in
    let taken : take n name ++ word ≡ name = rw ((bytes_eq-Decides word (drop n name)).0 e) (take-append-drop n name) in
    text-front (take n name) name taken k

pub stem-sound : (name : List ℕ) → IsText name → IsText (without_ensemble name)
stem-sound name k = by (ends_with nat_eq name word) refl
  where
    by : (b : Bool) → ends_with nat_eq name word ≡ b → IsText (if b then take (length name - 9) name else name)
    by true e = stem-when name e k
    by false e = k
