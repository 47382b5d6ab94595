-- A list that begins with another still does so with more at its end.
use Rattle.std.proofs.Common.{◌≡◌, ◌++◌, ◌≤◌, length, take, drop, min, ℕ, List, ap, sym, ◌∙◌, arith}
use Rattle.std.proofs.lemmas.List.{take-append-le, take-append-drop, length-take}

pub take-more : (old out more : List ℕ) → take (length old) out ≡ old → take (length old) (out ++ more) ≡ old
take-more old out more front = take-append-le (length old) out more within ∙ front
  where
    cut : min (length old) (length out) ≡ length old
    cut = sym (length-take (length old) out) ∙ ap length front

    within : length old ≤ length out
    within = omega (arith, cut)

pub front-of-front : (old mid new : List ℕ) → take (length old) mid ≡ old → take (length mid) new ≡ mid → take (length old) new ≡ old
front-of-front old mid new front further =
    ap (take (length old)) (sym (take-append-drop (length mid) new) ∙ ap (λ ns. ns ++ drop (length mid) new) further)
    ∙ take-more old mid (drop (length mid) new) front
