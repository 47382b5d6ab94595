-- Texts one after the other, and one more.
use Rattle.std.proofs.Common.{◌≡◌, ◌+◌, ◌-◌, ◌++◌, ◌∷◌, [], ℕ, List, length, take, drop, refl, sym, ap, ◌∙◌, append_assoc, append-nil, arith}
use Rattle.std.proofs.lemmas.List.{take_at, drop_at, length-append}
use Rattle.crs_explain.specs.inner.Cut.{cut}
use Rattle.crs_explain.specs.Pieces.{ends_from, joined}

-- texts are what is cut where they end
pub cut_joined : (place : ℕ) (texts : List (List ℕ)) → cut place (joined texts) (ends_from place texts) ≡ texts
cut_joined place [] = refl
cut_joined place (text ∷ texts) =
    let long : (place + length text) - place ≡ length text = omega arith in
    let front : take (length text) (text ++ joined texts) ≡ text = take_at text (joined texts) (length text) refl in
    let rest : drop (length text) (text ++ joined texts) ≡ joined texts = drop_at text (joined texts) (length text) refl in
    rw (long, front, rest, cut_joined (place + length text) texts) refl

-- one more text is behind the others
pub joined_more : (texts : List (List ℕ)) (text : List ℕ) → joined (texts ++ text ∷ []) ≡ joined texts ++ text
joined_more [] text = append-nil text
joined_more (first ∷ texts) text =
    ap (λ z. first ++ z) (joined_more texts text) ∙ sym (append_assoc first (joined texts) text)

-- and it ends where all of them do
pub ends_more : (place : ℕ) (texts : List (List ℕ)) (text : List ℕ) →
    ends_from place (texts ++ text ∷ []) ≡ ends_from place texts ++ (place + length (joined texts ++ text)) ∷ []
ends_more place [] text = refl
ends_more place (first ∷ texts) text =
    let long : (place + length first) + length (joined texts ++ text) ≡ place + length ((first ++ joined texts) ++ text) =
    rw (append_assoc first (joined texts) text, length-append first (joined texts ++ text)) (omega arith) in
    rw (ends_more (place + length first) texts text, long) refl

-- bytes and ends that were cut into texts, with one text more; they are cut into texts again
pub more : (bytes ends new_bytes new_ends text : List ℕ) →
    bytes ≡ joined (cut 0 bytes ends) → ends ≡ ends_from 0 (cut 0 bytes ends) →
    new_bytes ≡ bytes ++ text → new_ends ≡ ends ++ length new_bytes ∷ [] →
    (cut 0 new_bytes new_ends ≡ cut 0 bytes ends ++ text ∷ [])
    × (new_bytes ≡ joined (cut 0 new_bytes new_ends)) × (new_ends ≡ ends_from 0 (cut 0 new_bytes new_ends))
more bytes ends new_bytes new_ends text laid ended e f =
    let texts = cut 0 bytes ends in
    let all = texts ++ text ∷ [] in
    let long : length new_bytes ≡ 0 + length (joined texts ++ text) = omega (arith, ap length (e ∙ ap (λ z. z ++ text) laid)) in
    let now_laid : new_bytes ≡ joined all = e ∙ ap (λ z. z ++ text) laid ∙ sym (joined_more texts text) in
    let now_ended : new_ends ≡ ends_from 0 all =
    f ∙ ap (λ z. z ++ length new_bytes ∷ []) ended ∙ ap (λ z. ends_from 0 texts ++ z ∷ []) long
    ∙ sym (ends_more 0 texts text) in
    let is : cut 0 new_bytes new_ends ≡ all =
    ap (λ z. cut 0 z new_ends) now_laid ∙ ap (λ z. cut 0 (joined all) z) now_ended ∙ cut_joined 0 all in
    (is, now_laid ∙ ap joined (sym is), now_ended ∙ ap (ends_from 0) (sym is))
