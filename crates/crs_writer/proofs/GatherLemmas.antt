-- Spellings of the members of a set that are gathered one after another.
use Rattle.std.proofs.Common.{◌≡◌, ℕ, List, [], ◌∷◌, ◌++◌, map, refl, sym, ap, ◌∙◌}
use Rattle.crs_normal.specs.inner.Prelude.{in_order, put, put_all}
use Rattle.crs_writer.specs.inner.Members.{set_text}
use Rattle.crs_writer.specs.inner.Parts.{SaysFirst}
use Rattle.crs_writer.specs.SetText.{commas}

-- the spellings of the members before these are among those that are gathered
abbrev pub Gathering : {V M : Type 0} → (M → List V → Type 0) → (V → List ℕ) → M → List (List ℕ) → List (List ℕ) → M → Type 0
Gathering {V = V} Say spell whole old now left =
    (values : List V) → Say whole values → (rest : List V) × Say left rest
    × (put_all (λ b. b) now (map spell rest) ≡ put_all (λ b. b) old (map spell values))

pub gathering-first : {V M : Type 0} (Say : M → List V → Type 0) (spell : V → List ℕ) (whole : M) (old : List (List ℕ)) →
    Gathering Say spell whole old old whole
gathering-first Say spell whole old = λ values h. (values, h, refl)

step : {V P M : Type 0} (Says : P → V → Type 0) (Say : M → List V → Type 0) (spell : V → List ℕ) (now next whole : List (List ℕ)) (first : P) (others : M) →
    ((value : V) → Says first value → next ≡ put (λ b. b) (spell value) now) → (rest : List V) → SaysFirst Says Say first others rest →
    put_all (λ b. b) now (map spell rest) ≡ whole →
    (rest : List V) × Say others rest × (put_all (λ b. b) next (map spell rest) ≡ whole)
step Says Say spell now next whole first others more [] h e = absurd h
step Says Say spell now next whole first others more (v ∷ vs) h e =
    (vs, h.1, ap (λ ys. put_all (λ b. b) ys (map spell vs)) (more v h.0) ∙ e)

pub gathering-on : {V P M : Type 0} (Says : P → V → Type 0) (Say : M → List V → Type 0) (spell : V → List ℕ) (whole left : M)
    (old now next : List (List ℕ)) (first : P) (others : M) → ((values : List V) → Say left values → SaysFirst Says Say first others values) →
    ((value : V) → Says first value → next ≡ put (λ b. b) (spell value) now) →
    Gathering Say spell whole old now left → Gathering Say spell whole old next others
gathering-on Says Say spell whole left old now next first others says more so = λ values h.
    let (rest, said, same) = so values h in
    step Says Say spell now next (put_all (λ b. b) old (map spell values)) first others more rest (says rest said) same

pub gathering-end : {V M : Type 0} (Say : M → List V → Type 0) (spell : V → List ℕ) (whole left : M) (old now : List (List ℕ)) →
    ((values : List V) → Say left values → values ≡ []) → Gathering Say spell whole old now left →
    (values : List V) → Say whole values → now ≡ put_all (λ b. b) old (map spell values)
gathering-end Say spell whole left old now none so values h =
    let (rest, said, same) = so values h in
    sym (ap (λ vs. put_all (λ b. b) now (map spell vs)) (none rest said)) ∙ same

-- ---- as a set is written

pub alone-written : {V : Type 0} (spell : V → List ℕ) (value : V) (values : List V) (old new : List ℕ) → values ≡ [] →
    new ≡ old ++ commas (spell value ∷ []) → new ≡ old ++ set_text (map spell (value ∷ values))
unfolding set_text
alone-written spell value values old new none e =
    e ∙ ap (λ vs. old ++ commas (in_order (λ b. b) (map spell (value ∷ vs)))) (sym none)

pub many-written : {V : Type 0} (spell : V → List ℕ) (value : V) (values : List V) (old new : List ℕ) (none one all : List (List ℕ)) → none ≡ [] →
    one ≡ put (λ b. b) (spell value) none → all ≡ put_all (λ b. b) one (map spell values) → new ≡ old ++ commas all →
    new ≡ old ++ set_text (map spell (value ∷ values))
unfolding set_text
many-written spell value values old new none one all e f g h =
    h ∙ ap (λ ys. old ++ commas ys)
    (g ∙ ap (λ ys. put_all (λ b. b) ys (map spell values)) (f ∙ ap (λ ys. put (λ b. b) (spell value) ys) e))
