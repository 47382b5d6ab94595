-- Texts that are appended piece by piece.
use Rattle.std.proofs.Common.{◌≡◌, ℕ, List, ◌∷◌, ◌++◌, Option, sym, ap, ◌∙◌, append_assoc}
use Rattle.crs_text.specs.inner.Prelude.{Item, Siblings, End, More, item_text, others_text}
use Rattle.crs_normal.specs.inner.Prelude.{each, opt}
use Rattle.crs_writer.proofs.TextLemmas.{each-text, opt-text}

pub two : (old a b s1 s2 : List ℕ) → s1 ≡ old ++ a → s2 ≡ s1 ++ b → s2 ≡ old ++ (a ++ b)
two old a b s1 s2 e f = f ∙ ap (λ (x : List ℕ). x ++ b) e ∙ append_assoc old a b

pub three : (old a b c s1 s2 s3 : List ℕ) → s1 ≡ old ++ a → s2 ≡ s1 ++ b → s3 ≡ s2 ++ c → s3 ≡ old ++ (a ++ (b ++ c))
three old a b c s1 s2 s3 e f g =
    two old (a ++ b) c s2 s3 (two old a b s1 s2 e f) g ∙ ap (λ (x : List ℕ). old ++ x) (append_assoc a b c)

-- arguments that may be missing, or one for each part of a list, and then the rest
pub then-opt : {A : Type 0} (spell : A → Item) (value : Option A) (rest : Siblings) (old s1 s2 : List ℕ) →
    s1 ≡ old ++ others_text (opt spell value End) → s2 ≡ s1 ++ others_text rest → s2 ≡ old ++ others_text (opt spell value rest)
then-opt spell value rest old s1 s2 e f =
    two old (others_text (opt spell value End)) (others_text rest) s1 s2 e f
    ∙ ap (λ (x : List ℕ). old ++ x) (sym (opt-text spell value rest))

pub then-each : {A : Type 0} (spell : A → Item) (values : List A) (rest : Siblings) (old s1 s2 : List ℕ) →
    s1 ≡ old ++ others_text (each spell values End) → s2 ≡ s1 ++ others_text rest → s2 ≡ old ++ others_text (each spell values rest)
then-each spell values rest old s1 s2 e f =
    two old (others_text (each spell values End)) (others_text rest) s1 s2 e f
    ∙ ap (λ (x : List ℕ). old ++ x) (sym (each-text spell values rest))

-- an argument, and then the rest
pub then-more : (item : Item) (rest : Siblings) (old s1 s2 : List ℕ) →
    s1 ≡ old ++ 44 ∷ item_text item → s2 ≡ s1 ++ others_text rest → s2 ≡ old ++ others_text (More item rest)
then-more item rest old s1 s2 e f = two old (44 ∷ item_text item) (others_text rest) s1 s2 e f

pub ruleset then_rules = (then-opt, then-each, then-more)
