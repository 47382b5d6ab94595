-- Parts in the order of no words, and whether there are any.
use Rattle.std.proofs.Common.{◌≡◌, ◌∙◌, ◌∷◌, ◌==◌, [], List, Bool, true, false, ap, arith, cond, length, refl, sym, true≢false}
use Rattle.std.proofs.lemmas.Bool.{eqb-true}
use Rattle.std.specs.List.{filter}
use Rattle.std.specs.List.Sorted.{ties}
use Rattle.std.specs.Ordering.{is_lt, nat_cmp}
use Rattle.std.proofs.lemmas.List.{nil_from_length}
use Rattle.std.proofs.lemmas.List.Sorted.{length_permutation}
use Rattle.crs_explain.specs.Differing.{PartTexts}
use Rattle.crs_explain.specs.InOrder.{AreInOrder, rank}

-- a test that holds of all keeps all
filter-all : (test : PartTexts → Bool) → ((part : PartTexts) → test part ≡ true) → (parts : List PartTexts)
    → filter test parts ≡ parts
filter-all test every [] = refl
filter-all test every (part ∷ parts) =
    ap (λ b. cond b (part ∷ filter test parts) (filter test parts)) (every part) ∙ ap (λ l. part ∷ l) (filter-all test every parts)

-- without words all parts have one rank
abbrev ties-none : PartTexts → PartTexts → Bool
ties-none = ties (λ x y. is_lt (nat_cmp (rank [] x) (rank [] y)))

pub kept : (parts ordered : List PartTexts) → AreInOrder [] parts ordered → ordered ≡ parts
kept [] ordered is = nil_from_length ordered (length_permutation [] ordered is.are_all)
kept (part ∷ parts) ordered is =
    sym (filter-all (ties-none part) (λ other. refl) ordered)
    ∙ (is.as_before part ∙ filter-all (ties-none part) (λ other. refl) (part ∷ parts))

-- what follows where there are none, and where there are some
pub where-none : {A S : Type 0} (P : List A → Type 0) (parts : List A) → (length parts == 0) ≡ true → (P [] → S) → P parts → S
where-none P [] e then p = then p
where-none P (part ∷ parts) e then p = let f = eqb-true (length (part ∷ parts)) 0 e in absurd (omega (arith, f))

pub where-some : {A S : Type 0} (P : List A → Type 0) (parts : List A) → (length parts == 0) ≡ false →
    ((part : A) (further : List A) → P (part ∷ further) → S) → P parts → S
where-some P [] e then p = absurd (true≢false e)
where-some P (part ∷ parts) e then p = then part parts p
