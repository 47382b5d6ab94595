-- The text of arguments is that of the first ones and that of the rest.
use Rattle.std.proofs.Common.{◌≡◌, ℕ, List, [], ◌∷◌, ◌++◌, Option, Some, None, map, refl, sym, ap, ◌∙◌, append_assoc}
use Rattle.std.proofs.lemmas.List.{append-nil}
use Rattle.crs_text.specs.inner.Prelude.{Item, Siblings, End, More, item_text, others_text}
use Rattle.crs_normal.specs.inner.Prelude.{in_order, put, put_all, each, opt, text_node}
use Rattle.std.specs.Cmp.Lexicographic.{slice_cmp}
use Rattle.std.specs.Ordering.{nat_cmp, match_ordering}
use Rattle.std.specs.declared.cmp.Ordering.{Ordering}
use Rattle.std.specs.declared.cmp.Ordering.TheVariants.{Less}
use Rattle.crs_writer.specs.inner.Members.{set_text}
use Rattle.crs_writer.specs.inner.Openings.{text_behind}
use Rattle.crs_writer.specs.SetText.{commas}

more-text : (item : Item) (rest : Siblings) → others_text (More item rest) ≡ others_text (More item End) ++ others_text rest
more-text item rest =
    ap (λ (x : List ℕ). 44 ∷ (x ++ others_text rest)) (sym (append-nil (item_text item)))

pub opt-text : {A : Type 0} (spell : A → Item) (value : Option A) (rest : Siblings) →
    others_text (opt spell value rest) ≡ others_text (opt spell value End) ++ others_text rest
opt-text spell None rest = refl
opt-text spell (Some value) rest = more-text (spell value) rest

pub each-text : {A : Type 0} (spell : A → Item) (values : List A) (rest : Siblings) →
    others_text (each spell values rest) ≡ others_text (each spell values End) ++ others_text rest
each-text spell [] rest = refl
each-text spell (value ∷ values) rest =
    ap (λ (x : List ℕ). 44 ∷ (item_text (spell value) ++ x)) (each-text spell values rest)
    ∙ ap (λ (x : List ℕ). 44 ∷ x) (sym (append_assoc (item_text (spell value)) (others_text (each spell values End)) (others_text rest)))

-- a node of one text, if there is one
pub text-node : (keyword : List ℕ) (value : Option (List ℕ)) →
    text_behind (44 ∷ (keyword ++ 91 ∷ 34 ∷ [])) value ≡ others_text (opt (text_node keyword) value End)
text-node keyword None = refl
text-node keyword (Some raw) = simp (append_assoc, append-nil)

-- ---- sets

each-commas : {A : Type 0} (spell : A → Item) (values : List A) →
    others_text (each spell values End) ≡ commas (map (λ v. item_text (spell v)) values)
each-commas spell [] = refl
each-commas spell (value ∷ values) =
    ap (λ (x : List ℕ). 44 ∷ (item_text (spell value) ++ x)) (each-commas spell values)

pub map-match : {A B : Type 0} (f : A → B) (o : Ordering) (a b c : List A) →
    map f (match_ordering o a b c) ≡ match_ordering o (map f a) (map f b) (map f c)
map-match f Less a b c = refl
map-match f other a b c = refl

map-put : {A : Type 0} (f : A → List ℕ) (x : A) (ys : List A) → map f (put f x ys) ≡ put (λ b. b) (f x) (map f ys)
map-put f x [] = refl
map-put f x (y ∷ ys) =
    let o = slice_cmp nat_cmp (f x) (f y) in
    map-match f o (x ∷ y ∷ ys) (y ∷ ys) (y ∷ put f x ys)
    ∙ ap (λ rest. match_ordering o (f x ∷ f y ∷ map f ys) (f y ∷ map f ys) (f y ∷ rest)) (map-put f x ys)

map-put_all : {A : Type 0} (f : A → List ℕ) (sorted xs : List A) →
    map f (put_all f sorted xs) ≡ put_all (λ b. b) (map f sorted) (map f xs)
map-put_all f sorted [] = refl
map-put_all f sorted (x ∷ xs) =
    map-put_all f (put f x sorted) xs ∙ ap (λ ys. put_all (λ b. b) ys (map f xs)) (map-put f x sorted)

pub set-written : {A : Type 0} (spell : A → Item) (values : List A) →
    others_text (each spell (in_order (λ v. item_text (spell v)) values) End) ≡ set_text (map (λ v. item_text (spell v)) values)
unfolding set_text
set-written spell values =
    each-commas spell (in_order (λ v. item_text (spell v)) values) ∙ ap commas (map-put_all (λ v. item_text (spell v)) [] values)

map-twice : {A B C : Type 0} (f : B → C) (g : A → B) (xs : List A) → map f (map g xs) ≡ map (λ x. f (g x)) xs
map-twice f g [] = refl
map-twice f g (x ∷ xs) = ap (λ ys. f (g x) ∷ ys) (map-twice f g xs)

-- the same for values in their one form
pub normal_set-written : {A B : Type 0} (spell : B → Item) (norm : A → B) (values : List A) →
    others_text (each spell (in_order (λ v. item_text (spell v)) (map norm values)) End)
    ≡ set_text (map (λ v. item_text (spell (norm v))) values)
normal_set-written spell norm values =
    set-written spell (map norm values) ∙ ap set_text (map-twice (λ v. item_text (spell v)) norm values)
