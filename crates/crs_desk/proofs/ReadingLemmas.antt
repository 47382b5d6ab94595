-- What the getters of the matches give, and the request that is made of it.
use Rattle.std.proofs.Common.{◌≡◌, List, [], Option, Some, None, refl, codes, option_map, map, ap, ap₂, sym, ◌∙◌}
use Rattle.std.specs.Prelude.{unwrap_or}
use Rattle.std.specs.Str.{bytes_eq}
use Rattle.std.specs.Borrow.{Bor}
use Rattle.clap.specs.declared.parser.matches.Found.{Found}
use Rattle.clap.specs.Words.{Text, first_value, rows_of}
use Rattle.clap.specs.Matches.{matched_of, raw_values}
use Rattle.clap.proofs.WalkLemmas.{first_value-rows, raw_values-rows}
use Rattle.crs_desk.specs.Requests.{has_flag, level_of, words_of}

abbrev nows : Option (Bor Text) → Option Text
nows found = option_map (λ s. s.now) found

-- ---- the level

now_or : (found : Option (Bor Text)) (usual : Bor Text) → (unwrap_or found usual).now ≡ unwrap_or (option_map (λ s. s.now) found) usual.now
now_or None usual = refl
now_or (Some text) usual = refl

-- the getter's text, or `full`, is the level
pub level_read : (f : Found) (found : Option (Bor Text)) (usual text : Bor Text) → text ≡ unwrap_or found usual
    → option_map (λ s. s.now) found ≡ first_value f (codes "level") → usual.now ≡ codes "full" → text.now ≡ level_of (rows_of f)
level_read f found usual text is one full =
    ap (λ (t : Bor Text). t.now) is ∙ now_or found usual ∙ ap₂ unwrap_or (one ∙ first_value-rows f (codes "level")) full

-- the getter's text, or `false`, says whether a flag is there
pub flag_read : (f : Found) (name : Text) (found : Option (Bor Text)) (usual text : Bor Text) → text ≡ unwrap_or found usual
    → nows found ≡ first_value f name → usual.now ≡ codes "false"
    → bytes_eq text.now (codes "true") ≡ has_flag name (rows_of f)
flag_read f name found usual text is one unset =
    ap (λ (t : Text). bytes_eq t (codes "true"))
    (ap (λ (t : Bor Text). t.now) is ∙ now_or found usual ∙ ap₂ unwrap_or (one ∙ first_value-rows f name) unset)

-- ---- files, and rules files

-- the getter's texts are the words
pub some_words : (f : Found) (name : Text) (found : Option (Bor (List (Bor Text)))) (words : Bor (List (Bor Text)))
    → option_map (λ s. map (λ v. v.now) s.now) found ≡ option_map raw_values (matched_of f name)
    → found ≡ Some words → map (λ (v : Bor Text). v.now) words.now ≡ words_of name (rows_of f)
some_words f name found words is some =
    ap (λ o. unwrap_or o [])
    (sym (ap (option_map (λ (s : Bor (List (Bor Text))). map (λ v. v.now) s.now)) some) ∙ is ∙ raw_values-rows f name)

pub no_words : (f : Found) (name : Text) (found : Option (Bor (List (Bor Text))))
    → option_map (λ s. map (λ v. v.now) s.now) found ≡ option_map raw_values (matched_of f name)
    → found ≡ None → [] ≡ words_of name (rows_of f)
no_words f name found is none =
    ap (λ o. unwrap_or o [])
    (sym (ap (option_map (λ (s : Bor (List (Bor Text))). map (λ v. v.now) s.now)) none) ∙ is ∙ raw_values-rows f name)
