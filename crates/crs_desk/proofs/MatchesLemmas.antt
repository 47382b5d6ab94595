-- What the getters of the matches give, and the request that is made of it.
use Rattle.std.proofs.Common.{◌≡◌, ◌≢◌, subst, List, Option, Some, None, IsSome, refl, codes, option_map, ap₂, sym, ◌∙◌}
use Rattle.std.specs.Borrow.{Bor}
use Rattle.clap.specs.declared.parser.matches.Found.{Found}
use Rattle.clap.specs.Words.{Row, Text, first_of, first_value, rows_of}
use Rattle.clap.proofs.WalkLemmas.{first_value-rows}
use Rattle.crs_desk.specs.Requests.{same_of, same_operands}

abbrev nows : Option (Bor Text) → Option Text
nows found = option_map (λ s. s.now) found

-- what is made of the getters' words is made of the operands
pub operands_read : {X : Type 0} (make : Option Text → Option Text → X) (f : Found) (first second a b : Option (Bor Text))
    → nows first ≡ first_value f (codes "first") → nows second ≡ first_value f (codes "second") → first ≡ a → second ≡ b
    → make (nows a) (nows b) ≡ make (first_of (codes "first") (rows_of f)) (first_of (codes "second") (rows_of f))
operands_read make f first second a b one other is more =
    sym (ap₂ (λ (o p : Option (Bor Text)). make (nows o) (nows p)) is more)
    ∙ ap₂ make (one ∙ first_value-rows f (codes "first")) (other ∙ first_value-rows f (codes "second"))

there_both : (rows : List Row) (first second : Option Text) → IsSome (same_operands rows first second) → IsSome first × IsSome second
there_both rows None second some = cc
there_both rows (Some first) None some = cc
there_both rows (Some first) (Some second) some = (refl, refl)

some_there : (found : Option (Bor Text)) → IsSome (option_map (λ s. s.now) found) → found ≢ None
some_there None some = cc
some_there (Some text) some = λ none. cc

-- where the matches are a request, neither getter answers that nothing is there
pub neither_missing : (f : Found) (first second : Option (Bor Text)) → option_map (λ s. s.now) first ≡ first_value f (codes "first")
    → option_map (λ s. s.now) second ≡ first_value f (codes "second") → IsSome (same_of (rows_of f)) → (first ≢ None) × (second ≢ None)
neither_missing f first second one other some =
    let read = operands_read (same_operands (rows_of f)) f first second first second one other refl refl in
    let both_are = there_both (rows_of f) (nows first) (nows second) (subst IsSome (sym read) some) in
    (some_there first both_are.0, some_there second both_are.1)
