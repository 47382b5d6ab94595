use Rattle.std.proofs.Common.{◌≡◌, ◌+◌, ℕ, Ok, Err, Some, Result, MatchResult, subst, sym}
use Rattle.std.proofs.lemmas.Option.{none-some, same_Some}
use Rattle.std.specs.Result.{result_ok}
use Rattle.crs_text.specs.Tokens.{IsUtf8Front}
use Rattle.crs_text.specs.inner.Lexing.{IsValidTo}
use Rattle.crs_text.proofs.settled.FeedingLemmas.{text_stays, valid_from}
use Rattle.crs_text.proofs.feeding.stays_open.Goals as goal

-- what an `Ok` says holds of the value that is kept of it
kept : (P Q : ℕ → Type 0) (r : Result ℕ ℕ) (n : ℕ) → MatchResult r P Q → Some n ≡ result_ok r → P n
kept P Q (Ok m) n h e = subst P (sym (same_Some n m e)) h
kept P Q (Err m) n h e = absurd (none-some n (sym e))

pub returns : goal.returns
returns c =
    let after = c.rest_of-after.result.now in
    let more = kept (λ n. IsValidTo c.rest_of.result.now n × IsUtf8Front c.rest_of.result.now) _ c.valid_length.result c.in_ok-valid.field-0 c.valid_length.ensures c.in_ok-valid.ensures.value in
    let valid = valid_from after c.args.valid c.in_ok-valid.field-0 (rw (← c.rest_of-after.ensures) at c.requires.2) (rw c.rest_of.ensures at more) in
    text_stays c.args.left.now c.in_ok-inside.inside (c.args.valid + c.in_ok-valid.field-0) c.requires.0 (rw c.rest_of-after.ensures at c.in_ok-inside.ensures)
    (rw c.rest_of-after.ensures at valid)
