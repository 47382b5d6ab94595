-- Closed texts: a word, `[`, and all up to the `]` that first closes it, outside quotes.
use Rattle.std.specs.Prelude.{◌≡◌, ◌≢◌, ◌≤◌, ℕ, suc, ◌==◌, not, Bool, true, false, List, [], ◌∷◌, ◌++◌, if◌then◌else◌}
use Rattle.crs_text.specs.Tokens.{IsWord}

-- how often a byte occurs outside quotes, in bytes that begin within quotes or not
abbrev pub unquoted : ℕ → Bool → List ℕ → ℕ
unquoted byte quoted [] = 0
unquoted byte quoted (b ∷ bytes) =
    if b == 34 then unquoted byte (not quoted) bytes
    else (if quoted then unquoted byte true bytes
    else (if b == byte then suc (unquoted byte false bytes) else unquoted byte false bytes))

-- how many `[` there are outside quotes
abbrev pub opening_count : List ℕ → ℕ
opening_count bytes = unquoted 91 false bytes

-- how many `]` there are outside quotes
abbrev pub closing_count : List ℕ → ℕ
closing_count bytes = unquoted 93 false bytes

-- a word, `[`, and bytes of which the last one closes that bracket, and none before it: outside quotes every proper
-- front of these bytes has as many `[` as `]` or more, and all of them have one `]` more
pub record IsClosed (bytes : List ℕ) : Type 0 where
  pub word : List ℕ
  pub is_word : IsWord word
  pub inside : List ℕ
  pub parts : bytes ≡ word ++ 91 ∷ inside
  pub stays_open : (front rest : List ℕ) → inside ≡ front ++ rest → rest ≢ [] →
      closing_count front ≤ opening_count front
  pub ends : closing_count inside ≡ suc (opening_count inside)
