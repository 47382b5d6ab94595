-- A bridge: what becomes of one entry of many.
use Rattle.std.specs.Prelude.{◌≡◌, ◌++◌, ◌+◌, ◌-◌, ◌≤◌, ◌⊎◌, ◌<◌, ℕ, List, Option, Some, None, length, take, drop}
use Rattle.crs_text.specs.Refusal.{RefusedAt}
use Rattle.crs_c.specs.declared.calls.canon.Entry.{Entry}
use Rattle.crs_c.specs.Canon.{Spelling}
use Rattle.crs_c.specs.Each.{IsAnsweredBy, NeedsMore}

-- the buffer with bytes written at a place
abbrev pub with_bytes : ℕ → List ℕ → List ℕ → List ℕ
with_bytes at bytes out = take at out ++ (bytes ++ drop (at + length bytes) out)

-- an entry whose text is refused, with code 0 for the turn; without a refusal there was no memory, with code 3
abbrev pub refused_entry : ℕ → Option RefusedAt → Entry → Entry × ℕ
refused_entry at (Some refusal) entry =
    (record entry { written_end = at; place = refusal.place; number = refusal.number; code = 1 }, 0)
refused_entry at None entry = (entry, 3)

-- bytes are written at a place, with code 0; or they need more room, with code 5
unfoldable pub IsWritten : List ℕ → ℕ → Entry → List ℕ → Entry → List ℕ → ℕ → Type 0
IsWritten bytes at entry out new_entry new_out code =
    ((at + length bytes ≤ length out)
    × (new_entry ≡ record entry { written_end = at + length bytes; place = 0; number = 0; code = 0 })
    × (new_out ≡ with_bytes at bytes out) × (code ≡ 0))
    ⊎ ((length out < at + length bytes) × (new_out ≡ out) × (code ≡ 5))

-- an entry is answered by bytes that are written at a place, with code 0; or they need more
-- room, with code 5; or out of memory, with code 3
unfoldable pub IsTurn : Spelling → List ℕ → ℕ → Entry → List ℕ → Entry → List ℕ → ℕ → Type 0
IsTurn Is texts at entry out new_entry new_out code =
    ((written : List ℕ) × IsAnsweredBy Is texts at entry new_entry written × (at + length written ≤ length out)
    × (new_out ≡ with_bytes at written out) × (code ≡ 0))
    ⊎ (NeedsMore Is texts (length out - at) entry × (new_out ≡ out) × (code ≡ 5))
    ⊎ ((new_out ≡ out) × (code ≡ 3))
