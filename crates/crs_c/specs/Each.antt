-- What crsdesk_canon_each and crsdesk_digest_each answer.
use Rattle.std.specs.Prelude.{◌≡◌, ◌++◌, ◌∷◌, ◌+◌, ◌-◌, ◌<◌, ◌≤◌, ◌⊎◌, [], ℕ, List, MatchOption, length, take, drop}
use Rattle.crs_text.specs.Refusal.{RefusedAt}
use Rattle.crs_value.specs.declared.values.level.Level.{Level}
use Rattle.crs_value.specs.Spells.{Refuses}
use Rattle.crs_c.specs.Canon.{Spelling}
use Rattle.crs_c.specs.declared.calls.canon.Entry.{Entry}
use Rattle.crs_c.specs.Codes.{level_numbered}

-- what the caller has for many texts: an entry for each, the buffer for what is answered of them, and
-- how many are answered
pub record EachPlaces : Type 0 where
  pub entries : List Entry
  pub out : List ℕ
  pub done : ℕ

-- the text of an entry: the bytes from its beginning to its end, as far as there are such
abbrev pub text_of : List ℕ → Entry → List ℕ
text_of texts entry = take (entry.end - entry.begin) (drop entry.begin texts)

-- an entry is answered by bytes that begin at a place of the buffer: by those of its text with code 0, or
-- by none and its refusal with code 1
abbrev pub IsAnsweredBy : Spelling → List ℕ → ℕ → Entry → Entry → List ℕ → Type 0
IsAnsweredBy Is texts at old new written =
    (Is (text_of texts old) written
    × (new ≡ record old { written_end = at + length written; place = 0; number = 0; code = 0 }))
    ⊎ ((refusal : RefusedAt) × Refuses (text_of texts old) refusal × (written ≡ [])
    × (new ≡ record old { written_end = at; place = refusal.place; number = refusal.number; code = 1 }))

-- entries are answered in order by bytes that begin at a place of the buffer
abbrev pub AreAnsweredBy : Spelling → List ℕ → ℕ → List Entry → List Entry → List ℕ → Type 0
AreAnsweredBy Is texts at [] new written = (new ≡ []) × (written ≡ [])
AreAnsweredBy Is texts at (entry ∷ entries) new written =
    (one : Entry) × (others : List Entry) × (own rest : List ℕ) × (new ≡ one ∷ others)
    × (written ≡ own ++ rest) × IsAnsweredBy Is texts at entry one own
    × AreAnsweredBy Is texts (at + length own) entries others rest

-- what is answered of an entry has more bytes than this room
abbrev pub NeedsMore : Spelling → List ℕ → ℕ → Entry → Type 0
NeedsMore Is texts room entry =
    (bytes : List ℕ) × Is (text_of texts entry) bytes × (room < length bytes)

-- why no more entries are answered where these are left: there are none; that of the next
-- needs more room, with code 5; or out of memory, with code 3
abbrev pub EndsAt : Spelling → List ℕ → ℕ → List Entry → ℕ → Type 0
EndsAt Is texts room [] code = code ≡ 0
EndsAt Is texts room (next ∷ others) code = (NeedsMore Is texts room next × (code ≡ 5)) ⊎ (code ≡ 3)

-- the first entries are answered, one after the other at the front of the buffer, and the others are as before
unfoldable pub IsEachAt : Spelling → List ℕ → EachPlaces → EachPlaces → ℕ → Type 0
IsEachAt Is texts old new code =
    (done answered left : List Entry) × (written : List ℕ) × (old.entries ≡ done ++ left)
    × (new.entries ≡ answered ++ left) × AreAnsweredBy Is texts 0 done answered written
    × (length written ≤ length old.out) × (new.out ≡ written ++ drop (length written) old.out)
    × (new.done ≡ length done) × EndsAt Is texts (length old.out - length written) left code

-- the same at the level of this number; code 4, and all as before, where there is no such level
abbrev pub IsEachAnswer : (Level → Spelling) → ℕ → List ℕ → EachPlaces → EachPlaces → ℕ → Type 0
IsEachAnswer Is number texts old new code =
    MatchOption (level_numbered number) ((code ≡ 4) × (new ≡ old)) (λ level. IsEachAt (Is level) texts old new code)
