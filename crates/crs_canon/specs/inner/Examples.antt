-- The digest on a few texts, under two keys.
use Rattle.std.specs.Prelude.{◌≡◌, [], ◌∷◌, List, ℕ}
use Rattle.std.specs.Hash.DefaultHasher.{finish, with_keys, write}
use Rattle.crs_writer.specs.Canonical.{digest_of}

-- SipHash-1-3 of bytes, with the bytes 0 to 15 as its key
abbrev pub published_digest_of : List ℕ → ℕ
published_digest_of bytes = finish (write (with_keys 0x0706050403020100 0x0f0e0d0c0b0a0908) bytes)

-- the bytes 0 to 14
abbrev pub fifteen_bytes : List ℕ
fifteen_bytes = 0 ∷ 1 ∷ 2 ∷ 3 ∷ 4 ∷ 5 ∷ 6 ∷ 7 ∷ 8 ∷ 9 ∷ 10 ∷ 11 ∷ 12 ∷ 13 ∷ 14 ∷ []

-- digests as they are published for that key
abbrev pub DigestsArePublished : Type 0
DigestsArePublished =
    (published_digest_of [] ≡ 0xabac0158050fc4dc)
    × (published_digest_of (0 ∷ []) ≡ 0xc9f49bf37d57ca93)
    × (published_digest_of fifteen_bytes ≡ 0xd320d86d2a519956)

-- digests as the hasher of Rust's standard library has them, whose keys are 0
abbrev pub DigestsAreRusts : Type 0
DigestsAreRusts =
    (digest_of [] ≡ 0xd1fba762150c532c)
    × (digest_of (0 ∷ []) ≡ 0x68a914128e01e473)
    × (digest_of fifteen_bytes ≡ 0xf30eb725bb91c9ea)
