-- What crsdesk_refusal_name and crsdesk_version answer.
use Rattle.std.specs.Prelude.{◌≡◌, ◌⊎◌, ℕ, List, IsTrue, codes}
use Rattle.crs_text.specs.Refusal.{is_refusal, name_of}
use Rattle.crs_c.specs.Buffers.{Buffer, IsGiven}

-- the version of the library
abbrev pub version : List ℕ
version = codes "0.3.0"

-- the name of a refusal's number is given; or no refusal has the number, with code 6
unfoldable pub IsNameAnswer : ℕ → Buffer ℕ → Buffer ℕ → ℕ → Type 0
IsNameAnswer number old new code =
    (IsTrue (is_refusal number) × IsGiven (name_of number) old new code)
    ⊎ ((¬ IsTrue (is_refusal number)) × (code ≡ 6) × (new ≡ old))
