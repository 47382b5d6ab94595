-- Texts as one line shows them.
use Rattle.std.specs.Prelude.{◌/◌, ◌%◌, ◌++◌, ◌∷◌, [], ◌==◌, ◌||◌, ◌&&◌, nat_le, nat_lt, ℕ, Bool, List, codes, encode_utf8, if◌then◌else◌}
use Rattle.std.specs.List.{flat_map}
use Rattle.bstr.specs.Escape.{escape_byte, hex_digit}
use Rattle.bstr.specs.Utf8.{lossy_chars}

-- characters from U+0080 on that steer a terminal, end a line or change the direction of a text:
-- controls, the separators of lines and paragraphs, marks of direction
abbrev pub steers : ℕ → Bool
steers c =
    (nat_le 0x80 c && nat_le c 0x9F) || c == 0x61C || c == 0x200E || c == 0x200F
    || (nat_le 0x2028 c && nat_le c 0x202E) || (nat_le 0x2066 c && nat_le c 0x2069)

-- characters that show as a blank or as nothing, so that what has them looks like what hasn't: other spaces than the
-- blank, soft hyphens, joiners, selectors of variants, byte order marks
abbrev pub hides : ℕ → Bool
hides c =
    c == 0xA0 || c == 0xAD || (nat_le 0x2000 c && nat_le c 0x200D) || c == 0x202F
    || (nat_le 0x205F c && nat_le c 0x206F) || c == 0x3000 || (nat_le 0xFE00 c && nat_le c 0xFE0F) || c == 0xFEFF

-- marks that compose: they stand on the character before them, so that the two look like one character that has its
-- mark; accents and what else Unicode keeps at U+0300 to U+036F, and the two marks of voiced sounds in Japanese
abbrev pub composes : ℕ → Bool
composes c = (nat_le 0x300 c && nat_le c 0x36F) || c == 0x3099 || c == 0x309A

-- characters that lines and JSON write by their codes
abbrev pub coded : ℕ → Bool
coded c = steers c || hides c || composes c

-- two hexadecimal digits
abbrev pub hex_byte : ℕ → List ℕ
hex_byte b = hex_digit (b / 16) ∷ hex_digit (b % 16) ∷ []

-- the digits of a code point before its last four, none where it has no more
abbrev pub digits_above : ℕ → List ℕ
digits_above c =
    if nat_lt c 0x10000 then [] else if nat_lt c 0x100000 then hex_digit (c / 0x10000) ∷ [] else hex_byte (c / 0x10000)

-- a character's code point, as `U+0041` and `U+1F5FA`
abbrev pub code_point : ℕ → List ℕ
code_point c = codes "U+" ++ digits_above c ++ hex_byte (c / 256 % 256) ++ hex_byte (c % 256)

-- a character as a line shows it: a backslash, control characters and what is coded are escaped, as `\\`, `\n`,
-- `\x1B` and `\u202E`
abbrev pub shown_char : ℕ → List ℕ
shown_char c =
    if c == 32 then c ∷ []
    else if nat_lt c 128 then escape_byte c
    else if coded c then codes "\\u" ++ hex_byte (c / 256) ++ hex_byte (c % 256)
    else encode_utf8 c

-- a text as a line shows it
abbrev pub escaped : List ℕ → List ℕ
escaped bytes = flat_map shown_char (lossy_chars bytes)
