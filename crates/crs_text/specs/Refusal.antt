-- Refusals: a number, a place and a name.
use Rattle.std.specs.Prelude.{ℕ, ◌&&◌, ◌||◌, ◌==◌, ◌++◌, nat_le, nat_lt, Bool, List, codes, decimal, if◌then◌else◌}

-- a refusal: its number, and its place, which counts bytes of the text from 0
pub record RefusedAt : Type 0 where
  pub number : ℕ
  pub place : ℕ

-- the numbers that refusals have: of the text, of a shape, of a value
abbrev pub is_refusal : ℕ → Bool
is_refusal n = (nat_le 1 n && nat_le n 8) || (nat_le 11 n && nat_le n 13) || (nat_le 21 n && nat_le n 29)

-- whether one refusal goes before another: it has the lower number, or the same number and the earlier place
abbrev pub is_before : RefusedAt → RefusedAt → Bool
is_before a b = nat_lt a.number b.number || (a.number == b.number && nat_lt a.place b.place)

-- the name of a refusal's number: of the text itself, of a shape, of a value
abbrev pub name_of : ℕ → List ℕ
name_of n =
    if n == 1 then codes "BadCharacter"
    else (if n == 2 then codes "BadNumber"
    else (if n == 3 then codes "NumberRange"
    else (if n == 4 then codes "NotUtf8"
    else (if n == 5 then codes "OpenText"
    else (if n == 6 then codes "Unexpected"
    else (if n == 7 then codes "UnexpectedEnd"
    else (if n == 8 then codes "TooDeep"
    else (if n == 11 then codes "UnknownKeyword"
    else (if n == 12 then codes "NotHere"
    else (if n == 13 then codes "Missing"
    else (if n == 21 then codes "UnknownWord"
    else (if n == 22 then codes "RepeatedPart"
    else (if n == 23 then codes "BadSystem"
    else (if n == 24 then codes "BadComponent"
    else (if n == 25 then codes "AxisCount"
    else (if n == 26 then codes "BadOrder"
    else (if n == 27 then codes "BadUnit"
    else (if n == 28 then codes "BadValue"
    else codes "BadDynamic"))))))))))))))))))

-- `refused N NAME at P`
abbrev pub refused_text : ℕ → ℕ → List ℕ
refused_text number place =
    codes "refused " ++ decimal number ++ codes " " ++ name_of number ++ codes " at "
    ++ decimal place
