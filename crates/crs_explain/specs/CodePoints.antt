-- The code points that tell two values apart which may print alike.
use Rattle.std.specs.Prelude.{◌==◌, ◌||◌, ◌&&◌, ◌++◌, ◌∷◌, ℕ, Bool, List, [], codes, if◌then◌else◌, nat_lt}
use Rattle.bstr.specs.Utf8.{lossy_chars}
use Rattle.crs_streams.specs.Escaped.{code_point}

-- whether two characters need no code points: both are ASCII, or one is the quote that ends a name
abbrev pub are_plain : (x y : ℕ) → Bool
are_plain x y = (nat_lt x 128 && nat_lt y 128) || x == 34 || y == 34

-- the code points of two characters, as ` (U+0410 | U+0041)`, unless they need none
abbrev pub points_of : (x y : ℕ) → List ℕ
points_of x y =
    if are_plain x y then [] else codes " (" ++ code_point x ++ codes " | " ++ code_point y ++ codes ")"

-- those of the first characters in which two texts differ; none where one is the beginning of the other
abbrev pub first_unlike : (xs ys : List ℕ) → List ℕ
first_unlike (x ∷ xs) (y ∷ ys) = if x == y then first_unlike xs ys else points_of x y
first_unlike xs ys = []

-- what stands behind two values that differ
abbrev pub code_points : (first second : List ℕ) → List ℕ
code_points first second = first_unlike (lossy_chars first) (lossy_chars second)
