-- A bridge: the first byte of a number's spelling that shows whether it is above zero.
use Rattle.std.specs.Prelude.{ℕ, ◌==◌, ◌||◌, not, Bool}

-- neither a zero nor a period nor a plus, after which a number may be zero or not
abbrev pub is_telling : ℕ → Bool
is_telling byte = not (byte == 48 || byte == 46 || byte == 43)
