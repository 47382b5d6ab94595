-- Whole numbers that are read: of one digit at sight, and others as decimals.
use Rattle.std.proofs.lemmas.Bool.Decides.{nat_tests}
use Rattle.std.proofs.Common.{◌≡◌, ◌==◌, true, ◌⊎◌, ⊎_elim, ap, ℕ, ◌+◌, ◌-◌, ◌*◌, ◌<◌, ◌≤◌, Option, Some, None, List, [], ◌∷◌, length, refl, sym, subst, arith, IfSome}
use Rattle.crs_decimal.specs.inner.Prelude.{IsBounded, IsInBounds, Denotes, number_of, Number, SameNumber, whole_number, Sign, unsigned, plus, Parts, IsForm, SpellsNumber, AreDigits, Value, IsNormal, exact}
use Rattle.crs_text.specs.inner.Prelude.{Item, arguments, raw_of}
use Rattle.crs_shape.specs.declared.class.Class.{Class}
use Rattle.crs_shape.specs.declared.class.Class.TheVariants as class
use Rattle.crs_value.specs.Reading.{those, ReadsFirst}
use Rattle.crs_value.specs.inner.Arguments.{item_at, IsFound}
use Rattle.crs_value.specs.Reads.{ReadsNumber}
use Rattle.crs_value.specs.inner.WholeNumbers.{IsWhole, IsWholeOf}
use Rattle.crs_value.proofs.checked.PlacedLemmas.{Symmetric}

abbrev pub DigitsAlone : Type 0
DigitsAlone = (bytes : List ℕ) → AreDigits bytes → 0 < length bytes → length bytes ≤ 18 → IsInBounds bytes

abbrev pub OneForm : Type 0
OneForm = (bytes : List ℕ) (p q : Parts) → SpellsNumber bytes p → SpellsNumber bytes q → p ≡ q

abbrev pub DenotesSome : Type 0
DenotesSome = (bytes : List ℕ) → IsInBounds bytes → (v : Value) × (IsNormal v × Denotes bytes (exact v))

-- a digit alone, or after a sign
abbrev digit_parts : Sign → ℕ → Parts
digit_parts s b = record { sign = s; whole = b ∷ []; fraction = None; exponent = None }

digit-alone : (b : ℕ) → 48 ≤ b → b ≤ 57 → AreDigits (b ∷ [])
digit-alone b low high = grind (arith, nat_tests)

digit-form : (s : Sign) (b : ℕ) → AreDigits (b ∷ []) → IsForm (digit_parts s b)
digit-form s b digits = record { digits = digits; some = omega arith; exponent = tt }

digit-bounded : DigitsAlone → OneForm → (b : ℕ) → AreDigits (b ∷ []) → IsBounded (digit_parts unsigned b)
digit-bounded alone one b digits =
    let h = alone (b ∷ []) digits (omega arith) (omega arith) in subst IsBounded (one (b ∷ []) h.0 (digit_parts unsigned b) h.1 (refl, digit-form unsigned b digits)) h.2

plus-bounded : (b : ℕ) → IsBounded (digit_parts unsigned b) → IsBounded (digit_parts plus b)
plus-bounded b h = record { mantissa_digits = h.mantissa_digits; exponent_digits = h.exponent_digits; measured = h.measured }

-- the value of a digit in bounds that has no minus
value-of : OneForm → DenotesSome → Symmetric → (bytes : List ℕ) (p : Parts) (n : ℕ) → SpellsNumber bytes p → IsBounded p → number_of p ≡ whole_number n → IsWhole bytes n
value-of one some symmetric bytes p n spells bounded is =
    let (v, (normal, denotes)) = some bytes (p, spells, bounded) in
    let P : Parts → Type 0 = λ q. SameNumber (number_of q) (exact v) in
    let Q : Number → Type 0 = λ m. SameNumber m (exact v) in
    let mine = subst P (one bytes denotes.0 p denotes.1 spells) denotes.3 in
    (v, ((normal, denotes), symmetric (whole_number n) (exact v) (subst Q is mine)))

digit-number : (b : ℕ) → number_of (digit_parts unsigned b) ≡ whole_number (b - 48)
digit-number b =
    let plain : 0 * 10 + (b - 48) ≡ b - 48 = omega arith in
    ap (λ n. whole_number n) plain

digit-whole : DigitsAlone → OneForm → DenotesSome → Symmetric → (b : ℕ) → AreDigits (b ∷ []) → IsWhole (b ∷ []) (b - 48)
digit-whole alone one some symmetric b digits =
    value-of one some symmetric (b ∷ []) (digit_parts unsigned b) (b - 48) (refl, digit-form unsigned b digits) (digit-bounded alone one b digits) (digit-number b)

plus-whole : DigitsAlone → OneForm → DenotesSome → Symmetric → (b : ℕ) → AreDigits (b ∷ []) → IsWhole (43 ∷ b ∷ []) (b - 48)
plus-whole alone one some symmetric b digits =
    value-of one some symmetric (43 ∷ b ∷ []) (digit_parts plus b) (b - 48) (refl, digit-form plus b digits) (plus-bounded b (digit-bounded alone one b digits)) (digit-number b)

pub digit-read : DigitsAlone → OneForm → DenotesSome → Symmetric → (raw : List ℕ) (b : ℕ) (found : Option ℕ) → (raw ≡ b ∷ []) ⊎ (raw ≡ 43 ∷ b ∷ []) →
    IfSome found (λ n. (48 ≤ b) × ((b ≤ 57) × (n ≡ b - 48))) → IfSome found (IsWhole raw)
digit-read alone one some symmetric raw b None same h = h
digit-read alone one some symmetric raw b (Some n) same (low, (high, is)) =
    let digits = digit-alone b low high in
    let P : List ℕ → Type 0 = λ bytes. IsWhole bytes (b - 48) in
    let Q : ℕ → Type 0 = λ k. IsWhole raw k in
    subst Q (sym is)
    (⊎_elim (λ e. subst P (sym e) (digit-whole alone one some symmetric b digits)) (λ e. subst P (sym e) (plus-whole alone one some symmetric b digits)) same)

pub same-whole : (m n : ℕ) → (m == n) ≡ true → m ≡ n
same-whole m n e = grind (arith, nat_tests)

-- the first number of a node
pub first-whole : (tree : Item) (c : Class) (item : Item) (id n : ℕ) → IsFound tree c class.Number (those c class.Number (arguments item)) (Some id) → IsWhole (raw_of (item_at tree id)) n →
    IsWholeOf c item n
first-whole tree c item id n at (v, (reads, same)) = let P : List Item → Type 0 = λ xs. ReadsFirst ReadsNumber xs v in (v, (subst P (sym at.0) reads, same))
