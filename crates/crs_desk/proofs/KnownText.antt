-- What a reader whose bytes are known gave by the time it shows its end.
use Rattle.std.proofs.Common.{◌≡◌, ℕ, ◌+◌, ◌<◌, ◌≤◌, ◌==◌, ◌||◌, List, [], ◌++◌, length, refl, Option, Some, None, IfSome, Result, Ok, false, subst, ap, sym, ◌∙◌, append-nil, arith}
use Rattle.std.specs.Io.KnownBytes.{Consumes, ReadConsumes}
use Rattle.std.proofs.Math.Bool.{or-true}
use Rattle.crs_streams.specs.inner.Prelude.{CountsRead, SourceState}
use Rattle.crs_desk.specs.Whole.{IsWhole}

-- all that is known was given before a read that gives nothing
pub known_whole : {E : Type 0} (old middle new : Option (List ℕ)) (items room : List ℕ) (answer : Result ℕ E)
    → Consumes old middle items → ReadConsumes middle new answer room → answer ≡ Ok 0 → 0 < length room
    → IfSome old (λ all. items ≡ all)
known_whole None middle new items room answer told bytes zero some = tt
known_whole (Some all) None new items room answer told bytes zero some = absurd told
known_whole (Some all) (Some left) None items room answer told bytes zero some =
    absurd (subst (λ r. ReadConsumes (Some left) None r room) zero bytes).0
known_whole (Some all) (Some left) (Some rest) items room answer told bytes zero some =
    let given = subst (λ r. ReadConsumes (Some left) (Some rest) r room) zero bytes in
    let nothing_left : rest ≡ [] = given.1 refl some in
    let none_left : left ≡ [] = given.0 ∙ nothing_left in
    sym (told ∙ ap (λ xs. items ++ xs) none_left ∙ append-nil items)

-- a read that gives nothing ends the text
pub read_whole : {E : Type 0} (start old new : SourceState) (text room : List ℕ) (answer : Result ℕ E) (count : ℕ)
    → CountsRead old new answer → ReadConsumes old.remaining new.remaining answer room → answer ≡ Ok count → count ≡ 0
    → 0 < length room → old.failed ≡ false → old.taken ≡ length text → length text ≤ 1048576
    → Consumes start.remaining old.remaining text → IsWhole start new text
read_whole start old new text room answer count counted bytes got none some healthy taken short told =
    let more = (subst (CountsRead old new) got counted).bytes in
    let given : new.taken ≡ old.taken + count = more.0 in record {
      is_ended = more.1 ∙ ap (λ n. old.ended || (n == 0)) none ∙ or-true old.ended;
      is_healthy = more.2 ∙ healthy;
      is_counted = omega (arith, given, none, taken);
      is_short = omega (arith, given, none, taken, short);
      is_all = known_whole start.remaining old.remaining new.remaining text room answer told bytes (got ∙ ap (λ n. Ok n) none) some;
    }
