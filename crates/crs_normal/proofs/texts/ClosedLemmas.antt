-- The text of a well-formed node is closed, and no closed text is the front of another.
use Rattle.std.proofs.Common.{◌≡◌, ◌≢◌, ◌≤◌, ◌+◌, ℕ, zero, suc, ◌==◌, not, Bool, true, false, Option, Some, None, List, [], ◌∷◌, ◌++◌, if◌then◌else◌, refl, sym, ap, ◌∙◌, subst, append-nil, append_assoc, arith, ◌&&◌}
use Rattle.std.specs.List.{list_all}
use Rattle.std.proofs.lemmas.Bool.{and_parts, eqb-true, true≢false}
use Rattle.std.proofs.lemmas.Bool.Decides.{nat_tests}
use Rattle.crs_decimal.specs.inner.Prelude.{is_run_byte}
use Rattle.crs_text.specs.inner.Prelude.{Item, leaf, node, Siblings, End, More, IsNode, doubled, Kind, number, text, word, IsSingle, IsWord, is_word_byte, single_spelling, AreFormed, AreAllFormed, item_text, others_text}
use Rattle.crs_normal.specs.Closed.{IsClosed, closing_count, opening_count, unquoted}

-- ---- a scanner, which finds the `]` that closes

-- after a `]`: the rest where it closes the outermost `[`, else what is found within so many others
abbrev closed_by : ℕ → List ℕ → (ℕ → Option (List ℕ)) → Option (List ℕ)
closed_by zero rest within = Some rest
closed_by (suc depth) rest within = within depth

-- what follows the `]` that closes the outermost of the opened brackets, with so many within it; in
-- quotes or not
abbrev behind : ℕ → Bool → List ℕ → Option (List ℕ)
behind depth quoted [] = None
behind depth quoted (b ∷ bytes) =
    if b == 34 then behind depth (not quoted) bytes
    else (if quoted then behind depth true bytes
    else (if b == 91 then behind (suc depth) false bytes
    else (if b == 93 then closed_by depth bytes (λ d. behind d false bytes)
    else behind depth false bytes)))

pub same-some : {A : Type 0} (a b : A) → Some a ≡ Some b → a ≡ b
same-some a b e = cc

-- ---- bytes that opened and close nothing

-- these bytes change neither the depth nor whether the next is in quotes
abbrev Passes : List ℕ → Type 0
Passes bytes = (depth : ℕ) (rest : List ℕ) → behind depth false (bytes ++ rest) ≡ behind depth false rest

-- the test fails on a byte
fails : (test : ℕ → Bool) (n b : ℕ) → test n ≡ false → test b ≡ true → (b == n) ≡ false
fails test n b none e = elim (b == n) as (λ v. (b == n) ≡ v → v ≡ false) [
  | true ↦ λ q. sym e ∙ ap test (eqb-true b n q) ∙ none
  | false ↦ λ q. refl
] refl

run-passes : (test : ℕ → Bool) → test 34 ≡ false → test 91 ≡ false → test 93 ≡ false → (raw : List ℕ) →
    list_all test raw ≡ true → Passes raw
run-passes test p q r [] e depth rest = refl
run-passes test p q r (b ∷ bytes) e depth rest =
    let parts = and_parts (test b) (list_all test bytes) e in
    rw (fails test 34 b p parts.0, fails test 91 b q parts.0, fails test 93 b r parts.0)
    (run-passes test p q r bytes parts.1 depth rest)

word-bytes : (raw : List ℕ) → IsWord raw → list_all is_word_byte raw ≡ true
word-bytes [] h = absurd h
word-bytes (b ∷ bytes) h = rw h.0 (rw h.1 refl)

word-passes : (raw : List ℕ) → IsWord raw → Passes raw
word-passes raw h = run-passes is_word_byte refl refl refl raw (word-bytes raw h)

-- ---- quoted texts

inside-passes : (cs : List ℕ) (depth : ℕ) (rest : List ℕ) →
    behind depth true (doubled cs ++ rest) ≡ behind depth true rest
inside-passes [] depth rest = refl
inside-passes (c ∷ cs) depth rest = by (inside-passes cs depth rest) (c == 34) refl
  where
    by : behind depth true (doubled cs ++ rest) ≡ behind depth true rest → (v : Bool) → (c == 34) ≡ v →
        behind depth true (doubled (c ∷ cs) ++ rest) ≡ behind depth true rest
    by passes true e = rw e passes
    by passes false e = rw (e, e) passes

text-passes : (raw cs : List ℕ) → raw ≡ doubled cs → Passes (34 ∷ raw ++ 34 ∷ [])
text-passes raw cs e depth rest = rw (append_assoc raw (34 ∷ []) rest, e) (inside-passes cs depth (34 ∷ rest))

single-passes : (kind : Kind) (raw : List ℕ) → IsSingle kind raw → Passes (single_spelling kind raw)
single-passes number raw h = run-passes is_run_byte refl refl refl raw h.1
single-passes text raw h = text-passes raw h.0.0 h.0.1
single-passes word raw h = word-passes raw h

-- ---- items

mutual
  item-passes : (item : Item) → AreFormed item → Passes (item_text item)
  item-passes (leaf kind place raw) h depth rest = single-passes kind raw h depth rest
  item-passes (node place keyword square first others close) h depth rest =
      simp append_assoc
      (word-passes keyword h.0 depth (91 ∷ (item_text first ++ (others_text others ++ 93 ∷ rest)))
      ∙ item-passes first h.1 (suc depth) (others_text others ++ 93 ∷ rest)
      ∙ items-pass others h.2 (suc depth) (93 ∷ rest))

  items-pass : (items : Siblings) → AreAllFormed items → Passes (others_text items)
  items-pass End h depth rest = refl
  items-pass (More item items) h depth rest =
      simp append_assoc (item-passes item h.0 depth (others_text items ++ rest) ∙ items-pass items h.1 depth rest)

-- ---- what is scanned to its end closes there, and not before

-- where these bytes follow, so many `]` and `[` came: the last `]` closes, and none before it
abbrev Closes : List ℕ → ℕ → ℕ → Type 0
Closes [] closed opened = closed ≡ suc opened
Closes (b ∷ rest) closed opened = closed ≤ opened

one-more : (rest : List ℕ) (closed opened : ℕ) → Closes rest closed opened → Closes rest (suc closed) (suc opened)
one-more [] closed opened h = ap suc h
one-more (b ∷ rest) closed opened h = omega arith

-- the last bracket
last-closes : (front rest : List ℕ) → Some (front ++ rest) ≡ Some [] →
    Closes rest (suc (unquoted 93 false front)) (0 + unquoted 91 false front)
last-closes [] [] e = refl
last-closes [] (b ∷ rest) e = absurd (cc)
last-closes (b ∷ front) rest e = absurd (cc)

-- what a byte adds to a count: it is a quote, stands within quotes, or is the byte that is counted
abbrev counted : Bool → Bool → Bool → (Bool → ℕ) → ℕ
counted quote quoted hit more =
    if quote then more (not quoted) else (if quoted then more true else (if hit then suc (more false) else more false))

abbrev IsScanned : List ℕ → List ℕ → Type 0
IsScanned front rest = (depth : ℕ) (quoted : Bool) → behind depth quoted (front ++ rest) ≡ Some [] →
    Closes rest (unquoted 93 quoted front) (depth + unquoted 91 quoted front)

scanned : (front rest : List ℕ) → IsScanned front rest
scanned [] [] depth quoted e = absurd (cc)
scanned [] (b ∷ rest) depth quoted e = omega arith
scanned (b ∷ front) rest depth quoted e =
    by (scanned front rest) (b == 34) quoted (b == 91) (b == 93) depth (grind (arith, nat_tests)) e
  where
    bytes : List ℕ
    bytes = front ++ rest

    by : IsScanned front rest → (quote quoted opens closes : Bool) (depth : ℕ) → (opens && closes) ≡ false →
        (if quote then behind depth (not quoted) bytes
        else (if quoted then behind depth true bytes
        else (if opens then behind (suc depth) false bytes
        else (if closes then closed_by depth bytes (λ d. behind d false bytes)
        else behind depth false bytes)))) ≡ Some [] →
        Closes rest (counted quote quoted closes (λ q. unquoted 93 q front))
        (depth + counted quote quoted opens (λ q. unquoted 91 q front))
    by more true quoted opens closes depth a e = more depth (not quoted) e
    by more false true opens closes depth a e = more depth true e
    by more false false true true depth a e = absurd (cc)
    by more false false true false depth a e =
        subst (Closes rest (unquoted 93 false front)) (omega arith) (more (suc depth) false e)
    by more false false false true zero a e = last-closes front rest e
    by more false false false true (suc depth) a e =
        subst (Closes rest (suc (unquoted 93 false front))) (omega arith)
        (one-more rest (unquoted 93 false front) (depth + unquoted 91 false front) (more depth false e))
    by more false false false false depth a e = more depth false e

pub node-closed : (item : Item) → AreFormed item → IsNode item → IsClosed (item_text item)
node-closed (leaf kind place raw) h is = absurd is
node-closed (node place keyword square first others close) h is =
    let inside : List ℕ = item_text first ++ (others_text others ++ 93 ∷ []) in
    let e : behind 0 false inside ≡ Some [] =
    item-passes first h.1 0 (others_text others ++ 93 ∷ []) ∙ items-pass others h.2 0 (93 ∷ []) in
    record {
      word = keyword;
      is_word = h.0;
      inside = inside;
      parts = refl;
      stays_open = opened inside e;
      ends = let k = scanned inside [] 0 false (rw append-nil e) in omega arith;
    }
  where
    opened : (inside : List ℕ) → behind 0 false inside ≡ Some [] → (front rest : List ℕ) → inside ≡ front ++ rest →
        rest ≢ [] → closing_count front ≤ opening_count front
    opened inside e front [] same some = absurd (some refl)
    opened inside e front (b ∷ rest) same some =
        let k = scanned front (b ∷ rest) 0 false (subst (λ x. behind 0 false x ≡ Some []) same e) in omega arith

-- ---- no front

no-bracket : (b : ℕ) (bytes : List ℕ) → list_all is_word_byte (b ∷ bytes) ≡ true → b ≡ 91 → ⊥
no-bracket b bytes e same =
    true≢false (sym (and_parts (is_word_byte b) (list_all is_word_byte bytes) e).0 ∙ ap is_word_byte same)

-- after its word a text has bytes that are inside
split-once : (a b x y : List ℕ) → list_all is_word_byte a ≡ true → list_all is_word_byte b ≡ true →
    a ++ 91 ∷ x ≡ b ++ 91 ∷ y → x ≡ y
split-once [] [] x y p q e = cc
split-once [] (c ∷ b) x y p q e = absurd (no-bracket c b q (cc))
split-once (c ∷ a) [] x y p q e = absurd (no-bracket c a p (cc))
split-once (c ∷ a) (d ∷ b) x y p q e =
    split-once a b x y (and_parts (is_word_byte c) (list_all is_word_byte a) p).1
    (and_parts (is_word_byte d) (list_all is_word_byte b) q).1 (cc)

-- what ends before its end isn't closed there
no-more : (a more : List ℕ) → closing_count a ≡ suc (opening_count a) →
    (more ≢ [] → closing_count a ≤ opening_count a) → more ≡ []
no-more a [] ends stays = refl
no-more a (b ∷ more) ends stays =
    let l : closing_count a ≤ opening_count a = stays (λ e. absurd (cc)) in absurd (omega arith)

pub closed-alone : (bytes more : List ℕ) → IsClosed bytes → IsClosed (bytes ++ more) → more ≡ []
closed-alone bytes more h k =
    let e : h.word ++ 91 ∷ (h.inside ++ more) ≡ k.word ++ 91 ∷ k.inside =
    sym (append_assoc h.word (91 ∷ h.inside) more) ∙ ap (λ x. x ++ more) (sym h.parts) ∙ k.parts in
    let same : h.inside ++ more ≡ k.inside =
    split-once h.word k.word (h.inside ++ more) k.inside (word-bytes h.word h.is_word) (word-bytes k.word k.is_word) e in
    no-more h.inside more h.ends (λ some. k.stays_open h.inside more (sym same) some)
