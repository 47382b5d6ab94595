-- Bytes spell rules in one way at most, or are refused in one way at most, and never both.
use Rattle.std.proofs.Common.{◌≡◌, ◌≢◌, ℕ, ◌++◌, ◌∷◌, [], List, Bool, IsTrue, IsFalse, Option, None, Some, inl, inr, sym, subst, ap, ◌∙◌, arith, length, codes}
use Rattle.std.specs.Str.{str_eq_ignore_ascii_case, str_to_ascii_lowercase}
use Rattle.std.proofs.lemmas.Slice.Eq.{bytes_eq-Decides}
use Rattle.crs_decimal.specs.inner.Prelude.{Denotes, IsNormal, Value, exact}
use Rattle.crs_text.specs.inner.Prelude.{Item, Siblings, End, More, arguments, raw_of, RefusesText, SpellsNode}
use Rattle.crs_shape.specs.declared.unit_kind.UnitKind.{UnitKind}
use Rattle.crs_value.specs.inner.Prelude.{OneIs}
use Rattle.crs_streams.specs.inner.Prelude.{AreLines}
use Rattle.crs_rules.specs.declared.file.fault.RulesRefusal.{RulesRefusal}
use Rattle.crs_rules.specs.Members.{MemberParts, Says, SaysFactor, SaysName, kind_of}
use Rattle.crs_rules.specs.RulesFile.{FaultOfLine, Reads, ReadsFile, RefusesFile, is_idle, next}
use Rattle.crs_rules.specs.Statements.{Adds, AddsSet, Declares, Drops, FaultOfKind, FaultOfNode, FaultOfSet, FaultOfSort, FaultOfStatement, FaultOfWord, FaultOver, Joins, Over, Reading, Sorts, SortsAll, States, is_meridian, joined, kind_node, listed, with_item, with_kind}

abbrev pub DenotesOne : Type 0
DenotesOne = (bytes : List ℕ) (a b : Value) → IsNormal a → IsNormal b →
    Denotes bytes (exact a) → Denotes bytes (exact b) → a ≡ b

-- steps and faults of which there is one at most, at a reading and what is read there
pub record Sharp {A : Type 0} (Step : Reading → A → Reading → Type 0) (Fault : Reading → A → RulesRefusal → Type 0) : Type 0 where
  pub one : (r s t : Reading) (x : A) → Step r x s → Step r x t → s ≡ t
  pub fault : (r : Reading) (x : A) (f g : RulesRefusal) → Fault r x f → Fault r x g → f ≡ g
  pub apart : (r s : Reading) (x : A) (f : RulesRefusal) → Step r x s → ¬ (Fault r x f)

pub over-one : {A : Type 0} {Step : Reading → A → Reading → Type 0} {Fault : Reading → A → RulesRefusal → Type 0} → Sharp Step Fault →
    (r s t : Reading) (xs : List A) → Over Step r xs s → Over Step r xs t → s ≡ t
over-one h r s t [] a b = sym a ∙ b
over-one {Step = Step} h r s t (x ∷ xs) (q, step, more) (p, other, rest) =
    over-one h p s t xs (subst (λ o. Over Step o xs s) (h.one r q p x step other) more) rest

over-fault : {A : Type 0} {Step : Reading → A → Reading → Type 0} {Fault : Reading → A → RulesRefusal → Type 0} → Sharp Step Fault →
    (r : Reading) (xs : List A) (f g : RulesRefusal) → FaultOver Step Fault r xs f → FaultOver Step Fault r xs g → f ≡ g
over-fault h r [] f g a b = absurd a
over-fault h r (x ∷ xs) f g (inl a) (inl b) = h.fault r x f g a b
over-fault h r (x ∷ xs) f g (inl a) (inr (p, other, rest)) = absurd (h.apart r p x f other a)
over-fault h r (x ∷ xs) f g (inr (q, step, more)) (inl b) = absurd (h.apart r q x g step b)
over-fault {Step = Step} {Fault = Fault} h r (x ∷ xs) f g (inr (q, step, more)) (inr (p, other, rest)) =
    over-fault h p xs f g (subst (λ o. FaultOver Step Fault o xs f) (h.one r q p x step other) more) rest

over-apart : {A : Type 0} {Step : Reading → A → Reading → Type 0} {Fault : Reading → A → RulesRefusal → Type 0} → Sharp Step Fault →
    (r s : Reading) (xs : List A) (f : RulesRefusal) → Over Step r xs s → ¬ (FaultOver Step Fault r xs f)
over-apart h r s [] f a b = b
over-apart h r s (x ∷ xs) f (q, step, more) (inl b) = h.apart r q x f step b
over-apart {Step = Step} h r s (x ∷ xs) f (q, step, more) (inr (p, other, rest)) =
    over-apart h p s xs f (subst (λ o. Over Step o xs s) (h.one r q p x step other) more) rest

-- ---- nodes

pub some-one : {A : Type 0} (o : Option A) (a b : A) → o ≡ Some a → o ≡ Some b → a ≡ b
some-one o a b p q = cc

none-some : {A : Type 0} (o : Option A) (a : A) → o ≡ Some a → o ≡ None → ⊥
none-some o a p q = cc

true-false : (b : Bool) → IsTrue b → IsFalse b → ⊥
true-false b p q = cc

factor-one : DenotesOne → (o : Option UnitKind) (items : Siblings) (a b : Value) → SaysFactor o items a → SaysFactor o items b → a ≡ b
factor-one law None items a b p q = p.1 ∙ sym q.1
factor-one law (Some k) End a b p q = absurd p
factor-one law (Some k) (More i is) a b p q = law (raw_of i) a b p.1.1 q.1.1 p.1.2 q.1.2

name-one : DenotesOne → (items : Siblings) (m n : MemberParts) → m.class ≡ n.class → SaysName items m → SaysName items n → m ≡ n
name-one law End m n e p q = absurd p
name-one law (More i is) m n e p q =
    let name : m.name ≡ n.name = p.1 ∙ sym q.1 in
    let factor : m.factor ≡ n.factor =
    factor-one law (kind_of n.class) is m.factor n.factor (subst (λ c. SaysFactor (kind_of c) is m.factor) e p.2) q.2 in
    λ i. record { class = e i; name = name i; factor = factor i }

says-one : DenotesOne → (item : Item) (m n : MemberParts) → Says item m → Says item n → m ≡ n
says-one law item m n p q = name-one law (arguments item) m n (some-one _ m.class n.class p.0 q.0) p.1 q.1

adds-one : DenotesOne → (first : Option MemberParts) (m n : MemberParts) (r s t : Reading) (item : Item) →
    Adds first m r item s → Adds first n r item t → (m ≡ n) × (s ≡ t)
adds-one law first m n r s t item p q =
    let e = says-one law item m n p.says q.says in
    (e, p.adds ∙ (ap (λ x. record r { seen = r.seen ++ x ∷ []; rules = joined first x r.rules }) e ∙ sym q.adds))

node-fault : DenotesOne → (first : Option MemberParts) (r : Reading) (item : Item) (f g : RulesRefusal) →
    FaultOfNode first r item f → FaultOfNode first r item g → f ≡ g
node-fault law first r item f g (inl a) (inl b) = a.0 ∙ sym b.0
node-fault law first r item f g (inl a) (inr (n, says, b)) = absurd (a.1 n says)
node-fault law first r item f g (inr (m, says, a)) (inl b) = absurd (b.1 m says)
node-fault law first r item f g (inr (m, says, a)) (inr (n, other, b)) = grind (arith, rw (says-one law item n m other says) at b)

node-apart : DenotesOne → (first : Option MemberParts) (m : MemberParts) (r s : Reading) (item : Item) (f : RulesRefusal) →
    Adds first m r item s → ¬ (FaultOfNode first r item f)
node-apart law first m r s item f p (inl a) = a.1 m p.says
node-apart law first m r s item f p (inr (n, says, a)) = grind (arith, p.class, p.new, rw (says-one law item n m says p.says) at a)

joins-sharp : DenotesOne → (first : MemberParts) → Sharp (Joins first) (FaultOfNode (Some first))
joins-sharp law first = record {
  one = λ r s t x p q. (adds-one law (Some first) p.0 q.0 r s t x p.1 q.1).1;
  fault = λ r x f g. node-fault law (Some first) r x f g;
  apart = λ r s x f p. node-apart law (Some first) p.0 r s x f p.1;
}

-- the same after a node and what it leads to
as-other : {m n : MemberParts} {q p : Reading} (P : MemberParts → Reading → Type 0) → (m ≡ n) × (q ≡ p) → P m q → P n p
as-other {m = m} {p = p} P e h = subst (λ o. P o p) e.0 (subst (P m) e.1 h)

set-sharp : DenotesOne → Sharp AddsSet FaultOfSet
set-sharp law = record { one = one; fault = fault; apart = apart }
  where
    one : (r s t : Reading) (items : Siblings) → AddsSet r items s → AddsSet r items t → s ≡ t
    one r s t End a b = absurd a
    one r s t (More x xs) (m, q, adds, over) (n, p, other, rest) =
        over-one (joins-sharp law n) p s t (listed xs)
        (as-other (λ o k. Over (Joins o) k (listed xs) s) (adds-one law None m n r q p x adds other) over) rest

    fault : (r : Reading) (items : Siblings) (f g : RulesRefusal) → FaultOfSet r items f → FaultOfSet r items g → f ≡ g
    fault r End f g a b = absurd a
    fault r (More x xs) f g (inl a) (inl b) = node-fault law None r x f g a b
    fault r (More x xs) f g (inl a) (inr (n, p, other, rest)) = absurd (node-apart law None n r p x f other a)
    fault r (More x xs) f g (inr (m, q, adds, over)) (inl b) = absurd (node-apart law None m r q x g adds b)
    fault r (More x xs) f g (inr (m, q, adds, over)) (inr (n, p, other, rest)) =
        over-fault (joins-sharp law n) p (listed xs) f g
        (as-other (λ o k. FaultOver (Joins o) (FaultOfNode (Some o)) k (listed xs) f) (adds-one law None m n r q p x adds other) over) rest

    apart : (r s : Reading) (items : Siblings) (f : RulesRefusal) → AddsSet r items s → ¬ (FaultOfSet r items f)
    apart r s End f a b = b
    apart r s (More x xs) f (m, q, adds, over) (inl b) = node-apart law None m r q x f adds b
    apart r s (More x xs) f (m, q, adds, over) (inr (n, p, other, rest)) =
        over-apart (joins-sharp law n) p s (listed xs) f
        (as-other (λ o k. Over (Joins o) k (listed xs) s) (adds-one law None m n r q p x adds other) over) rest

-- ---- words

drops-sharp : Sharp Drops FaultOfWord
drops-sharp = record {
  one = λ r s t x p q.
      p.2 ∙ (ap (λ u. record r { rules = record r.rules { uncounted = u } })
      (some-one (with_item x r.rules.uncounted) p.0 q.0 p.1 q.1) ∙ sym q.2);
  fault = λ r x f g p q. p.0 ∙ sym q.0;
  apart = λ r s x f p q. none-some (with_item x r.rules.uncounted) p.0 p.1 q.1;
}

-- ---- kinds

declares-one : DenotesOne → (k : UnitKind) (m n : MemberParts) (r s t : Reading) (item : Item) →
    Declares k m r item s → Declares k n r item t → s ≡ t
declares-one law k m n r s t item p q =
    p.adds ∙ (ap (λ (x : MemberParts). with_kind k x.name r) (says-one law item m n p.says.0 q.says.0) ∙ sym q.adds)

sorts-sharp : DenotesOne → (k : UnitKind) → Sharp (Sorts k) (FaultOfSort k)
sorts-sharp law k = record { one = one; fault = fault; apart = apart }
  where
    one : (r s t : Reading) (x : Item) → Sorts k r x s → Sorts k r x t → s ≡ t
    one r s t x (inl a) (inl b) = a.1 ∙ sym b.1
    one r s t x (inl a) (inr b) = absurd (true-false (is_meridian k x) a.0 b.0)
    one r s t x (inr a) (inl b) = absurd (true-false (is_meridian k x) b.0 a.0)
    one r s t x (inr (z, m, a)) (inr (y, n, b)) = declares-one law k m n r s t x a b

    fault : (r : Reading) (x : Item) (f g : RulesRefusal) → FaultOfSort k r x f → FaultOfSort k r x g → f ≡ g
    fault r x f g (z, inl a) (y, inl b) = a.0 ∙ sym b.0
    fault r x f g (z, inl a) (y, inr (n, says, b, c)) = absurd (a.1 n says)
    fault r x f g (z, inr (m, says, a, d)) (y, inl b) = absurd (b.1 m says)
    fault r x f g (z, inr (m, says, a, d)) (y, inr (n, other, b, c)) = a ∙ sym b

    apart : (r s : Reading) (x : Item) (f : RulesRefusal) → Sorts k r x s → ¬ (FaultOfSort k r x f)
    apart r s x f (inl a) (z, b) = true-false (is_meridian k x) a.0 z
    apart r s x f (inr (z, m, a)) (y, inl b) = b.1 m a.says
    apart r s x f (inr (z, m, a)) (y, inr (n, says, b, c)) =
        a.new (subst (λ (o : MemberParts). OneIs (λ y. kind_node o.name ≡ y) r.seen) (says-one law x n m says.0 a.says.0) c)

kinds-sharp : DenotesOne → Sharp SortsAll FaultOfKind
kinds-sharp law = record { one = one; fault = fault; apart = apart }
  where
    one : (r s t : Reading) (items : Siblings) → SortsAll r items s → SortsAll r items t → s ≡ t
    one r s t End a b = absurd a
    one r s t (More x xs) (k, is, a) (j, other, b) =
        over-one (sorts-sharp law j) r s t (listed xs) (subst (λ o. Over (Sorts o) r (listed xs) s) (some-one _ k j is other) a) b

    fault : (r : Reading) (items : Siblings) (f g : RulesRefusal) → FaultOfKind r items f → FaultOfKind r items g → f ≡ g
    fault r End f g a b = absurd a
    fault r (More x xs) f g (inl a) (inl b) = a.0 ∙ sym b.0
    fault r (More x xs) f g (inl a) (inr (j, other, b)) = absurd (none-some _ j other a.1)
    fault r (More x xs) f g (inr (k, is, a)) (inl b) = absurd (none-some _ k is b.1)
    fault r (More x xs) f g (inr (k, is, a)) (inr (j, other, b)) =
        over-fault (sorts-sharp law j) r (listed xs) f g
        (subst (λ o. FaultOver (Sorts o) (FaultOfSort o) r (listed xs) f) (some-one _ k j is other) a) b

    apart : (r s : Reading) (items : Siblings) (f : RulesRefusal) → SortsAll r items s → ¬ (FaultOfKind r items f)
    apart r s End f a b = b
    apart r s (More x xs) f (k, is, a) (inl b) = none-some _ k is b.1
    apart r s (More x xs) f (k, is, a) (inr (j, other, b)) =
        over-apart (sorts-sharp law j) r s (listed xs) f
        (subst (λ o. Over (Sorts o) r (listed xs) s) (some-one _ k j is other) a) b

-- ---- statements

apart-words : (first second raw : List ℕ) → length (str_to_ascii_lowercase first) ≢ length (str_to_ascii_lowercase second) →
    IsTrue (str_eq_ignore_ascii_case first raw) → ¬ (IsTrue (str_eq_ignore_ascii_case second raw))
apart-words first second raw other p q =
    let a = (bytes_eq-Decides (str_to_ascii_lowercase first) (str_to_ascii_lowercase raw)).0 p in
    let b = (bytes_eq-Decides (str_to_ascii_lowercase second) (str_to_ascii_lowercase raw)).0 q in
    other (ap length (a ∙ sym b))

same-uncounted : (raw : List ℕ) → IsTrue (str_eq_ignore_ascii_case (codes "SAME") raw) →
    ¬ (IsTrue (str_eq_ignore_ascii_case (codes "UNCOUNTED") raw))
same-uncounted raw = apart-words (codes "SAME") (codes "UNCOUNTED") raw (λ (k : ◌≡◌ {A = ℕ} 4 9). omega (arith, k))

uncounted-kind : (raw : List ℕ) → IsTrue (str_eq_ignore_ascii_case (codes "UNCOUNTED") raw) →
    ¬ (IsTrue (str_eq_ignore_ascii_case (codes "KIND") raw))
uncounted-kind raw = apart-words (codes "UNCOUNTED") (codes "KIND") raw (λ (k : ◌≡◌ {A = ℕ} 9 4). omega (arith, k))

first-of : List ℕ → ℕ
first-of [] = 0
first-of (b ∷ bs) = b

same-kind : (raw : List ℕ) → IsTrue (str_eq_ignore_ascii_case (codes "SAME") raw) →
    ¬ (IsTrue (str_eq_ignore_ascii_case (codes "KIND") raw))
unfolding first-of
same-kind raw p q =
    let a = (bytes_eq-Decides (str_to_ascii_lowercase (codes "SAME")) (str_to_ascii_lowercase raw)).0 p in
    let b = (bytes_eq-Decides (str_to_ascii_lowercase (codes "KIND")) (str_to_ascii_lowercase raw)).0 q in
    let k : ◌≡◌ {A = ℕ} 115 107 = ap first-of (a ∙ sym b) in
    omega (arith, k)

statements-sharp : DenotesOne → Sharp States FaultOfStatement
statements-sharp law = record {
  one = λ r s t x a b.
      grind (
        arith,
        same-uncounted (raw_of x),
        uncounted-kind (raw_of x),
        same-kind (raw_of x),
        (set-sharp law).one r s t (arguments x),
        over-one drops-sharp r s t (listed (arguments x)),
        (kinds-sharp law).one r s t (arguments x),
      );
  fault = λ r x f g a b.
      grind (
        arith,
        same-uncounted (raw_of x),
        uncounted-kind (raw_of x),
        same-kind (raw_of x),
        (set-sharp law).fault r (arguments x) f g,
        over-fault drops-sharp r (listed (arguments x)) f g,
        (kinds-sharp law).fault r (arguments x) f g,
      );
  apart = λ r s x f a b.
      grind (
        arith,
        same-uncounted (raw_of x),
        uncounted-kind (raw_of x),
        same-kind (raw_of x),
        (set-sharp law).apart r s (arguments x) f,
        over-apart drops-sharp r s (listed (arguments x)) f,
        (kinds-sharp law).apart r s (arguments x) f,
      );
}

-- ---- lines

abbrev pub NodeOne : Type 0
NodeOne = (bytes : List ℕ) (i j : Item) → SpellsNode bytes i → SpellsNode bytes j → i ≡ j

abbrev pub RefusalOne : Type 0
RefusalOne = (bytes : List ℕ) (n m place other : ℕ) → RefusesText bytes n place → RefusesText bytes m other → (n ≡ m) × (place ≡ other)

abbrev pub TextApart : Type 0
TextApart = (bytes : List ℕ) (item : Item) (n place : ℕ) → SpellsNode bytes item → ¬ (RefusesText bytes n place)

lines-sharp : DenotesOne → NodeOne → RefusalOne → TextApart → Sharp Reads FaultOfLine
lines-sharp law node refusal text = record { one = one; fault = fault; apart = apart }
  where
    one : (r s t : Reading) (x : List ℕ) → Reads r x s → Reads r x t → s ≡ t
    one r s t x (inl a) (inl b) = a.1 ∙ sym b.1
    one r s t x (inl a) (inr b) = absurd (true-false (is_idle x) a.0 b.0)
    one r s t x (inr a) (inl b) = absurd (true-false (is_idle x) b.0 a.0)
    one r s t x (inr (busy, i, p, a)) (inr (other, j, q, b)) =
        (statements-sharp law).one (next r) s t j (subst (λ o. States (next r) o s) (node x i j p q) a) b

    fault : (r : Reading) (x : List ℕ) (f g : RulesRefusal) → FaultOfLine r x f → FaultOfLine r x g → f ≡ g
    fault r x f g (busy, inl a) (other, inl b) =
        let line : f.line ≡ g.line = a.0 ∙ sym b.0 in
        let e = refusal x f.number g.number f.place g.place a.1 b.1 in
        let number : f.number ≡ g.number = e.0 in
        let place : f.place ≡ g.place = e.1 in
        λ i. record { line = line i; number = number i; place = place i }
    fault r x f g (busy, inl a) (other, inr (j, q, b)) = absurd (text x j f.number f.place q a.1)
    fault r x f g (busy, inr (i, p, a)) (other, inl b) = absurd (text x i g.number g.place p b.1)
    fault r x f g (busy, inr (i, p, a)) (other, inr (j, q, b)) =
        (statements-sharp law).fault (next r) j f g (subst (λ o. FaultOfStatement (next r) o f) (node x i j p q) a) b

    apart : (r s : Reading) (x : List ℕ) (f : RulesRefusal) → Reads r x s → ¬ (FaultOfLine r x f)
    apart r s x f (inl a) (other, b) = true-false (is_idle x) a.0 other
    apart r s x f (inr (busy, i, p, a)) (other, inl b) = text x i f.number f.place p b.1
    apart r s x f (inr (busy, i, p, a)) (other, inr (j, q, b)) =
        (statements-sharp law).apart (next r) s j f (subst (λ o. States (next r) o s) (node x i j p q) a) b

-- ---- files

abbrev pub LinesOne : Type 0
LinesOne = (bytes : List ℕ) (a b : List (List ℕ)) → AreLines bytes a → AreLines bytes b → a ≡ b

pub files-sharp : DenotesOne → NodeOne → RefusalOne → TextApart → LinesOne → Sharp ReadsFile RefusesFile
files-sharp law node refusal text lines =
    let h = lines-sharp law node refusal text in record {
      one = λ r s t bytes a b. over-one h (record r { line = 0 }) s t b.0
          (subst (λ o. Over Reads (record r { line = 0 }) o s) (lines bytes a.0 b.0 a.1 b.1) a.2) b.2;
      fault = λ r bytes f g a b. over-fault h (record r { line = 0 }) b.0 f g
          (subst (λ o. FaultOver Reads FaultOfLine (record r { line = 0 }) o f) (lines bytes a.0 b.0 a.1 b.1) a.2) b.2;
      apart = λ r s bytes f a b. over-apart h (record r { line = 0 }) s b.0 f
          (subst (λ o. Over Reads (record r { line = 0 }) o s) (lines bytes a.0 b.0 a.1 b.1) a.2) b.2;
    }
