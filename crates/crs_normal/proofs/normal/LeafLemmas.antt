-- Texts and numbers, and nodes of one text or one number, are the one form of what is read from them.
use Rattle.std.proofs.Common.{◌≡◌, ℕ, true, false, List, [], ◌∷◌, refl, ap}
use Rattle.crs_decimal.specs.inner.Prelude.{Denotes, IsPlain, plain, Value, IsNormal, exact}
use Rattle.crs_text.specs.inner.Prelude.{Item, leaf, node, Kind, number, text, word}
use Rattle.crs_shape.specs.declared.class.Class.{Class}
use Rattle.crs_shape.specs.declared.class.Class.TheVariants as class
use Rattle.crs_shape.specs.inner.Prelude.{is_keyword, class_of_kind, one, slots_of}
use Rattle.crs_value.specs.inner.Prelude.{ReadsText, ReadsNumber, ReadsTextOf, ReadsNumberOf}
use Rattle.crs_value.specs.declared.values.level.Level.{Level}
use Rattle.crs_normal.specs.Normal.{IsNumberIn, IsSingleIn, IsFirstKeyword}
use Rattle.crs_normal.specs.inner.SpelledItems.{number_item, number_node, text_item, text_node}
use Rattle.crs_normal.proofs.normal.FormLemmas.{Form, by-slots, one-in, spelled-by}

-- the law of plain spellings: a normal value has just one
abbrev pub PlainIsOne : Type 0
PlainIsOne = (v : Value) (bytes : List ℕ) → IsNormal v → IsPlain bytes → Denotes bytes (exact v) → bytes ≡ plain v

-- no keyword names a number, a text or a word
pub no-keyword : (kind : Kind) (keyword : List ℕ) → is_keyword (class_of_kind kind) keyword ≡ true → ⊥
unfolding is_keyword
no-keyword number keyword is = let h : false ≡ true = is in cc
no-keyword other keyword is = let h : false ≡ true = is in cc

-- an item of the class of a kind is a single one of that kind
pub single-form : {V : Type 0} {level : Level} {c : Class} {spell : V → Item} (kind : Kind) (R : Item → V → Type 0) →
    ((place : ℕ) (raw : List ℕ) (value : V) → IsSingleIn c kind raw → R (leaf kind place raw) value →
    leaf kind 0 raw ≡ spell value) → Form level c (class_of_kind kind) R spell
single-form number R by (leaf number place raw) value good reads = by place raw value good.normal reads
single-form text R by (leaf text place raw) value good reads = by place raw value good.normal reads
single-form word R by (leaf word place raw) value good reads = by place raw value good.normal reads
single-form kind R by (node place keyword square first others close) value good reads =
    absurd (no-keyword kind keyword good.shaped.0)
single-form kind R by item value good reads = let h : false ≡ true = good.shaped in absurd (cc)

pub text-form : (level : Level) (c : Class) → Form level c class.Text ReadsText text_item
text-form level c = single-form text ReadsText (λ place raw value normal reads. ap text_item reads)

-- each number in a node of this class is plain
abbrev pub ArePlain : Class → Type 0
ArePlain c = (raw : List ℕ) → IsNumberIn c raw → IsPlain raw

pub number-form : PlainIsOne → (level : Level) (c : Class) → ArePlain c →
    Form level c class.Number ReadsNumber number_item
number-form law level c plains =
    single-form number ReadsNumber (λ place raw value normal reads.
    ap (leaf number 0) (law value raw reads.0 (plains raw normal) reads.1))

-- ---- a node of one text, and of one number

pub text-node-form : (level : Level) (c d : Class) (keyword : List ℕ) → slots_of d ≡ one class.Text ∷ [] →
    ((bytes : List ℕ) → IsFirstKeyword d bytes → bytes ≡ keyword) →
    Form level c d (ReadsTextOf d) (text_node keyword)
text-node-form level c d keyword slots its =
    by-slots slots (λ item bytes x o reads. spelled-by o (its bytes o.written)
    (one-in o 0 (text-form level d) refl refl x reads refl))

pub number-node-form : PlainIsOne → (level : Level) (c d : Class) (keyword : List ℕ) →
    slots_of d ≡ one class.Number ∷ [] →
    ((bytes : List ℕ) → IsFirstKeyword d bytes → bytes ≡ keyword) → ArePlain d →
    Form level c d (ReadsNumberOf d) (number_node keyword)
number-node-form law level c d keyword slots its plains =
    by-slots slots (λ item bytes x o reads. spelled-by o (its bytes o.written)
    (one-in o 0 (number-form law level d plains) refl refl x reads refl))
