-- Single items that are made: texts, numbers, words and codes.
use Rattle.std.proofs.Common.{◌≡◌, ℕ, ◌&&◌, Bool, true, false, IsTrue, List, length, if◌then◌else◌, refl, sym, ◌∙◌, arith, nat_le}
use Rattle.std.specs.List.{list_all}
use Rattle.std.proofs.lemmas.Bool.{le-leb, leb-true, and_parts}
use Rattle.crs_decimal.specs.inner.Prelude.{Denotes, IsInBounds, IsPlain, plain, is_digit, Value, IsNormal, exact}
use Rattle.crs_text.specs.inner.Prelude.{leaf, Kind, number, text, word, IsSingle, IsWord}
use Rattle.crs_shape.specs.declared.class.Class.{Class}
use Rattle.crs_shape.specs.declared.class.Class.TheVariants as class
use denote.Enum.Bare.{sameb}
use Rattle.crs_shape.specs.contracts.class.Class.{the_type}
use Rattle.crs_shape.specs.inner.Prelude.{class_of_kind}
use Rattle.crs_value.specs.declared.values.level.Level.{Level}
use Rattle.crs_value.specs.inner.Prelude.{IsText}
use Rattle.crs_normal.specs.inner.LowerLaws.{LowerLaws}
use Rattle.crs_normal.specs.Normal.{IsNumberIn, IsSingleIn, IsWordIn, IsShort}
use Rattle.crs_normal.specs.inner.SpelledItems.{is_short, number_item, text_item, word_item}
use Rattle.crs_normal.proofs.made.NodeLemmas.{Made}
use Rattle.crs_normal.proofs.texts.ItemLemmas.{run-single}

leaf-made : (level : Level) (most : ℕ) (parent : Class) (kind : Kind) (raw : List ℕ) → IsSingle kind raw →
    IsSingleIn parent kind raw →
    IsTrue (sameb the_type (class_of_kind kind) (class_of_kind kind)) → Made level most parent (class_of_kind kind)
    (leaf kind 0 raw)
leaf-made level most parent kind raw formed normal same = record {
  named = refl;
  fine = λ p. record { formed = formed; within = omega arith; shaped = same; unbroken = λ fault b. b; normal = normal };
}

pub text-made : (level : Level) (most : ℕ) (parent : Class) (raw : List ℕ) → IsText raw →
    Made level most parent class.Text (text_item raw)
text-made level most parent raw h = leaf-made level most parent text raw h tt refl

number-in : (c : Class) (raw : List ℕ) → IsPlain raw → IsNumberIn c raw
number-in class.Identifier raw h = tt
number-in c raw h = h

pub number-made : LowerLaws → (level : Level) (most : ℕ) (parent : Class) (v : Value) → IsNormal v →
    Made level most parent class.Number (number_item v)
number-made l level most parent v n =
    let d : Denotes (plain v) (exact v) = l.denotes v n in
    leaf-made level most parent number (plain v) (run-single (plain v) (l.run (plain v) (d.0, d.1)) (d.0, d.1, d.2))
    (number-in parent (plain v) (l.is_plain v n)) refl

pub word-made : (level : Level) (most : ℕ) (parent : Class) (raw : List ℕ) → IsWord raw → IsWordIn parent raw →
    Made level most parent class.Word (word_item raw)
word-made level most parent raw h w = leaf-made level most parent word raw h w refl

-- ---- codes

-- a code or version of this kind
abbrev pub IsCodeKind : Kind → List ℕ → Type 0
IsCodeKind number raw = IsShort raw
IsCodeKind text raw = ¬ (IsShort raw) × IsText raw
IsCodeKind word raw = ⊥

pub short-true : (raw : List ℕ) → IsShort raw → is_short raw ≡ true
short-true raw h = rw h.digits (rw (le-leb 1 (length raw) h.some) (rw (le-leb (length raw) 18 h.few) refl))

pub true-short : (raw : List ℕ) → is_short raw ≡ true → IsShort raw
true-short raw h =
    let s = and_parts (list_all is_digit raw && nat_le 1 (length raw)) (nat_le (length raw) 18) h in
    let t = and_parts (list_all is_digit raw) (nat_le 1 (length raw)) s.0 in
    record { digits = t.0; some = leb-true 1 (length raw) t.1; few = leb-true (length raw) 18 s.1 }

-- the kind that a code or version is written as
abbrev pub code_kind : List ℕ → Kind
code_kind raw = if is_short raw then number else text

pub code-kind : (raw : List ℕ) → IsText raw → IsCodeKind (code_kind raw) raw
code-kind raw h = by (is_short raw) refl
  where
    by : (b : Bool) → is_short raw ≡ b → IsCodeKind (if b then number else text) raw
    by true e = true-short raw e
    by false e = (λ s. let k : true ≡ false = sym (short-true raw s) ∙ e in cc, h)

code-single : LowerLaws → (kind : Kind) (raw : List ℕ) → IsCodeKind kind raw → IsSingle kind raw
code-single l number raw h =
    let b : IsInBounds raw = l.digits_alone raw h.digits h.some h.few in
    run-single raw (l.run raw (b.0, b.1)) b
code-single l text raw h = h.1
code-single l word raw h = absurd h

pub code-made : LowerLaws → (level : Level) (most : ℕ) (kind : Kind) (raw : List ℕ) → IsCodeKind kind raw →
    Made level most class.Identifier (class_of_kind kind) (leaf kind 0 raw)
code-made l level most word raw h = absurd h
code-made l level most kind raw h = leaf-made level most class.Identifier kind raw (code-single l kind raw h) tt refl
