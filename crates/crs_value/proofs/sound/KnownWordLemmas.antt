-- A sound item breaks no check by itself, and each word in it is known.
use Rattle.std.proofs.Common.{◌≡◌, ℕ, true, inl, inr, List, [], ◌∷◌, refl, sym}
use Rattle.std.proofs.lemmas.Bool.{or_cases}
use Rattle.std.specs.Str.{str_eq_ignore_ascii_case, str_to_ascii_lowercase}
use Rattle.std.proofs.lemmas.Slice.Eq.{bytes_eq-Decides}
use Rattle.crs_text.specs.declared.keyword.Keyword.{Keyword}
use Rattle.crs_text.specs.inner.Prelude.{spelling_of, Item, leaf, node, arguments, raw_of, RefusedAt, Kind, number, text, word}
use Rattle.crs_shape.specs.declared.class.Class.{Class}
use Rattle.crs_shape.specs.declared.class.Class.TheVariants as class
use Rattle.crs_shape.specs.inner.Prelude.{is_keyword, is_one_of, keywords_of, Shaped, SpellsWord, unit_word}
use Rattle.crs_shape.specs.declared.direction.Direction.{Direction}
use Rattle.crs_shape.specs.declared.system_type.SystemType.{SystemType}
use Rattle.crs_shape.specs.declared.unit_kind.UnitKind.{UnitKind}
use Rattle.crs_shape.specs.declared.unit_kind.UnitKind.TheVariants as kinds
use Rattle.crs_value.specs.Checks.{at, Own}
use Rattle.crs_value.specs.inner.ReadOnce.{IsSound, IsUnitClass}
use Rattle.crs_value.specs.Reading.{those}
use Rattle.crs_value.specs.Reads.{ReadsType, ReadsDirection, ReadsKind}
use Rattle.crs_value.proofs.found.ArgumentLemmas.{same_class}

-- a number, a text or a word has no class of which this holds
pub not-leaf : (P : Class → Type 0) → ¬ (P class.Number) → ¬ (P class.Text) → ¬ (P class.Word) → (c : Class) (kind : Kind) (place : ℕ) (raw : List ℕ) →
    Shaped c (leaf kind place raw) → P c → ⊥
not-leaf P a b d c number place raw shaped h = a (rw (same_class class.Number c shaped) h)
not-leaf P a b d c text place raw shaped h = b (rw (same_class class.Text c shaped) h)
not-leaf P a b d c word place raw shaped h = d (rw (same_class class.Word c shaped) h)

-- a sound item breaks no check by itself
pub own-free : (c : Class) (item : Item) (fault : RefusedAt) → IsSound c item → Own c item fault → ⊥
unfolding Own
own-free c (leaf kind place raw) fault sound own =
    not-leaf (λ d. Own d (leaf kind place raw) fault) (λ h. h) (λ h. h) (λ h. h) c kind place raw sound.shaped own
own-free c (node place keyword square first others close) fault sound own = sound.unbroken fault (inl own)

pub known-direction : (item w : Item) (more : List Item) → IsSound class.Axis item → those class.Axis class.Word (arguments item) ≡ w ∷ more →
    ((d : Direction) → ¬ (ReadsDirection w d)) → ⊥
unfolding Own
known-direction item w more sound e none = own-free class.Axis item (at 21 w) sound (rw e (inl (refl, none)))

pub known-type : (item w : Item) (more : List Item) → IsSound class.CoordinateSystem item → those class.CoordinateSystem class.Word (arguments item) ≡ w ∷ more →
    ((t : SystemType) → ¬ (ReadsType w t)) → ⊥
unfolding Own
known-type item w more sound e none = own-free class.CoordinateSystem item (at 21 w) sound (rw e (inl (refl, none)))

abbrev pub NoneOf : List Keyword → List ℕ → Type 0
NoneOf [] raw = Unit {0}
NoneOf (k ∷ ks) raw = ¬ (SpellsWord raw (spelling_of k)) × NoneOf ks raw

spelled : (w raw : List ℕ) → str_eq_ignore_ascii_case w raw ≡ true → SpellsWord raw w
spelled w raw e = sym ((bytes_eq-Decides (str_to_ascii_lowercase w) (str_to_ascii_lowercase raw)).0 e)

none-of : (ks : List Keyword) (raw : List ℕ) → NoneOf ks raw → is_one_of ks raw ≡ true → ⊥
none-of [] raw none e = cc
none-of (k ∷ ks) raw none e = elim (or_cases _ (is_one_of ks raw) e) [ inl f ↦ none.0 (spelled (spelling_of k) raw f) | inr f ↦ none-of ks raw none.1 f ]

unit-words : (c : Class) (raw : List ℕ) → IsUnitClass c → ((k : UnitKind) → ¬ (SpellsWord raw (unit_word k))) → NoneOf (keywords_of c) raw
unit-words class.LengthUnit raw is none = (none kinds.Length, (none kinds.Plain, tt))
unit-words class.AngleUnit raw is none = (none kinds.Angle, (none kinds.Plain, tt))
unit-words class.ScaleUnit raw is none = (none kinds.Scale, tt)
unit-words class.PlainUnit raw is none = (none kinds.Plain, tt)
unit-words class.AxisUnit raw is none = (none kinds.Length, (none kinds.Angle, (none kinds.Plain, tt)))
unit-words other raw is none = absurd is

pub no-keyword : (c : Class) (item : Item) → IsUnitClass c → Shaped c item → NoneOf (keywords_of c) (raw_of item) → ⊥
unfolding is_keyword
no-keyword c (leaf kind place raw) is shaped none = not-leaf IsUnitClass (λ h. h) (λ h. h) (λ h. h) c kind place raw shaped is
no-keyword c (node place keyword square first others close) is shaped none = none-of (keywords_of c) keyword none shaped.0

pub known-kind : (c : Class) (item : Item) → IsUnitClass c → Shaped c item → ((k : UnitKind) → ¬ (ReadsKind item k)) → ⊥
known-kind c item is shaped none = no-keyword c item is shaped (unit-words c (raw_of item) is none)
