-- A bridge: texts in order by where they are among their bytes.
use Rattle.std.specs.Prelude.{◌≡◌, ◌≤◌, ℕ, List, length, map, slice_range}
use Rattle.crs_value.specs.Sound.{Each}
use Rattle.crs_normal.specs.Normal.{Ascends}
use Rattle.crs_normal.specs.inner.SpelledItems.{put}
use Rattle.crs_writer.specs.declared.spans.Span.{Span}

-- the text that a span shows among bytes
abbrev pub text_at : List ℕ → Span → List ℕ
text_at bytes span = slice_range bytes span.start span.end

-- the texts that spans show among bytes, one by one
abbrev pub texts_at : List ℕ → List Span → List (List ℕ)
texts_at bytes spans = map (text_at bytes) spans

-- the span is of these bytes
abbrev pub IsWithin : List ℕ → Span → Type 0
IsWithin bytes span = (span.start ≤ span.end) × (span.end ≤ length bytes)

-- each of these spans is of these bytes
abbrev pub AreWithin : List ℕ → List Span → Type 0
AreWithin bytes spans = Each (IsWithin bytes) spans

-- the spans are of these bytes, and their texts are in ascending order
pub record AreInOrder (bytes : List ℕ) (spans : List Span) : Type 0 where
  pub within : AreWithin bytes spans
  pub ascend : Ascends (λ text. text) (texts_at bytes spans)

-- one more text is put among those in order
pub record IsPutAmong (text bytes : List ℕ) (spans : List Span) (after : List ℕ)
    (others : List Span) : Type 0 where
  pub order : AreInOrder after others
  pub texts : texts_at after others ≡ put (λ b. b) text (texts_at bytes spans)
