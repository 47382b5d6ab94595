-- A ledger gets one more line.
use Rattle.std.proofs.Common.{◌≡◌, ◌+◌, ◌++◌, ◌∷◌, [], ℕ, List, Bool, true, false, length, ap, sym, refl, ◌∙◌, arith, length-append, append-nil, append_assoc, cond, if◌then◌else◌, map}
use Rattle.std.specs.List.{list_all}
use Rattle.std.proofs.lemmas.List.{length-map, map-append}
use Rattle.std.proofs.lemmas.List.Sums.{sum_by-append}
use Rattle.crs_text.specs.inner.Prelude.{is_white}
use Rattle.crs_group.specs.Catalogue.{CatalogueParts, line_of}
use Rattle.crs_group.specs.inner.GroupReading.{IsLedgerOf, IsLedgerOfNamed, IsNamed, LedgerParts, blank_count, no_lines, text_in}
use Rattle.crs_group.specs.GroupTexts.{IsCatalogueBy, IsCatalogueOfBy, then_line, IsPlacedAs, PlacedLine}
use Rattle.crs_streams.specs.inner.Prelude.{blank_in}
use Rattle.crs_group.specs.GroupOutput.{numbered}
use Rattle.crs_group.specs.Names.{NamedText, blank_of, blank_texts, blanks_from, name_of, names_from, names_in, text_behind, texts_in}
use Rattle.crs_value.specs.Sound.{Each}
use Rattle.crs_group.specs.declared.placed.Placed.{Placed}
use Rattle.crs_value.specs.declared.values.level.Level.{Level}
use Rattle.crs_group.proofs.CatalogueLemmas.{lines-added, none-added}

pub numbered-more : (number : ℕ) (texts : List (List ℕ)) (text : List ℕ)
    → numbered number (texts ++ text ∷ []) ≡ numbered number texts ++ line_of (number + length texts) text ∷ []
numbered-more number [] text = grind arith
numbered-more number (first ∷ texts) text = grind (arith, numbered-more (number + 1) texts text)

each-last : {A : Type 0} (P : A → Type 0) (xs : List A) (x : A) → Each P (xs ++ x ∷ []) → P x
each-last P [] x each = each.0
each-last P (y ∷ ys) x each = each-last P ys x each.1

-- the count of one text is that of its place
one-blank : (text : List ℕ) (place : Placed) → IsPlacedAs text place
    → ◌≡◌ {A = ℕ} (cond (list_all is_white text) 1 0) (blank_count place)
one-blank text place is = grind arith

-- the text of one more line is behind those of the others
pub texts-more : (named : Bool) (lines : List (List ℕ)) (line : List ℕ)
    → texts_in named (lines ++ line ∷ []) ≡ texts_in named lines ++ text_in named line ∷ []
texts-more true lines line = map-append text_behind lines (line ∷ [])
texts-more false lines line = refl

pub texts-length : (named : Bool) (lines : List (List ℕ)) → length (texts_in named lines) ≡ length lines
texts-length true lines = length-map lines text_behind
texts-length false lines = refl

names-further : (number : ℕ) (lines : List (List ℕ)) (line : List ℕ)
    → names_from number (lines ++ line ∷ []) ≡ names_from number lines ++ name_of (number + length lines) line ∷ []
names-further number [] line = grind arith
names-further number (first ∷ lines) line = grind (arith, names-further (number + 1) lines line)

-- the name of one more line is behind those of the others
pub names-more : (named : Bool) (lines : List (List ℕ)) (line : List ℕ) (before after : List (List ℕ)) (number : ℕ)
    → number ≡ 1 + length lines → IsNamed named number line before after → before ≡ names_in named lines
    → after ≡ names_in named (lines ++ line ∷ [])
names-more true lines line before after number place is so_far = rw (is, place, so_far, names-further) refl
names-more false lines line before after number place is so_far = is ∙ so_far

-- the number of one more blank line is behind those of the others
pub blanks-more : (named : Bool) (number : ℕ) (lines : List (List ℕ)) (line : List ℕ)
    → blanks_from named number (lines ++ line ∷ []) ≡ blanks_from named number lines ++ blank_of named (number + length lines) line
blanks-more named number [] line = grind (arith, append-nil)
blanks-more named number (first ∷ lines) line =
    grind (arith, append_assoc, blanks-more named (number + 1) lines line)

-- and of one more blank text
blank-texts-more : (number : ℕ) (texts : List NamedText) (one : NamedText)
    → blank_texts number (texts ++ one ∷ [])
    ≡ blank_texts number texts ++ (if list_all is_white one.text then (number + length texts) ∷ [] else [])
blank-texts-more number [] one = grind (arith, append-nil)
blank-texts-more number (first ∷ texts) one = grind (arith, append_assoc, blank-texts-more (number + 1) texts one)

abbrev pub ledger_of : CatalogueParts → List (List ℕ) → List ℕ → ℕ → ℕ → LedgerParts
ledger_of catalogue names blanks lines blank =
    record { catalogue = catalogue; names = names; blanks = blanks; lines = lines; blank = blank }

module _ (Form : Level → List ℕ → List ℕ → Type 0) (Share : Level → PlacedLine → PlacedLine → Type 0) where
  pub blank-more : (texts : List (List ℕ)) (text : List ℕ) (before after : CatalogueParts) (number : ℕ) (place : Placed)
      → IsCatalogueOfBy Form Share (numbered 1 texts) before
      → ((placed : List PlacedLine) → IsCatalogueBy Form Share placed before → IsCatalogueBy Form Share (then_line placed number text place) after)
      → blank_in (texts ++ text ∷ []) ≡ blank_in texts + blank_count place
  blank-more texts text before after number place of_lines step =
      let whole = step of_lines.placed of_lines.whole in
      let placed_as : IsPlacedAs text place = each-last (λ p. IsPlacedAs p.line.text p.place) of_lines.placed
      (record { line = line_of number text; place = place }) whole.0.each in
      sum_by-append (λ t. cond (list_all is_white t) 1 0) texts (text ∷ [])
      ∙ ap (λ n. blank_in texts + n) (omega (arith, one-blank text place placed_as))

  -- the ledger of no lines
  pub none-ledger : (named : Bool) (level : Level) → IsLedgerOf Form Share named [] (no_lines level)
  none-ledger named level = record {
    of_lines = record { placed = []; are_lines = grind arith; whole = none-added Form Share level };
    names = grind arith;
    blanks = refl;
    lines = refl;
    blank = grind arith;
  }

  -- the ledger of no texts
  pub none-named : (level : Level) → IsLedgerOfNamed Form Share [] (no_lines level)
  none-named level = record {
    of_texts = record { placed = []; are_lines = refl; whole = none-added Form Share level };
    names = refl;
    blanks = refl;
    lines = refl;
  }

  -- the ledger of one more line
  pub ledger-more : (named : Bool) (lines : List (List ℕ)) (line : List ℕ) (before after : LedgerParts) (place : Placed)
      → IsLedgerOf Form Share named lines before
      → ((placed : List PlacedLine) → IsCatalogueBy Form Share placed before.catalogue →
      IsCatalogueBy Form Share (then_line placed (before.lines + 1) (text_in named line) place) after.catalogue)
      → IsNamed named (before.lines + 1) line before.names after.names
      → after.blanks ≡ before.blanks ++ blank_of named (before.lines + 1) line
      → after.lines ≡ before.lines + 1 → after.blank ≡ before.blank + blank_count place
      → IsLedgerOf Form Share named (lines ++ line ∷ []) after
  ledger-more named lines line before after place ledger step names blanks counted blank =
      let texts = texts_in named lines in
      let text = text_in named line in
      let count : before.lines + 1 ≡ 1 + length lines = omega (arith, ledger.lines) in
      let place_is : before.lines + 1 ≡ 1 + length texts = omega (arith, ledger.lines, texts-length named lines) in
      let whole : texts_in named (lines ++ line ∷ []) ≡ texts ++ text ∷ [] = texts-more named lines line in
      record {
        of_lines = rw (whole, numbered-more, ← place_is)
            (lines-added Form Share before.catalogue after.catalogue (before.lines + 1) text place step (numbered 1 texts)
            ledger.of_lines);
        names = names-more named lines line before.names after.names (before.lines + 1) count names ledger.names;
        blanks = rw (blanks, ledger.blanks, blanks-more, count) refl;
        lines = omega (arith, counted, ledger.lines, length-append lines (line ∷ []));
        blank = rw (blank, ledger.blank, whole)
            (sym (blank-more texts text before.catalogue after.catalogue (before.lines + 1) place ledger.of_lines step));
      }

  -- as the code counts
  pub ledger-step : (named : Bool) (lines : List (List ℕ)) (line text : List ℕ) (now : LedgerParts)
      (before after : CatalogueParts) (names further : List (List ℕ)) (blanks kept : List ℕ) (number blank count : ℕ) (place : Placed)
      → ledger_of before names blanks number blank ≡ now → text ≡ text_in named line
      → ((placed : List PlacedLine) → IsCatalogueBy Form Share placed before →
      IsCatalogueBy Form Share (then_line placed (number + 1) text place) after)
      → IsNamed named (number + 1) line names further
      → kept ≡ blanks ++ blank_of named (number + 1) line
      → count ≡ blank_count place → IsLedgerOf Form Share named lines now
      → IsLedgerOf Form Share named (lines ++ line ∷ []) (ledger_of after further kept (number + 1) (blank + count))
  ledger-step named lines line text now before after names further blanks kept number blank count place is own step named_so blank_so counted ledger =
      ledger-more named lines line (ledger_of before names blanks number blank)
      (ledger_of after further kept (number + 1) (blank + count)) place
      (rw is ledger) (rw own at step) named_so blank_so refl (ap (λ n. blank + n) counted)

  -- the ledger of one more text by its name
  pub named-step : (texts : List NamedText) (one : NamedText) (now : LedgerParts)
      (before after : CatalogueParts) (names further : List (List ℕ)) (blanks kept : List ℕ) (number blank count : ℕ) (place : Placed)
      → ledger_of before names blanks number blank ≡ now
      → ((placed : List PlacedLine) → IsCatalogueBy Form Share placed before →
      IsCatalogueBy Form Share (then_line placed (number + 1) one.text place) after)
      → further ≡ names ++ one.name ∷ []
      → kept ≡ blanks ++ (if list_all is_white one.text then (number + 1) ∷ [] else [])
      → IsLedgerOfNamed Form Share texts now
      → IsLedgerOfNamed Form Share (texts ++ one ∷ []) (ledger_of after further kept (number + 1) (blank + count))
  named-step texts one now before after names further blanks kept number blank count place is step named_so blank_so ledger =
      let own : IsLedgerOfNamed Form Share texts (ledger_of before names blanks number blank) = rw is ledger in
      let words = map (λ (t : NamedText). t.text) texts in
      let counted : number + 1 ≡ 1 + length texts = omega (arith, own.lines) in
      let place_is : number + 1 ≡ 1 + length words = omega (arith, own.lines, length-map texts (λ (t : NamedText). t.text)) in
      record {
        of_texts = rw (map-append (λ (t : NamedText). t.text) texts (one ∷ []), numbered-more, ← place_is)
            (lines-added Form Share before after (number + 1) one.text place step (numbered 1 words) own.of_texts);
        names = rw (named_so, own.names) (sym (map-append (λ (t : NamedText). t.name) texts (one ∷ [])));
        blanks = rw (blank_so, own.blanks, blank-texts-more, ← counted) refl;
        lines = omega (arith, own.lines, length-append texts (one ∷ []));
      }
