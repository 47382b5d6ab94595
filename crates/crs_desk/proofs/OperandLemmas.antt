-- Both texts of `same` are there where the command takes the line: no row of its matches is without a value.
use Rattle.std.proofs.Common.{arith, ◌≡◌, ℕ, List, [], ◌∷◌, ◌++◌, length, Option, Some, None, IsSome, Bool, true, false, refl, codes, zero, suc, drop, find, encode_utf8, slice_get}
use Rattle.std.specs.List.{fold, list_all}
use Rattle.std.specs.Option.{option_map_or}
use Rattle.std.specs.Str.{chars}
use Rattle.clap.specs.declared.parser.matches.ValueSource.{ValueSource}
use Rattle.clap.specs.declared.parser.matches.ValueSource.TheVariants.{DefaultValue, CommandLine}
use Rattle.clap.specs.declared.builder.value_parser.Reading.{Reading}
use Rattle.clap.specs.Lexer.{long_of, short_of}
use Rattle.clap.specs.Words.{Row, Rule, Shape, Text, first_of}
use Rattle.clap.specs.Simple.{filled, filled_from, help_rule, new_shape, rows_at, with_index}
use Rattle.clap.specs.Walk.{Held, Names, Outcome, Step, Waiting, Walk, done, plain, after_flag, after_step, arg_by_id, arg_by_long, arg_by_short, at_row, attached_value, bundle, bundle_met, bundle_step, default_rows, long_met, long_or_other, more_values, nothing_held, option_met, reacted, reading_by, rows_after, settled, settled_rows, short_met, short_or_plain, used, used_by_id, walk, walk_from, walked, with_default, with_values, without, word_met}
use Rattle.clap.specs.Takes.{bundle_passes, bundle_step_passes, flag_word_passes, flags_pass, is_given, is_valid, default_passes, level_passes, long_passes, option_passes, react_passes, settle_passes, short_passes, step_passes, turn_passes, use_passes, walk_passes, word_passes}
use Rattle.clap.proofs.WalkLemmas.{both}
use Rattle.crs_desk.specs.CommandLine.{flag, level_option, operand, rules_option, verbose_flag}
use Rattle.crs_desk.specs.Requests.{same_of}

-- ---- rows with values

abbrev HasValues : List Text → Type 0
HasValues [] = ⊥
HasValues (v ∷ vs) = Unit {0}

abbrev HaveValues : List Row → Type 0
HaveValues [] = Unit {0}
HaveValues (r ∷ rows) = HasValues r.values × HaveValues rows

more_have_values : (xs ys : List Text) → HasValues xs → HasValues (xs ++ ys)
more_have_values [] ys have = absurd have
more_have_values (x ∷ xs) ys have = tt

joined : (xs ys : List Row) → HaveValues xs → HaveValues ys → HaveValues (xs ++ ys)
joined [] ys left right = right
joined (r ∷ rows) ys left right = (left.0, joined rows ys left.1 right)

at_row_keeps : (id : Text) (change : Row → List Row) (missing rows : List Row) → ((r : Row) → HasValues r.values → HaveValues (change r))
    → HaveValues missing → HaveValues rows → HaveValues (at_row id change missing rows)
at_row_keeps id change missing [] changes fresh have = fresh
at_row_keeps id change missing (r ∷ rows) changes fresh have =
    grind (arith, joined (change r) rows (changes r have.0) have.1, at_row_keeps id change missing rows changes fresh have.1)

with_values_keeps : (id : Text) (how : Reading) (s : ValueSource) (v : Text) (vs : List Text) (rows : List Row)
    → HaveValues rows → HaveValues (with_values id how s (v ∷ vs) rows)
with_values_keeps id how s v vs rows have =
    at_row_keeps id (more_values s (v ∷ vs)) _ rows (λ r own. (more_have_values r.values (v ∷ vs) own, tt)) (tt, tt) have

afresh_keeps : (id : Text) (how : Reading) (v : Text) (vs : List Text) (rows : List Row)
    → HaveValues rows → HaveValues (with_values id how CommandLine (v ∷ vs) (without id rows))
afresh_keeps id how v vs rows have =
    with_values_keeps id how CommandLine v vs (without id rows) (at_row_keeps id (λ _. []) [] rows (λ r own. tt) tt have)

-- ---- arguments whose use leaves no row without a value

abbrev Keeps : Rule → Type 0
Keeps a = (again : Bool) (values : List Text) (rows : List Row) → use_passes again a values rows ≡ true → HaveValues rows → HaveValues (used a values rows)

abbrev IsKept : Option Rule → Type 0
IsKept None = Unit {0}
IsKept (Some a) = Keeps a

abbrev AreKept : List Rule → Type 0
AreKept [] = Unit {0}
AreKept (a ∷ rules) = Keeps a × AreKept rules

operand_keeps : (id : Text) (position : ℕ) → Keeps (with_index position (filled (operand id)))
operand_keeps id position again [] rows passes have = cc
operand_keeps id position again (v ∷ vs) rows passes have = afresh_keeps id _ v vs rows have

level_keeps : (position : ℕ) → Keeps (with_index position (filled level_option))
level_keeps position again [] rows passes have = cc
level_keeps position again (v ∷ vs) rows passes have = afresh_keeps (codes "level") _ v vs rows have

rules_keep : (position : ℕ) → Keeps (with_index position (filled rules_option))
rules_keep position again [] rows passes have = cc
rules_keep position again (v ∷ vs) rows passes have = with_values_keeps (codes "rules") _ CommandLine v vs rows have

files_keep : (position : ℕ) → Keeps (with_index position (filled (flag (codes "files"))))
files_keep position again [] rows passes have = afresh_keeps (codes "files") _ (codes "true") [] rows have
files_keep position again (v ∷ vs) rows passes have = afresh_keeps (codes "files") _ v vs rows have

objects_keep : (position : ℕ) → Keeps (with_index position (filled (flag (codes "json"))))
objects_keep position again [] rows passes have = afresh_keeps (codes "json") _ (codes "true") [] rows have
objects_keep position again (v ∷ vs) rows passes have = afresh_keeps (codes "json") _ v vs rows have

verbose_keeps : (position : ℕ) → Keeps (with_index position (filled verbose_flag))
verbose_keeps position again [] rows passes have = afresh_keeps (codes "verbose") _ (codes "true") [] rows have
verbose_keeps position again (v ∷ vs) rows passes have = afresh_keeps (codes "verbose") _ v vs rows have

kept_found : (p : Rule → Bool) (rules : List Rule) → AreKept rules → IsKept (find p rules)
kept_found p [] kept = tt
kept_found p (a ∷ rules) kept = grind (arith, kept.0, kept_found p rules kept.1)

used_keeps : (found : Option Rule) (again : Bool) (values : List Text) (rows : List Row) → IsKept found
    → option_map_or (λ a. use_passes again a values rows) found true ≡ true → HaveValues rows → HaveValues (used_by_id found values rows)
used_keeps None again values rows kept passes have = have
used_keeps (Some a) again values rows kept passes have = kept again values rows passes have

settled_keeps : (c : List Rule) (again : Bool) (pending : Option (Text × List Text)) (rows : List Row) → AreKept c
    → option_map_or (λ p. option_map_or (λ a. use_passes again a p.1 rows) (arg_by_id c p.0) true) pending true ≡ true
    → HaveValues rows → HaveValues (settled_rows c pending rows)
settled_keeps c again None rows kept passes have = have
settled_keeps c again (Some p) rows kept passes have =
    used_keeps (arg_by_id c p.0) again p.1 rows (kept_found _ c kept) passes have

reacted_keeps : (c : List Rule) (again : Bool) (a : Rule) (values : List Text) (h : Held) → AreKept c → Keeps a
    → react_passes c again a values h ≡ true → HaveValues h.rows → HaveValues (reacted c a values h).rows
reacted_keeps c again a values h kept keeps passes have =
    let each = both (settle_passes c again h) _ passes in
    keeps again values (settled c h).rows each.1 (settled_keeps c again h.pending h.rows kept each.0 have)

-- ---- one word

option_keeps : (c : List Rule) (again : Bool) (a : Rule) (v : Option Text) (h : Held) → AreKept c → Keeps a
    → option_passes c again a v h ≡ true → HaveValues h.rows → HaveValues (option_met c a v h).0.rows
option_keeps c again a (Some v) h kept keeps passes have = reacted_keeps c again a (v ∷ []) h kept keeps passes have
option_keeps c again a None h kept keeps passes have = settled_keeps c again h.pending h.rows kept passes have

long_keeps : (c : List Rule) (again : Bool) (found : Option Rule) (v : Option Text) (h : Held) → AreKept c → IsKept found
    → long_passes c again found v h ≡ true → HaveValues h.rows → HaveValues (long_met c found v h).0.rows
long_keeps c again None v h kept keeps passes have = have
long_keeps c again (Some a) v h kept keeps passes have =
    grind (arith, option_keeps c again a v h kept keeps, reacted_keeps c again a [] h kept keeps)

short_keeps : (c : List Rule) (again : Bool) (found : Option Rule) (rest : Text) (h : Held) (after : Held → Held × Outcome) (test : Held → Bool)
    → AreKept c → IsKept found → ((h : Held) → test h ≡ true → HaveValues h.rows → HaveValues (after h).0.rows)
    → short_passes c again found rest h test ≡ true → HaveValues h.rows → HaveValues (short_met c found rest h after).0.rows
short_keeps c again None rest h after test kept keeps goes_on passes have = have
short_keeps c again (Some a) rest h after test kept keeps goes_on passes have =
    grind (arith, option_keeps c again a (attached_value rest) h kept keeps, reacted_keeps c again a [] h kept keeps, goes_on (reacted c a [] h))

bundle_step_keeps : (c : List Rule) (again : Bool) (x : Option ℕ) (flags : Text) (skip : ℕ) (so_far : Outcome) (h : Held)
    (after : Text → ℕ → Outcome → Held → Held × Outcome) (test : Text → ℕ → Held → Bool) → AreKept c
    → ((flags : Text) (skip : ℕ) (so_far : Outcome) (h : Held) → test flags skip h ≡ true → HaveValues h.rows → HaveValues (after flags skip so_far h).0.rows)
    → bundle_step_passes c again x flags skip h test ≡ true → HaveValues h.rows → HaveValues (bundle_step c x flags skip so_far h after).0.rows
bundle_step_keeps c again None flags skip so_far h after test kept goes_on passes have = have
bundle_step_keeps c again (Some x) flags zero so_far h after test kept goes_on passes have =
    let rest = drop (length (encode_utf8 x)) flags in
    short_keeps c again (arg_by_short c x) rest h (after rest 0 done) (test rest 0) kept (kept_found _ c kept) (goes_on rest 0 done) passes have
bundle_step_keeps c again (Some x) flags (suc skip) so_far h after test kept goes_on passes have =
    goes_on (drop (length (encode_utf8 x)) flags) skip so_far h passes have

bundle_keeps : (c : List Rule) (again : Bool) (k : ℕ) (flags : Text) (skip : ℕ) (so_far : Outcome) (h : Held) → AreKept c
    → flags_pass c again k flags skip h ≡ true → HaveValues h.rows → HaveValues (bundle_met c k flags skip so_far h).0.rows
unfolding bundle_met flags_pass
bundle_keeps c again zero flags skip so_far h kept passes have = have
bundle_keeps c again (suc k) flags skip so_far h kept passes have =
    bundle_step_keeps c again (slice_get (chars flags) 0) flags skip so_far h (bundle_met c k) (flags_pass c again k) kept
    (λ rest less before held. bundle_keeps c again k rest less before held kept) passes have

after_flag_keeps : (c : List Rule) (waiting : Waiting) (word : Text) (h : Held) (outcome : Outcome) → HaveValues h.rows
    → HaveValues (after_flag c waiting word h outcome).0.rows
after_flag_keeps c waiting word h outcome have = grind arith

short_word_keeps : (c : List Rule) (again : Bool) (waiting : Waiting) (word : Text) (flags : Option Text) (h : Held) → AreKept c
    → option_map_or (λ f. bundle_passes c again f h) flags true ≡ true → HaveValues h.rows → HaveValues (short_or_plain c waiting word flags h).0.rows
short_word_keeps c again waiting word (Some flags) h kept passes have =
    after_flag_keeps c waiting word (bundle c flags h).0 (bundle c flags h).1
    (bundle_keeps c again (length flags) flags h.skip plain (record h { skip = 0 }) kept passes have)
short_word_keeps c again waiting word None h kept passes have = after_flag_keeps c waiting word h plain have

flag_word_keeps : (c : List Rule) (again : Bool) (waiting : Waiting) (word : Text) (name : Option (Text × Option Text)) (h : Held) → AreKept c
    → flag_word_passes c again name word h ≡ true → HaveValues h.rows → HaveValues (long_or_other c waiting word name h).0.rows
flag_word_keeps c again waiting word (Some p) h kept passes have =
    let met = long_met c (arg_by_long c p.0) p.1 h in
    after_flag_keeps c waiting word met.0 met.1 (long_keeps c again (arg_by_long c p.0) p.1 h kept (kept_found _ c kept) passes have)
flag_word_keeps c again waiting word None h kept passes have = short_word_keeps c again waiting word (short_of word) h kept passes have

word_keeps : (s : Shape) (names : Names) (is_trailing : Bool) (waiting : Waiting) (position : ℕ) (word : Text) (h : Held) → AreKept s.rules
    → word_passes s names is_trailing waiting word h ≡ true → HaveValues h.rows
    → HaveValues (word_met s.rules names is_trailing waiting position word h).0.rows
word_keeps s names is_trailing waiting position word h kept passes have =
    grind (arith, flag_word_keeps s.rules s.args_override_self waiting word (long_of word) h kept)

step_keeps : (s : Shape) (word : Text) (w : Walk) (h : Held) (step : Step) → AreKept s.rules
    → step_passes s w.position h step ≡ true → HaveValues h.rows → HaveValues (after_step s.rules word w h step).held.rows
step_keeps s word w h step kept passes have = grind (arith, settled_keeps s.rules s.args_override_self h.pending h.rows kept)

-- ---- all words

turn_keeps : (s : Shape) (names : Names) (w : Walk) (word : Text) → AreKept s.rules → turn_passes s names w word ≡ true
    → HaveValues w.held.rows → HaveValues (walked s.rules names w word).held.rows
unfolding walked
turn_keeps s names w word kept passes have =
    let met = word_met s.rules names w.is_trailing w.waiting w.position word w.held in
    grind (arith, word_keeps s names w.is_trailing w.waiting w.position word w.held kept, step_keeps s word w met.0 met.1 kept)

-- what each turn that passes keeps, a walk that passes keeps
pub walk_keeps : (P : Walk → Type 0) (s : Shape) (names : Names) (w : Walk) (words : List Text)
    → ((w : Walk) (word : Text) → turn_passes s names w word ≡ true → P w → P (walked s.rules names w word))
    → walk_passes s names w words ≡ true → P w → P (fold (walked s.rules names) w words)
unfolding walk_passes
walk_keeps P s names w [] keeps passes has = has
walk_keeps P s names w (word ∷ words) keeps passes has =
    let each = both (turn_passes s names w word) _ passes in
    walk_keeps P s names (walked s.rules names w word) words keeps each.1 (keeps w word each.0 has)

default_keeps : (id : Text) (how : Reading) (values : List Text) (rows : List Row) → HaveValues rows → HaveValues (default_rows id how values rows)
default_keeps id how [] rows have = have
default_keeps id how (v ∷ vs) rows have = with_values_keeps id how DefaultValue v vs rows have

defaults_keep : (rules : List Rule) (rows : List Row) → HaveValues rows → HaveValues (fold with_default rows rules)
defaults_keep [] rows have = have
defaults_keep (a ∷ rules) rows have =
    defaults_keep rules (with_default rows a) (grind (arith, default_keeps a.id (reading_by a) a.defaults rows))

-- the rows at the end, and that the last checks passed
level_rows : (s : Shape) (words : List Text) → AreKept s.rules → level_passes s [] nothing_held words false ≡ true
    → HaveValues (rows_after s.rules [] words) × (is_valid s (rows_after s.rules [] words) false ≡ true)
level_rows s words kept passes =
    let end = (walk s.rules [] nothing_held words).held in
    let walked_all = both (walk_passes s [] (walk_from nothing_held) words) _ passes in
    let settles = both (settle_passes s.rules s.args_override_self end) _ walked_all.1 in
    let checks = both (list_all default_passes s.rules) _ settles.1 in (
      defaults_keep s.rules (settled s.rules end).rows
          (settled_keeps s.rules s.args_override_self end.pending end.rows kept settles.0
          (walk_keeps (λ w. HaveValues w.held.rows) s [] (walk_from nothing_held) words (λ w word. turn_keeps s [] w word kept) walked_all.0 tt)),
      checks.1,
    )

-- ---- the two texts

first_there : (values : List Text) → HasValues values → IsSome (slice_get values 0)
first_there [] have = absurd have
first_there (v ∷ vs) have = refl

-- what was given has a first value
given_there : (id : Text) (rows : List Row) → HaveValues rows → is_given id rows ≡ true → IsSome (first_of id rows)
given_there id [] have given = cc
given_there id (r ∷ rows) have given =
    grind (arith, first_there r.values have.0, given_there id rows have.1)

-- `same`, as `clap` builds it
abbrev pub built_same : Shape
built_same = record (new_shape (codes "same")) {
  rules = filled_from 1 (operand (codes "first") ∷ operand (codes "second") ∷ level_option ∷ rules_option ∷ flag (codes "files") ∷ flag (codes "json") ∷ verbose_flag ∷ help_rule ∷ []);
  disable_help_subcommand = true;
  is_built = true;
}

-- no row is without a value, and both texts are given
given_texts : (words : List Text) → level_passes built_same [] nothing_held words false ≡ true
    → HaveValues (rows_after built_same.rules [] words)
    × ((is_given (codes "first") (rows_after built_same.rules [] words) ≡ true) × (is_given (codes "second") (rows_after built_same.rules [] words) ≡ true))
given_texts words passes =
    let rows = rows_after built_same.rules [] words in
    let level = level_rows built_same words
    (operand_keeps (codes "first") 1, (operand_keeps (codes "second") 2, (level_keeps 3, (rules_keep 3, (files_keep 3, (objects_keep 3, (verbose_keeps 3, ((λ again values rows uses have. have), tt)))))))) passes in
    let given = both (is_given (codes "first") rows) _ level.1 in
    (level.0, (given.0, (both (is_given (codes "second") rows) _ given.1).0))

pub second_given : (words : List Text) → level_passes built_same [] nothing_held words false ≡ true
    → is_given (codes "second") (rows_after built_same.rules [] words) ≡ true
second_given words passes = (given_texts words passes).1.1

-- `same` asks for something
pub same_asks : (words : List Text) → level_passes built_same [] nothing_held words false ≡ true
    → IsSome (same_of (rows_at built_same words).1)
same_asks words passes =
    let rows = rows_after built_same.rules [] words in
    let given = given_texts words passes in
    grind (arith, given_there (codes "first") rows given.0 given.1.0, given_there (codes "second") rows given.0 given.1.1)
