-- Lines that `same` does not take: with one word alone, or with a flag that it lacks.
use Rattle.std.proofs.Common.{◌≡◌, ◌≢◌, ◌<◌, ap₂, nat_lt, subst, ℕ, List, [], ◌∷◌, length, Option, Some, None, Bool, true, false, ◌||◌, arith, cond, refl, codes, zero, suc, drop, ap, ◌∙◌, sym, true≢false, option_and_then, ◌==◌, encode_utf8, slice_get}
use Rattle.std.specs.Option.{option_map, option_map_or}
use Rattle.std.specs.Str.{bytes_eq, chars, chars_after, continuation_len, lead_bits}
use Rattle.std.proofs.lemmas.Bool.{false_from_ne_true, eqb-true, lt-ltb}
use Rattle.clap.specs.Lexer.{long_of, long_of_rest, name_and_value, short_of}
use Rattle.clap.specs.Words.{Row, Rule, Text, takes}
use Rattle.std.proofs.lemmas.Slice.Eq.{bytes_eq-Decides}
use Rattle.clap.specs.Simple.{filled, help_rule, with_index}
use Rattle.clap.specs.Walk.{Held, Outcome, Step, Waiting, Walk, done, plain, idle, option, trailing, after_flag, after_step, bundle, bundle_met, bundle_step, finished, reacted, short_met, long_met, long_or_other, nothing_held, short_or_plain, subcommand_or_other, used, walked, word_met}
use Rattle.clap.specs.Takes.{bundle_passes, bundle_step_passes, flag_word_passes, flags_pass, is_given, level_passes, long_passes, other_passes, react_passes, short_passes, turn_passes, walk_passes, word_passes}
use Rattle.clap.proofs.OnLiterals.{clap_on_literals}
use Rattle.clap.proofs.WalkLemmas.{both}
use Rattle.crs_desk.specs.CommandLine.{desk, flag, level_option, rules_option, verbose_flag}
use Rattle.crs_desk.proofs.OperandLemmas.{built_same, second_given}
use Rattle.crs_desk.proofs.AskedLemmas.{none_met}

abbrev rules : List Rule
rules = built_same.rules

-- `--level`, `--rules`, `--files`, `--json`, `--verbose` and the flag that asks for help, as `clap` builds them
abbrev level : Rule
level = with_index 3 (filled level_option)

abbrev ruling : Rule
ruling = with_index 3 (filled rules_option)

abbrev files : Rule
files = with_index 3 (filled (flag (codes "files")))

abbrev objects : Rule
objects = with_index 3 (filled (flag (codes "json")))

abbrev verbose : Rule
verbose = with_index 3 (filled verbose_flag)

abbrev help : Rule
help = with_index 3 (filled help_rule)

-- what a walk of `same` met before its first operand: nothing; `--level` or `--rules`, alone or with a word; `--files`,
-- `--json` or `--verbose`
data Met : Type 0 where
  no_flag_met : Met
  level_wanted : Met
  level_met : Text → Met
  rules_wanted : Met
  rules_met : Text → Met
  files_met : Met
  objects_met : Met
  verbose_met : Met

abbrev rows_met : Met → List Row
rows_met (level_met v) = used level (v ∷ []) []
rows_met (rules_met v) = used ruling (v ∷ []) []
rows_met files_met = used files [] []
rows_met objects_met = used objects [] []
rows_met verbose_met = used verbose [] []
rows_met _ = []

abbrev option_wanted : Met → Option Text
option_wanted level_wanted = Some (codes "level")
option_wanted rules_wanted = Some (codes "rules")
option_wanted _ = None

abbrev held_at : Met → Held
held_at at = record { rows = rows_met at; pending = option_map (λ id. (id, [])) (option_wanted at); skip = 0 }

abbrev waiting_at : Met → Waiting
waiting_at at = option_map_or option (option_wanted at) idle

abbrev walk_at : Met → Walk
walk_at at = record { held = held_at at; waiting = waiting_at at; position = 1; is_trailing = false; stopped = None }

-- no second operand follows the word
abbrev Lacks : Met → Text → Held × Step → Type 0
Lacks at word met = is_given (codes "second") (finished rules (after_step rules word (walk_at at) met.0 met.1).held) ≡ false

-- those of one letter, `-v` and `-h`
abbrev short_named : Bool → Bool → Option Rule
short_named is_verbose is_help = cond is_verbose (Some verbose) (cond is_help (Some help) None)

-- with `-v` more
abbrev verbose_at : Met → Held
verbose_at at = reacted rules verbose [] (held_at at)

flag_lacks : (at : Met) (word : Text) (outcome : Outcome) → Lacks at word (after_flag rules (waiting_at at) word (held_at at) outcome)
flag_lacks at word outcome = grind arith

verbose_lacks : (at : Met) (word : Text) → Lacks at word (after_flag rules (waiting_at at) word (verbose_at at) done)
verbose_lacks at word = grind arith

-- the flags of `same` are a level, rules, `--files`, `--json`, `--verbose` and the call for help
abbrev flag_named : Bool → Bool → Bool → Bool → Bool → Bool → Option Rule
flag_named is_level are_rules are_files are_objects is_verbose is_help =
    cond is_level (Some level) (cond are_rules (Some ruling) (cond are_files (Some files) (cond are_objects (Some objects) (short_named is_verbose is_help))))

help_fails : (at : Met) (is_help : Bool) (v : Option Text) → long_passes rules false (flag_named false false false false false is_help) v (held_at at) ≡ true → ⊥
help_fails at is_help v passes = grind arith

long_lacks : (at : Met) (word : Text) (is_level are_rules are_files are_objects is_verbose is_help : Bool) (v : Option Text)
    → long_passes rules false (flag_named is_level are_rules are_files are_objects is_verbose is_help) v (held_at at) ≡ true
    → let met = long_met rules (flag_named is_level are_rules are_files are_objects is_verbose is_help) v (held_at at) in
    Lacks at word (after_flag rules (waiting_at at) word met.0 met.1)
long_lacks at word is_level are_rules are_files are_objects is_verbose is_help v passes = grind arith

-- `-h` doesn't pass, and behind `-v` no letter does
short_help_fails : (at : Met) (is_help : Bool) (rest : Text) (test : Held → Bool)
    → short_passes rules false (short_named false is_help) rest (held_at at) test ≡ true → ⊥
short_help_fails at is_help rest test passes = grind arith

short_fails : (at : Met) (is_verbose is_help : Bool) (rest : Text) (test : Held → Bool)
    → short_passes rules false (short_named is_verbose is_help) rest (verbose_at at) test ≡ true → ⊥
short_fails at is_verbose is_help rest test passes = grind arith

bundle_ends : (at : Met) (k : ℕ) (flags : Text) → flags_pass rules false k flags 0 (verbose_at at) ≡ true
    → bundle_met rules k flags 0 done (verbose_at at) ≡ (verbose_at at, done)
unfolding bundle_met flags_pass
bundle_ends at zero flags passes = refl
bundle_ends at (suc k) flags passes = ends (slice_get (chars flags) 0) passes
  where
    ends : (x : Option ℕ) → bundle_step_passes rules false x flags 0 (verbose_at at) (flags_pass rules false k) ≡ true
        → bundle_step rules x flags 0 done (verbose_at at) (bundle_met rules k) ≡ (verbose_at at, done)
    ends None passes = refl
    ends (Some x) passes =
        let rest = drop (length (encode_utf8 x)) flags in
        absurd (short_fails at (118 == x || false) (104 == x || false) rest (flags_pass rules false k rest 0) passes)

-- a letter that passes is `v`, and the last
short_is_verbose : (at : Met) (is_verbose is_help : Bool) (rest : Text) (after : Held → Held × Outcome) (test : Held → Bool)
    → (test (verbose_at at) ≡ true → after (verbose_at at) ≡ (verbose_at at, done))
    → short_passes rules false (short_named is_verbose is_help) rest (held_at at) test ≡ true
    → short_met rules (short_named is_verbose is_help) rest (held_at at) after ≡ (verbose_at at, done)
short_is_verbose at true is_help rest after test ends passes = ends (both (react_passes rules false verbose [] (held_at at)) _ passes).1
short_is_verbose at false is_help rest after test ends passes = absurd (short_help_fails at is_help rest test passes)

letter_is_verbose : (at : Met) (k x : ℕ) (flags : Text)
    → bundle_step_passes rules false (Some x) flags 0 (held_at at) (flags_pass rules false k) ≡ true
    → bundle_step rules (Some x) flags 0 plain (held_at at) (bundle_met rules k) ≡ (verbose_at at, done)
letter_is_verbose at k x flags passes =
    let rest = drop (length (encode_utf8 x)) flags in
    short_is_verbose at (118 == x || false) (104 == x || false) rest (bundle_met rules k rest 0 done) (flags_pass rules false k rest 0)
    (bundle_ends at k rest) passes

bundle_lacks : (at : Met) (word : Text) (k : ℕ) (flags : Text) → flags_pass rules false k flags 0 (held_at at) ≡ true
    → let met = bundle_met rules k flags 0 plain (held_at at) in Lacks at word (after_flag rules (waiting_at at) word met.0 met.1)
unfolding bundle_met flags_pass
bundle_lacks at word zero flags passes = flag_lacks at word plain
bundle_lacks at word (suc k) flags passes = lacks (slice_get (chars flags) 0) passes
  where
    lacks : (x : Option ℕ) → bundle_step_passes rules false x flags 0 (held_at at) (flags_pass rules false k) ≡ true
        → let met = bundle_step rules x flags 0 plain (held_at at) (bundle_met rules k) in
        Lacks at word (after_flag rules (waiting_at at) word met.0 met.1)
    lacks None passes = flag_lacks at word plain
    lacks (Some x) passes =
        subst (λ (met : Held × Outcome). Lacks at word (after_flag rules (waiting_at at) word met.0 met.1))
        (sym (letter_is_verbose at k x flags passes)) (verbose_lacks at word)

short_lacks : (at : Met) (word : Text) (flags : Option Text) → option_map_or (λ f. bundle_passes rules false f (held_at at)) flags true ≡ true
    → Lacks at word (short_or_plain rules (waiting_at at) word flags (held_at at))
short_lacks at word None passes = flag_lacks at word plain
short_lacks at word (Some flags) passes = bundle_lacks at word (length flags) flags passes

named_lacks : (at : Met) (word : Text) (name : Option (Text × Option Text)) → flag_word_passes rules false name word (held_at at) ≡ true
    → Lacks at word (long_or_other rules (waiting_at at) word name (held_at at))
named_lacks at word (Some p) passes = long_lacks at word (bytes_eq (codes "level") p.0 || false)
    (bytes_eq (codes "rules") p.0 || false) (bytes_eq (codes "files") p.0 || false) (bytes_eq (codes "json") p.0 || false)
    (bytes_eq (codes "verbose") p.0 || false)
    (bytes_eq (codes "help") p.0 || false) p.1 passes
named_lacks at word None passes = short_lacks at word (short_of word) passes

trailing_lacks : (at : Met) (word : Text) → Lacks at word (held_at at, trailing 1)
trailing_lacks at word = grind arith

either_lacks : (at : Met) (word : Text) (b : Bool) (x : Held × Step) (q : Bool) → (q ≡ true → Lacks at word x) → (b || q) ≡ true
    → Lacks at word (cond b (held_at at, trailing 1) x)
either_lacks at word true x q lacks passes = trailing_lacks at word
either_lacks at word false x q lacks passes = lacks passes

-- whatever the word is, it is no second text
word_lacks : (at : Met) (word : Text) → word_passes built_same [] false (waiting_at at) word (held_at at) ≡ true
    → Lacks at word (word_met rules [] false (waiting_at at) 1 word (held_at at))
word_lacks at word passes =
    let none = none_met (waiting_at at) word in
    subst (λ name. Lacks at word (subcommand_or_other rules name (waiting_at at) 1 word (held_at at))) (sym none)
    (either_lacks at word (bytes_eq word (45 ∷ 45 ∷ [])) (long_or_other rules (waiting_at at) word (long_of word) (held_at at)) _
    (named_lacks at word (long_of word)) (subst (λ name. other_passes built_same name word (held_at at) ≡ true) none passes))

no_second : (at : Met) (word : Text) → turn_passes built_same [] (walk_at at) word ≡ true
    → is_given (codes "second") (finished rules (walked rules [] (walk_at at) word).held) ≡ false
unfolding walked
no_second at word passes =
    word_lacks at word (both (word_passes built_same [] false (waiting_at at) word (held_at at)) _ passes).0

one_word_fails : (word : Text) → level_passes built_same [] nothing_held (word ∷ []) false ≡ true → ⊥
unfolding walk_passes
one_word_fails word passes =
    let turn = both (turn_passes built_same [] (walk_at no_flag_met) word) true (both (walk_passes built_same [] (walk_at no_flag_met) (word ∷ [])) _ passes).0 in
    let given : is_given (codes "second") (finished rules (walked rules [] (walk_at no_flag_met) word).held) ≡ true = second_given (word ∷ []) passes in
    absurd (true≢false (sym given ∙ no_second no_flag_met word turn.0))

pub one_text : (program word : Text) → takes desk (program ∷ codes "same" ∷ word ∷ []) ≡ false
unfolding clap_on_literals
one_text program word = false_from_ne_true (takes desk (program ∷ codes "same" ∷ word ∷ []))
    (λ taken. one_word_fails word (both (level_passes built_same [] nothing_held (word ∷ []) false) _ taken).0)

-- ---- a flag, which `same` doesn't have

starts_with : (c : ℕ) (rest : Text) → slice_get (chars_after 0 c rest) 0 ≡ Some c
starts_with c [] = refl
starts_with c (b ∷ rest) = refl

first_char : (byte : ℕ) (rest : Text) → byte < 128 → slice_get (chars (byte ∷ rest)) 0 ≡ Some byte
unfolding chars
first_char byte rest low =
    let is_low : nat_lt byte 128 ≡ true = lt-ltb byte 128 low in
    let alone : continuation_len byte ≡ 0 = rw is_low refl in
    let whole : lead_bits byte ≡ byte = rw is_low refl in
    ap₂ (λ n c. slice_get (chars_after n c rest) 0) alone whole ∙ starts_with byte rest

short_flag_met : (byte : ℕ) (rest : Text) → byte < 128 → bundle_passes rules false (byte ∷ rest) nothing_held ≡ true
    → bundle rules (byte ∷ rest) nothing_held ≡ (verbose_at no_flag_met, done)
unfolding bundle_met flags_pass
short_flag_met byte rest low passes =
    let test = flags_pass rules false (length rest) in
    ap (λ x. bundle_step rules x (byte ∷ rest) 0 plain nothing_held (bundle_met rules (length rest))) (first_char byte rest low)
    ∙ letter_is_verbose no_flag_met (length rest) byte (byte ∷ rest)
    (subst (λ x. bundle_step_passes rules false x (byte ∷ rest) 0 nothing_held test ≡ true) (first_char byte rest low) passes)

-- where a walk is after a first word: before its first text
abbrev Stands : Text → Held × Step → Type 0
Stands word met = (at : Met) × (after_step rules word (walk_at no_flag_met) met.0 met.1 ≡ walk_at at)

long_stands : (word : Text) (is_level are_rules are_files are_objects is_verbose is_help : Bool) (v : Option Text)
    → long_passes rules false (flag_named is_level are_rules are_files are_objects is_verbose is_help) v nothing_held ≡ true
    → let met = long_met rules (flag_named is_level are_rules are_files are_objects is_verbose is_help) v nothing_held in
    Stands word (after_flag rules idle word met.0 met.1)
long_stands word true are_rules are_files are_objects is_verbose is_help (Some v) passes = (level_met v, refl)
long_stands word true are_rules are_files are_objects is_verbose is_help None passes = (level_wanted, refl)
long_stands word false true are_files are_objects is_verbose is_help (Some v) passes = (rules_met v, refl)
long_stands word false true are_files are_objects is_verbose is_help None passes = (rules_wanted, refl)
long_stands word false false true are_objects is_verbose is_help (Some v) passes = cc
long_stands word false false true are_objects is_verbose is_help None passes = (files_met, refl)
long_stands word false false false true is_verbose is_help (Some v) passes = cc
long_stands word false false false true is_verbose is_help None passes = (objects_met, refl)
long_stands word false false false false true is_help (Some v) passes = cc
long_stands word false false false false true is_help None passes = (verbose_met, refl)
long_stands word false false false false false is_help v passes = absurd (help_fails no_flag_met is_help v passes)

-- a word that begins as a flag, and passes, is `--level`, `--rules`, `--files`, `--json` or `--verbose`
flag_stands : (byte : ℕ) (rest : Text) (is : Bool) → (byte == 45) ≡ is → byte < 128 → bytes_eq (45 ∷ byte ∷ rest) (45 ∷ 45 ∷ []) ≡ false
    → let name = option_and_then long_of_rest (cond is (Some rest) None) in
    flag_word_passes rules false name (45 ∷ byte ∷ rest) nothing_held ≡ true
    → Stands (45 ∷ byte ∷ rest) (long_or_other rules idle (45 ∷ byte ∷ rest) name nothing_held)
flag_stands byte [] true hyphen low dashes passes =
    let two : 45 ∷ byte ∷ [] ≡ 45 ∷ 45 ∷ [] = ap (λ b. 45 ∷ b ∷ []) (eqb-true byte 45 hyphen) in
    absurd (true≢false (sym ((bytes_eq-Decides (45 ∷ byte ∷ []) (45 ∷ 45 ∷ [])).1 two) ∙ dashes))
flag_stands byte (b ∷ rest) true hyphen low dashes passes =
    let p = name_and_value (b ∷ rest) in
    long_stands (45 ∷ byte ∷ b ∷ rest) (bytes_eq (codes "level") p.0 || false) (bytes_eq (codes "rules") p.0 || false)
    (bytes_eq (codes "files") p.0 || false) (bytes_eq (codes "json") p.0 || false) (bytes_eq (codes "verbose") p.0 || false)
    (bytes_eq (codes "help") p.0 || false) p.1 passes
flag_stands byte rest false hyphen low dashes passes =
    let word : Text = 45 ∷ byte ∷ rest in
    let met = short_flag_met byte rest low
    (subst (λ is. option_map_or (λ f. bundle_passes rules false f nothing_held) (cond is None (Some (byte ∷ rest))) true ≡ true) hyphen passes) in
    subst (λ is. Stands word (short_or_plain rules idle word (cond is None (Some (byte ∷ rest))) nothing_held)) (sym hyphen)
    (subst (λ (m : Held × Outcome). Stands word (after_flag rules idle word m.0 m.1)) (sym met) (verbose_met, refl))

first_stands : (byte : ℕ) (rest : Text) → byte < 128 → bytes_eq (45 ∷ byte ∷ rest) (45 ∷ 45 ∷ []) ≡ false
    → word_passes built_same [] false idle (45 ∷ byte ∷ rest) nothing_held ≡ true
    → Stands (45 ∷ byte ∷ rest) (word_met rules [] false idle 1 (45 ∷ byte ∷ rest) nothing_held)
first_stands byte rest low dashes passes =
    let word : Text = 45 ∷ byte ∷ rest in
    subst (λ is. Stands word (cond is (nothing_held, trailing 1) (long_or_other rules idle word (long_of word) nothing_held))) (sym dashes)
    (flag_stands byte rest (byte == 45) refl low dashes
    (subst (λ is. (is || flag_word_passes rules false (long_of word) word nothing_held) ≡ true) dashes passes))

flag_level_fails : (byte : ℕ) (rest second : Text) → byte < 128 → 45 ∷ byte ∷ rest ≢ 45 ∷ 45 ∷ []
    → level_passes built_same [] nothing_held ((45 ∷ byte ∷ rest) ∷ second ∷ []) false ≡ true → ⊥
unfolding walk_passes walked
flag_level_fails byte rest second low flag passes =
    let word : Text = 45 ∷ byte ∷ rest in
    let dashes = false_from_ne_true (bytes_eq word (45 ∷ 45 ∷ [])) (λ same. flag ((bytes_eq-Decides word (45 ∷ 45 ∷ [])).0 same)) in
    let turns = both (turn_passes built_same [] (walk_at no_flag_met) word) _ (both (walk_passes built_same [] (walk_at no_flag_met) (word ∷ second ∷ [])) _ passes).0 in
    let here = both (word_passes built_same [] false idle word nothing_held) _ turns.0 in
    let stands = first_stands byte rest low dashes here.0 in
    let moved : walked rules [] (walk_at no_flag_met) word ≡ walk_at stands.0 = stands.1 in
    let then = both (turn_passes built_same [] (walked rules [] (walk_at no_flag_met) word) second) true turns.1 in
    let none = no_second stands.0 second (subst (λ (w : Walk). turn_passes built_same [] w second ≡ true) moved then.0) in
    let given : is_given (codes "second") (finished rules (walked rules [] (walked rules [] (walk_at no_flag_met) word) second).held) ≡ true =
    second_given (word ∷ second ∷ []) passes in
    absurd (true≢false (sym given ∙ ap (λ (w : Walk). is_given (codes "second") (finished rules (walked rules [] w second).held)) moved ∙ none))

pub flag_refused : (program rest second : Text) (byte : ℕ) → byte < 128 → 45 ∷ byte ∷ rest ≢ codes "--"
    → takes desk (program ∷ codes "same" ∷ (45 ∷ byte ∷ rest) ∷ second ∷ []) ≡ false
unfolding clap_on_literals
flag_refused program rest second byte low flag = false_from_ne_true (takes desk (program ∷ codes "same" ∷ (45 ∷ byte ∷ rest) ∷ second ∷ []))
    (λ taken. flag_level_fails byte rest second low flag (both (level_passes built_same [] nothing_held ((45 ∷ byte ∷ rest) ∷ second ∷ []) false) _ taken).0)
