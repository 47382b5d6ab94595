-- What a line asks for, by the words behind its command.
use Rattle.std.proofs.Common.{map, ◌≡◌, ap₂, ℕ, List, [], ◌∷◌, ◌++◌, Option, Some, None, Bool, true, false, not, ◌&&◌, ◌||◌, arith, cond, refl, codes, ap, ◌∙◌, append-nil, append_assoc, is_some, sym, true≢false, option_and_then}
use Rattle.std.specs.Option.{option_map_or}
use Rattle.std.specs.Str.{bytes_eq}
use Rattle.clap.specs.Lexer.{long_of, short_of}
use Rattle.clap.specs.Words.{Row, Rule, Shape, Text, subcommand_of, takes, built}
use Rattle.std.specs.List.{fold, list_all}
use Rattle.std.proofs.lemmas.Bool.{false_from_ne_true}
use Rattle.std.proofs.lemmas.Slice.Eq.{bytes_eq-Decides}
use Rattle.clap.specs.Simple.{entered, filled, filled_from, help_rule, names_of, new_shape, with_index}
use Rattle.clap.specs.Walk.{Held, Names, Step, Waiting, Walk, idle, positional, reacted, trailing, reading_by, after_step, finished, long_or_other, nothing_held, plain_word, rows_after, short_or_plain, subcommand_met, subcommand_or_other, walk_from, walked, word_met}
use Rattle.clap.specs.Takes.{bundle_passes, default_passes, entered_passes, flag_word_passes, is_valid, level_passes, other_passes, settle_passes, step_passes, turn_passes, walk_passes, word_passes}
use Rattle.clap.specs.declared.parser.matches.ValueSource.TheVariants.{CommandLine}
use Rattle.clap.proofs.OnLiterals.{clap_on_literals}
use Rattle.clap.proofs.WalkLemmas.{both}
use Rattle.crs_desk.specs.Requests.{request_of}
use Rattle.crs_desk.specs.CommandLine.{asked, desk, file_operands, first_option, flag, is_plain_word, level_option, name_flag, rules_option, spare_operand, used_option, verbose_flag}
use Rattle.crs_desk.specs.declared.line.requests.Request.{Request}
use Rattle.crs_desk.specs.declared.line.requests.Request.TheVariants.{Other}
use Rattle.crs_desk.specs.declared.line.requests.Task.{Task}
use Rattle.crs_desk.specs.declared.line.requests.Work.TheVariants.{Files}
use Rattle.crs_desk.proofs.OperandLemmas.{built_same}

-- ---- words, of which some are written out

plain_is : (word : Text) → is_plain_word word ≡ true → (long_of word ≡ None) × (short_of word ≡ None)
plain_is [] usual = (refl, refl)
plain_is (b ∷ []) usual = grind arith
plain_is (b ∷ c ∷ rest) usual = grind arith

not_dashes : (word : Text) → is_plain_word word ≡ true → bytes_eq word (45 ∷ 45 ∷ []) ≡ false
not_dashes word usual = false_from_ne_true _ (λ dashes. true≢false (sym usual ∙ ap is_plain_word ((bytes_eq-Decides word (45 ∷ 45 ∷ [])).0 dashes)))

-- no subcommand is named where a command has none
pub none_met : (waiting : Waiting) (word : Text) → subcommand_met [] waiting word ≡ None
none_met waiting word = grind arith

-- what a plain word is, where no subcommand can be named
plain_met : (s : Shape) (waiting : Waiting) (position : ℕ) (word : Text) (h : Held) → is_plain_word word ≡ true
    → (word_met s.rules [] false waiting position word h ≡ plain_word s.rules waiting word h)
    × (word_passes s [] false waiting word h ≡ true)
plain_met s waiting position word h usual =
    let none = none_met waiting word in
    let is = plain_is word usual in
    let dashes = not_dashes word usual in (
      ap (λ met. subcommand_or_other s.rules met waiting position word h) none
          ∙ ap (λ b. cond b (h, trailing position) (long_or_other s.rules waiting word (long_of word) h)) dashes
          ∙ ap (λ name. long_or_other s.rules waiting word name h) is.0 ∙ ap (λ flags. short_or_plain s.rules waiting word flags h) is.1,
      ap (λ met. other_passes s met word h) none
          ∙ ap (λ b. b || flag_word_passes s.rules s.args_override_self (long_of word) word h) dashes
          ∙ ap (λ name. flag_word_passes s.rules s.args_override_self name word h) is.0
          ∙ ap (λ flags. option_map_or (λ f. bundle_passes s.rules s.args_override_self f h) flags true) is.1,
    )

-- the walk before a word, with what waits for it
abbrev before : Held → Waiting → ℕ → Walk
before h waiting position = record { held = h; waiting = waiting; position = position; is_trailing = false; stopped = None }

abbrev after_plain : Shape → Held → Waiting → ℕ → Text → Walk
after_plain s h waiting position word =
    let met = plain_word s.rules waiting word h in after_step s.rules word (before h waiting position) met.0 met.1

pub plain_turn : (s : Shape) (h : Held) (waiting : Waiting) (position : ℕ) (word : Text) → is_plain_word word ≡ true
    → (walked s.rules [] (before h waiting position) word ≡ after_plain s h waiting position word)
    × (turn_passes s [] (before h waiting position) word
    ≡ step_passes s position (plain_word s.rules waiting word h).0 (plain_word s.rules waiting word h).1)
unfolding walked
plain_turn s h waiting position word usual =
    let met = plain_met s waiting position word h usual in
    let to = plain_word s.rules waiting word h in (
      ap (λ (m : Held × Step). after_step s.rules word (before h waiting position) m.0 m.1) met.0,
      ap (λ (m : Held × Step). word_passes s [] false waiting word h && step_passes s position m.0 m.1) met.0
          ∙ ap (λ b. b && step_passes s position to.0 to.1) met.1,
    )

-- a word after which the walk is at `to`, and which passes
abbrev Goes : Shape → Walk → Text → Walk → Type 0
Goes s from word to = (walked s.rules [] from word ≡ to) × (turn_passes s [] from word ≡ true)

-- words after which the walk is at `to`, and which pass
abbrev Runs : Shape → Walk → List Text → Walk → Type 0
Runs s from words to = (fold (walked s.rules []) from words ≡ to) × (walk_passes s [] from words ≡ true)

stays : (s : Shape) (w : Walk) → Runs s w [] w
unfolding walk_passes
stays s w = (refl, refl)

goes_on : (s : Shape) (from via to : Walk) (word : Text) (words : List Text) → Goes s from word via → Runs s via words to → Runs s from (word ∷ words) to
unfolding walk_passes
goes_on s from via to word words goes runs = (
  ap (λ (w : Walk). fold (walked s.rules []) w words) goes.0 ∙ runs.0,
  ap (λ b. b && walk_passes s [] (walked s.rules [] from word) words) goes.1
      ∙ ap (λ (w : Walk). walk_passes s [] w words) goes.0 ∙ runs.1,
)

-- a word of a line: one that is written out, or one of which is known that it is no flag
pub data Word : Type 0 where
  literal : Text → Word
  plainly_given : (word : Text) → is_plain_word word ≡ true → Word

abbrev pub text_of : Word → Text
text_of (literal word) = word
text_of (plainly_given word usual) = word

-- the walk after a word
abbrev pub moved : Shape → Walk → Word → Walk
moved s w (literal word) = walked s.rules [] w word
moved s w (plainly_given word usual) = after_plain s w.held w.waiting w.position word

-- whether the word passes; before one that is no flag the walk is neither behind `--` nor stopped
abbrev pub move_passes : Shape → Walk → Word → Bool
move_passes s w (literal word) = turn_passes s [] w word
move_passes s w (plainly_given word usual) =
    let met = plain_word s.rules w.waiting word w.held in
    not w.is_trailing && (not (is_some w.stopped) && step_passes s w.position met.0 met.1)

abbrev pub moves_pass : Shape → Walk → List Word → Bool
moves_pass s w [] = true
moves_pass s w (word ∷ words) = move_passes s w word && moves_pass s (moved s w word) words

plainly_goes : (s : Shape) (h : Held) (waiting : Waiting) (position : ℕ) (is_trailing : Bool) (stopped : Option (Text × List Text))
    (word : Text) (usual : is_plain_word word ≡ true)
    → let w : Walk = record { held = h; waiting = waiting; position = position; is_trailing = is_trailing; stopped = stopped } in
    move_passes s w (plainly_given word usual) ≡ true → Goes s w word (after_plain s h waiting position word)
plainly_goes s h waiting position true stopped word usual passes = cc
plainly_goes s h waiting position false (Some stop) word usual passes = cc
plainly_goes s h waiting position false None word usual passes =
    let turn = plain_turn s h waiting position word usual in (turn.0, turn.1 ∙ passes)

move_goes : (s : Shape) (w : Walk) (word : Word) → move_passes s w word ≡ true → Goes s w (text_of word) (moved s w word)
move_goes s w (literal word) passes = (refl, passes)
move_goes s w (plainly_given word usual) passes = plainly_goes s w.held w.waiting w.position w.is_trailing w.stopped word usual passes

moves_run : (s : Shape) (w : Walk) (words : List Word) → moves_pass s w words ≡ true → Runs s w (map text_of words) (fold (moved s) w words)
moves_run s w [] passes = stays s w
moves_run s w (word ∷ words) passes =
    let each = both (move_passes s w word) _ passes in
    goes_on s w (moved s w word) (fold (moved s) (moved s w word) words) (text_of word) (map text_of words) (move_goes s w word each.0)
    (moves_run s (moved s w word) words each.1)

-- ---- the commands, and the words behind them

pub data CommandName : Type 0 where
  canon : CommandName
  digest : CommandName
  check : CommandName
  group : CommandName
  same : CommandName
  explain : CommandName
  rules : CommandName

abbrev pub name_of : CommandName → Text
name_of canon = codes "canon"
name_of digest = codes "digest"
name_of check = codes "check"
name_of group = codes "group"
name_of same = codes "same"
name_of explain = codes "explain"
name_of rules = codes "rules"

abbrev built_with : Text → List Rule → Shape
built_with name own = record (new_shape name) {
  rules = filled_from 1 own;
  disable_help_subcommand = true;
  is_built = true;
}

-- the commands, as `clap` builds them
abbrev pub built_at : CommandName → Shape
built_at canon = built_with (codes "canon") (level_option ∷ rules_option ∷ flag (codes "lines") ∷ name_flag ∷ file_operands ∷ verbose_flag ∷ help_rule ∷ [])
built_at digest = built_with (codes "digest") (level_option ∷ rules_option ∷ flag (codes "lines") ∷ name_flag ∷ file_operands ∷ verbose_flag ∷ help_rule ∷ [])
built_at check = built_with (codes "check") (flag (codes "json") ∷ flag (codes "lines") ∷ name_flag ∷ file_operands ∷ verbose_flag ∷ help_rule ∷ [])
built_at group = built_with (codes "group") (level_option ∷ rules_option ∷ flag (codes "json") ∷ flag (codes "repeated") ∷ flag (codes "names") ∷ flag (codes "files") ∷ name_flag ∷ file_operands ∷ verbose_flag ∷ help_rule ∷ [])
built_at same = built_same
built_at explain = built_with (codes "explain")
    (spare_operand (codes "first") ∷ spare_operand (codes "second") ∷ flag (codes "json") ∷ first_option ∷ level_option ∷ rules_option ∷ flag (codes "files") ∷ verbose_flag ∷ help_rule ∷ [])
built_at rules = built_with (codes "rules") (used_option ∷ name_flag ∷ file_operands ∷ verbose_flag ∷ help_rule ∷ [])

abbrev top : Shape
top = (built desk).top

abbrev desk_names : Names
desk_names = names_of (built desk)

-- the desk's walk behind the name of a command, and the words since
abbrev stopped_at : Held → Text → List Text → Walk
stopped_at held name words = record {
  held = held;
  waiting = idle;
  position = 1;
  is_trailing = false;
  stopped = Some (name, words);
}

-- it takes all words that follow
stopped_runs : (held : Held) (name : Text) (past words : List Text)
    → (fold (walked top.rules desk_names) (stopped_at held name past) words ≡ stopped_at held name (past ++ words))
    × (walk_passes top desk_names (stopped_at held name past) words ≡ true)
unfolding walked walk_passes
stopped_runs held name past [] = (ap (stopped_at held name) (sym (append-nil past)), refl)
stopped_runs held name past (word ∷ words) =
    let rest = stopped_runs held name (past ++ word ∷ []) words in
    (rest.0 ∙ ap (stopped_at held name) (append_assoc past (word ∷ []) words), rest.1)

-- what is left of a line that is taken, after the desk's own walk
abbrev passes_at : Walk → Bool → Bool
passes_at w walks =
    entered_passes (built desk) w.stopped
    && (walks && (settle_passes top.rules top.args_override_self w.held
    && (list_all default_passes top.rules && is_valid top (finished top.rules w.held) (is_some (entered (built desk) w.stopped)))))

abbrev asks_at : Walk → Option Request
asks_at w = option_and_then request_of (entered (built desk) w.stopped)

words_behind : (held : Held) (name : Text) (words : List Text) → let end = fold (walked top.rules desk_names) (stopped_at held name []) words in
    (passes_at end (walk_passes top desk_names (stopped_at held name []) words) ≡ passes_at (stopped_at held name words) true)
    × (asks_at end ≡ asks_at (stopped_at held name words))
words_behind held name words = let run = stopped_runs held name [] words in (ap₂ passes_at run.0 run.1, ap asks_at run.0)

-- a line is what its command makes of the words behind it
abbrev IsLineOf : CommandName → List Text → List Text → Type 0
IsLineOf n words line = (takes desk line ≡ (level_passes (built_at n) [] nothing_held words false && true))
    × (option_and_then request_of (subcommand_of desk line) ≡ request_of (name_of n, rows_after (built_at n).rules [] words))

command_line : (n : CommandName) (program : Text) (words : List Text) → IsLineOf n words (program ∷ name_of n ∷ words)
unfolding clap_on_literals
command_line canon program words = words_behind nothing_held (codes "canon") words
command_line digest program words = words_behind nothing_held (codes "digest") words
command_line check program words = words_behind nothing_held (codes "check") words
command_line group program words = words_behind nothing_held (codes "group") words
command_line same program words = words_behind nothing_held (codes "same") words
command_line explain program words = words_behind nothing_held (codes "explain") words
command_line rules program words = words_behind nothing_held (codes "rules") words

-- what is held behind `--verbose` of the desk's own
abbrev verbose_held : Held
verbose_held = reacted top.rules (with_index 1 (filled verbose_flag)) [] nothing_held

verbose_line : (n : CommandName) (program : Text) (words : List Text) → IsLineOf n words (program ∷ codes "-v" ∷ name_of n ∷ words)
unfolding clap_on_literals
verbose_line canon program words = words_behind verbose_held (codes "canon") words
verbose_line digest program words = words_behind verbose_held (codes "digest") words
verbose_line check program words = words_behind verbose_held (codes "check") words
verbose_line group program words = words_behind verbose_held (codes "group") words
verbose_line same program words = words_behind verbose_held (codes "same") words
verbose_line explain program words = words_behind verbose_held (codes "explain") words
verbose_line rules program words = words_behind verbose_held (codes "rules") words

-- it changes no request
pub verbose_asked : (n : CommandName) (program : Text) (words : List Text)
    → asked (program ∷ codes "-v" ∷ name_of n ∷ words) ≡ asked (program ∷ name_of n ∷ words)
verbose_asked n program words =
    let verbose = verbose_line n program words in
    let plain = command_line n program words in
    ap₂ (λ is request. cond is request None) (verbose.0 ∙ sym plain.0) (verbose.1 ∙ sym plain.1)

-- the end of a walk over the words of a command passes
abbrev pub ends : Shape → Walk → Bool
ends s w = settle_passes s.rules s.args_override_self w.held && (list_all default_passes s.rules && is_valid s (finished s.rules w.held) false)

-- the request of a line, of the walk over the words of its command
line_asked : (n : CommandName) (program : Text) (words : List Text) (to : Walk)
    → Runs (built_at n) (walk_from nothing_held) words to → ends (built_at n) to ≡ true
    → asked (program ∷ name_of n ∷ words) ≡ request_of (name_of n, finished (built_at n).rules to.held)
line_asked n program words to runs passes =
    let s = built_at n in
    let line = command_line n program words in
    let level : level_passes s [] nothing_held words false ≡ true =
    ap (λ b. b && ends s (fold (walked s.rules []) (walk_from nothing_held) words)) runs.1 ∙ ap (ends s) runs.0 ∙ passes in
    ap (λ b. cond b (option_and_then request_of (subcommand_of desk (program ∷ name_of n ∷ words))) None) (line.0 ∙ ap (λ b. b && true) level)
    ∙ line.1 ∙ ap (λ (w : Walk). request_of (name_of n, finished s.rules w.held)) runs.0

pub words_asked : (n : CommandName) (program : Text) (words : List Word) → let s = built_at n in
    let to = fold (moved s) (walk_from nothing_held) words in (moves_pass s (walk_from nothing_held) words && ends s to) ≡ true
    → asked (program ∷ name_of n ∷ map text_of words) ≡ request_of (name_of n, finished s.rules to.held)
words_asked n program words passes =
    let s = built_at n in
    let each = both (moves_pass s (walk_from nothing_held) words) _ passes in
    line_asked n program (map text_of words) (fold (moved s) (walk_from nothing_held) words) (moves_run s (walk_from nothing_held) words each.0) each.1

-- ---- files

-- what is held after some names of files, the last of them pending
abbrev files_row : List Text → Row
files_row names = record {
  id = codes "file";
  values = names;
  count = None;
  source = Some CommandLine;
  reading = reading_by (with_index 1 (filled file_operands));
}

abbrev pub with_files : List Text → Text → Held
with_files [] last = record { rows = []; pending = Some (codes "file", last ∷ []); skip = 0 }
with_files (name ∷ names) last =
    record { rows = files_row (name ∷ names) ∷ []; pending = Some (codes "file", last ∷ []); skip = 0 }

-- a walk before files, behind `--` or not, and after some
abbrev to_files : Bool → Walk
to_files is_all = record (walk_from nothing_held) { is_trailing = is_all }

abbrev at_files : Bool → List Text → Text → Walk
at_files is_all names last = record (before (with_files names last) positional 1) { is_trailing = is_all }

-- any word behind `--` is a file, and one that is no flag
abbrev is_file : Bool → Text → Bool
is_file is_all word = is_all || is_plain_word word

-- a task over files
abbrev over_files : Task → List Text → Request
over_files wanted names = Other (codes "full") [] (Files wanted names [] false)

-- a command goes to a first file and on to a next, and at the end its task is asked for over the files
abbrev pub ReadsFiles : CommandName → Task → Bool → Type 0
ReadsFiles n wanted is_all = (names : List Text) (last word : Text)
    → (is_file is_all word ≡ true → Goes (built_at n) (to_files is_all) word (at_files is_all [] word))
    × (is_file is_all word ≡ true → Goes (built_at n) (at_files is_all names last) word (at_files is_all (names ++ last ∷ []) word))
    × (request_of (name_of n, finished (built_at n).rules (with_files names last)) ≡ Some (over_files wanted (names ++ last ∷ [])))
    × (ends (built_at n) (at_files is_all names last) ≡ true)

-- names are taken to the last
files_run : (n : CommandName) (wanted : Task) (is_all : Bool) → ReadsFiles n wanted is_all
    → (names : List Text) (last : Text) (words : List Text) → list_all (is_file is_all) words ≡ true
    → (past : List Text) × (end : Text) × (names ++ last ∷ words ≡ past ++ end ∷ [])
    × Runs (built_at n) (at_files is_all names last) words (at_files is_all past end)
files_run n wanted is_all reads names last [] usual = (names, last, refl, stays (built_at n) (at_files is_all names last))
files_run n wanted is_all reads names last (word ∷ words) usual =
    let each = both (is_file is_all word) _ usual in
    let rest = files_run n wanted is_all reads (names ++ last ∷ []) word words each.1 in (
      rest.0,
      rest.1,
      sym (append_assoc names (last ∷ []) (word ∷ words)) ∙ rest.2,
      goes_on (built_at n) (at_files is_all names last) (at_files is_all (names ++ last ∷ []) word) (at_files is_all rest.0 rest.1) word
          words ((reads names last word).1 each.0) rest.3,
    )

-- words before files, and the files
files_behind : (n : CommandName) (wanted : Task) (is_all : Bool) → ReadsFiles n wanted is_all → (program name : Text) (front names : List Text)
    → list_all (is_file is_all) (name ∷ names) ≡ true
    → ((to : Walk) → Runs (built_at n) (to_files is_all) (name ∷ names) to → Runs (built_at n) (walk_from nothing_held) (front ++ name ∷ names) to)
    → asked (program ∷ name_of n ∷ front ++ name ∷ names) ≡ Some (over_files wanted (name ∷ names))
files_behind n wanted is_all reads program name front names usual leads =
    let each = both (is_file is_all name) _ usual in
    let run = files_run n wanted is_all reads [] name names each.1 in
    let to = at_files is_all run.0 run.1 in
    let end = reads run.0 run.1 name in
    line_asked n program (front ++ name ∷ names) to
    (leads to (goes_on (built_at n) (to_files is_all) (at_files is_all [] name) to name names (end.0 each.0) run.3)) end.3
    ∙ end.2 ∙ sym (ap (λ l. Some (over_files wanted l)) run.2)

pub files_asked : (n : CommandName) (wanted : Task) → ReadsFiles n wanted false → (program name : Text) (names : List Text)
    → list_all is_plain_word (name ∷ names) ≡ true → asked (program ∷ name_of n ∷ name ∷ names) ≡ Some (over_files wanted (name ∷ names))
files_asked n wanted reads program name names usual = files_behind n wanted false reads program name [] names usual (λ to runs. runs)

-- behind `--` each word is a file
all_files : (words : List Text) → list_all (is_file true) words ≡ true
all_files [] = refl
all_files (word ∷ words) = all_files words

pub all_asked : (n : CommandName) (wanted : Task) → ReadsFiles n wanted true → (program name : Text) (names : List Text)
    → asked (program ∷ name_of n ∷ codes "--" ∷ name ∷ names) ≡ Some (over_files wanted (name ∷ names))
unfolding walked
all_asked n wanted reads program name names =
    files_behind n wanted true reads program name (codes "--" ∷ []) names (all_files (name ∷ names))
    (λ to runs. goes_on (built_at n) (walk_from nothing_held) (to_files true) to (codes "--") (name ∷ names) (refl, refl) runs)
