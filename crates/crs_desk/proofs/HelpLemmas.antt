-- A line that the command takes enters no `help`: `clap` answers that word by an error.
use Rattle.std.proofs.Common.{arith, ◌≡◌, ℕ, List, Option, Some, None, Bool, true, false, refl, codes, sym}
use Rattle.std.specs.Str.{bytes_eq}
use Rattle.std.proofs.lemmas.Slice.Eq.{bytes_eq-Decides}
use Rattle.clap.specs.Words.{Shape, Text, Rule, built}
use Rattle.clap.specs.Simple.{names_of}
use Rattle.crs_desk.specs.CommandLine.{desk}
use Rattle.clap.specs.Walk.{Held, Names, Walk, Waiting, Step, Outcome, after_step, plain, subcommand, long_or_other, short_or_plain, after_flag, walked, word_met, bundle, long_met, arg_by_long, walk_from, nothing_held, stop_after}
use Rattle.clap.specs.Lexer.{long_of, short_of}
use Rattle.clap.specs.Takes.{word_passes, turn_passes, walk_passes}
use Rattle.crs_desk.proofs.OperandLemmas.{walk_keeps}

abbrev pub is_help : Text → Bool
is_help name = bytes_eq name (codes "help")

-- the step enters no `help`
IsUsual : Step → Type 0
IsUsual (subcommand name) = is_help name ≡ false
IsUsual _ = Unit {0}

-- the walk stopped at no `help`
unfoldable pub IsFree : Option (Text × List Text) → Type 0
IsFree None = Unit {0}
IsFree (Some stop) = is_help stop.0 ≡ false

flag_is_usual : (c : List Rule) (waiting : Waiting) (word : Text) (h : Held) (outcome : Outcome)
    → IsUsual (after_flag c waiting word h outcome).1
unfolding IsUsual
flag_is_usual c waiting word h outcome = grind arith

long_is_usual : (c : List Rule) (waiting : Waiting) (word : Text) (name : Option (Text × Option Text)) (h : Held)
    → IsUsual (long_or_other c waiting word name h).1
long_is_usual c waiting word (Some name) h =
    let met = long_met c (arg_by_long c name.0) name.1 h in flag_is_usual c waiting word met.0 met.1
long_is_usual c waiting word None h = go (short_of word)
  where
    go : (flags : Option Text) → IsUsual (short_or_plain c waiting word flags h).1
    go (Some flags) = flag_is_usual c waiting word (bundle c flags h).0 (bundle c flags h).1
    go None = flag_is_usual c waiting word h plain

met_is_usual : (s : Shape) (names : Names) (is_trailing : Bool) (waiting : Waiting) (position : ℕ) (word : Text) (h : Held)
    → s.disable_help_subcommand ≡ false → word_passes s names is_trailing waiting word h ≡ true
    → IsUsual (word_met s.rules names is_trailing waiting position word h).1
unfolding IsUsual
met_is_usual s names is_trailing waiting position word h enabled passes = grind (arith, long_is_usual s.rules waiting word (long_of word) h)

step_is_free : (c : List Rule) (word : Text) (w : Walk) (h : Held) (step : Step) → w.stopped ≡ None → IsUsual step
    → IsFree (after_step c word w h step).stopped
unfolding IsFree IsUsual
step_is_free c word w h step goes_on usual = grind arith

turn_is_free : (s : Shape) (names : Names) (w : Walk) (word : Text) → s.disable_help_subcommand ≡ false → IsFree w.stopped
    → turn_passes s names w word ≡ true → IsFree (walked s.rules names w word).stopped
unfolding walked IsFree
turn_is_free s names w word enabled free passes =
    let met = word_met s.rules names w.is_trailing w.waiting w.position word w.held in
    grind (arith, met_is_usual s names w.is_trailing w.waiting w.position word w.held enabled, step_is_free s.rules word w met.0 met.1)

-- where the command's own level takes the words, its walk stops at no `help`
pub stops_at_no_help : (words : List Text) → walk_passes (built desk).top (names_of (built desk)) (walk_from nothing_held) words ≡ true
    → IsFree (stop_after (built desk).top.rules (names_of (built desk)) words)
unfolding IsFree
stops_at_no_help words passes =
    let s : Shape = (built desk).top in
    walk_keeps (λ w. IsFree w.stopped) s (names_of (built desk)) (walk_from nothing_held) words
    (λ w word turn free. turn_is_free s (names_of (built desk)) w word refl free turn) passes tt

-- a word that means `help` is `help`
pub answers_help : (word : Text) → is_help word ≡ false → bytes_eq (codes "help") word ≡ true → ⊥
answers_help word free answers =
    let same : codes "help" ≡ word = (bytes_eq-Decides (codes "help") word).0 answers in
    let help : is_help word ≡ true = (bytes_eq-Decides word (codes "help")).1 (sym same) in
    cc
