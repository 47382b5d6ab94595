-- Words for which the definition gives no kind of error are words that it takes.
use Rattle.std.proofs.Common.{◌≡◌, ℕ, List, [], ◌∷◌, length, Option, Some, None, Bool, true, false, not, ◌&&◌, ◌||◌, refl, arith, zero, suc, nat_le, is_some, drop, find, encode_utf8, slice_get}
use Rattle.std.specs.List.{list_all, list_any}
use Rattle.std.specs.Option.{option_map_or}
use Rattle.std.specs.Str.{chars}
use Rattle.std.proofs.lemmas.Bool.{and_from}
use Rattle.std.proofs.lemmas.Bool.Decides.{nat_tests}
use Rattle.clap.specs.declared.builder.action.ArgAction.{ArgAction}
use Rattle.clap.specs.Facts.{unwrap_or_range}
use Rattle.clap.specs.Lexer.{long_of, short_of}
use Rattle.clap.specs.Words.{App, Kinds, Row, Rule, Shape, Text, built, fault_of, is_simple, takes}
use Rattle.clap.specs.Simple.{argument_words, entered, label_of, names_of}
use Rattle.clap.specs.Walk.{Held, Names, Step, Waiting, Walk, action_of, answers_to, arg_by_id, arg_by_long, arg_by_short, attached_value, finished, most_values, nothing_held, reacted, settled, values_or_missing, walk, walk_from, walked, word_met}
use Rattle.clap.specs.Takes.{action_passes, bundle_step_passes, bundle_passes, default_passes, entered_passes, flag_word_passes, flags_pass, is_given, is_valid, level_passes, long_passes, option_passes, react_passes, settle_passes, short_passes, step_passes, turn_passes, use_passes, values_pass, walk_passes, word_passes}
use Rattle.clap.specs.Kinds.{or_else, range_kinds}
use Rattle.clap.specs.Faults.{action_fault, bundle_step_fault, bundle_fault, check_fault, entered_fault, flag_word_fault, flags_fault, has_free_rules, level_fault, long_fault, option_fault, react_fault, settle_fault, short_fault, step_fault, turn_fault, use_fault, values_fault, walk_fault, word_fault}
use Rattle.crs_desk.specs.CommandLine.{desk}

-- ---- one use of an argument

values_taken : (a : Rule) (values : List Text) → values_fault a values ≡ [] → values_pass a values ≡ true
values_taken a [] none = refl
values_taken a (v ∷ vs) none = grind (arith, values_taken a vs)

action_taken : (x : ArgAction) (again : Bool) (a : Rule) (values : List Text) (rows : List Row)
    → action_fault x again a values rows ≡ [] → action_passes x again a values rows ≡ true
action_taken x again a values rows none = grind (arith, values_taken a values)

range_taken : (least most n : ℕ) → range_kinds least most n ≡ [] → (nat_le least n ≡ true) × (nat_le n most ≡ true)
range_taken least most n none = grind (arith, nat_tests)

use_taken : (again : Bool) (a : Rule) (values : List Text) (rows : List Row) → use_fault again a values rows ≡ [] → use_passes again a values rows ≡ true
use_taken again a values rows none =
    grind (
      arith,
      range_taken (unwrap_or_range a.range).start_inclusive (most_values a) (length values),
      action_taken (action_of a) again a (values_or_missing a values) rows,
    )

-- ---- the walk

passes_where_some : {X : Type 0} (fault : X → Kinds) (passes : X → Bool) (found : Option X)
    → ((x : X) → fault x ≡ [] → passes x ≡ true) → option_map_or fault found [] ≡ [] → option_map_or passes found true ≡ true
passes_where_some fault passes None each none = refl
passes_where_some fault passes (Some x) each none = each x none

settle_taken : (c : List Rule) (again : Bool) (h : Held) → settle_fault c again h ≡ [] → settle_passes c again h ≡ true
settle_taken c again h none =
    passes_where_some (λ p. option_map_or (λ a. use_fault again a p.1 h.rows) (arg_by_id c p.0) [])
    (λ p. option_map_or (λ a. use_passes again a p.1 h.rows) (arg_by_id c p.0) true) h.pending
    (λ p. passes_where_some (λ a. use_fault again a p.1 h.rows) (λ a. use_passes again a p.1 h.rows) (arg_by_id c p.0)
    (λ a. use_taken again a p.1 h.rows)) none

react_taken : (c : List Rule) (again : Bool) (a : Rule) (values : List Text) (h : Held) → react_fault c again a values h ≡ [] → react_passes c again a values h ≡ true
react_taken c again a values h none = grind (arith, settle_taken c again h, use_taken again a values (settled c h).rows)

option_taken : (c : List Rule) (again : Bool) (a : Rule) (v : Option Text) (h : Held) → option_fault c again a v h ≡ [] → option_passes c again a v h ≡ true
option_taken c again a (Some v) h none = react_taken c again a (v ∷ []) h none
option_taken c again a None h none = settle_taken c again h none

long_taken : (c : List Rule) (again : Bool) (found : Option Rule) (v : Option Text) (h : Held) → long_fault c again found v h ≡ [] → long_passes c again found v h ≡ true
long_taken c again None v h none = cc
long_taken c again (Some a) v h none = grind (arith, option_taken c again a v h, react_taken c again a [] h)

short_taken : (c : List Rule) (again : Bool) (found : Option Rule) (rest : Text) (h : Held) (fault : Held → Kinds) (passes : Held → Bool)
    → ((h : Held) → fault h ≡ [] → passes h ≡ true) → short_fault c again found rest h fault ≡ [] → short_passes c again found rest h passes ≡ true
short_taken c again None rest h fault passes goes_on none = cc
short_taken c again (Some a) rest h fault passes goes_on none =
    grind (arith, option_taken c again a (attached_value rest) h, react_taken c again a [] h, goes_on (reacted c a [] h))

bundle_step_taken : (c : List Rule) (again : Bool) (x : Option ℕ) (flags : Text) (skip : ℕ) (h : Held)
    (fault : Text → ℕ → Held → Kinds) (passes : Text → ℕ → Held → Bool)
    → ((flags : Text) (skip : ℕ) (h : Held) → fault flags skip h ≡ [] → passes flags skip h ≡ true)
    → bundle_step_fault c again x flags skip h fault ≡ [] → bundle_step_passes c again x flags skip h passes ≡ true
bundle_step_taken c again None flags skip h fault passes goes_on none = refl
bundle_step_taken c again (Some x) flags zero h fault passes goes_on none =
    let rest = drop (length (encode_utf8 x)) flags in
    short_taken c again (arg_by_short c x) rest h (fault rest 0) (passes rest 0) (goes_on rest 0) none
bundle_step_taken c again (Some x) flags (suc skip) h fault passes goes_on none = goes_on (drop (length (encode_utf8 x)) flags) skip h none

flags_taken : (c : List Rule) (again : Bool) (k : ℕ) (flags : Text) (skip : ℕ) (h : Held) → flags_fault c again k flags skip h ≡ [] → flags_pass c again k flags skip h ≡ true
unfolding flags_fault flags_pass
flags_taken c again zero flags skip h none = refl
flags_taken c again (suc k) flags skip h none =
    bundle_step_taken c again (slice_get (chars flags) 0) flags skip h (flags_fault c again k) (flags_pass c again k) (flags_taken c again k) none

flag_word_taken : (c : List Rule) (again : Bool) (name : Option (Text × Option Text)) (word : Text) (h : Held)
    → flag_word_fault c again name word h ≡ [] → flag_word_passes c again name word h ≡ true
flag_word_taken c again (Some p) word h none = long_taken c again (arg_by_long c p.0) p.1 h none
flag_word_taken c again None word h none =
    passes_where_some (λ flags. bundle_fault c again flags h) (λ flags. bundle_passes c again flags h) (short_of word)
    (λ flags. flags_taken c again (length flags) flags h.skip (record h { skip = 0 })) none

word_taken : (s : Shape) (names : Names) (is_trailing : Bool) (waiting : Waiting) (word : Text) (h : Held)
    → word_fault s names is_trailing waiting word h ≡ [] → word_passes s names is_trailing waiting word h ≡ true
word_taken s names is_trailing waiting word h none = grind (arith, flag_word_taken s.rules s.args_override_self (long_of word) word h)

step_taken : (s : Shape) (position : ℕ) (h : Held) (step : Step) → step_fault s position h step ≡ [] → step_passes s position h step ≡ true
step_taken s position h step none = grind (arith, settle_taken s.rules s.args_override_self h)

turn_taken : (s : Shape) (names : Names) (w : Walk) (word : Text) → turn_fault s names w word ≡ [] → turn_passes s names w word ≡ true
turn_taken s names w word none =
    let met = word_met s.rules names w.is_trailing w.waiting w.position word w.held in
    grind (arith, word_taken s names w.is_trailing w.waiting word w.held, step_taken s w.position met.0 met.1)

both_taken : (first second : Kinds) (p q : Bool) → (first ≡ [] → p ≡ true) → (second ≡ [] → q ≡ true) → or_else first second ≡ [] → (p && q) ≡ true
both_taken first second p q one other none = grind arith

walk_taken : (s : Shape) (names : Names) (w : Walk) (words : List Text) → walk_fault s names w words ≡ [] → walk_passes s names w words ≡ true
unfolding walk_fault walk_passes
walk_taken s names w [] none = refl
walk_taken s names w (word ∷ words) none =
    both_taken _ _ _ _ (turn_taken s names w word) (walk_taken s names (walked s.rules names w word) words) none

-- ---- after the walk

-- no required argument is missing: each is given, or isn't required
all_given : (rows : List Row) (rules : List Rule)
    → not (list_any (λ a. a.required && not (is_given a.id rows)) rules) ≡ list_all (λ a. not a.required || is_given a.id rows) rules
all_given rows [] = refl
all_given rows (a ∷ rules) = grind (arith, all_given rows rules)

check_taken : (s : Shape) (rows : List Row) (has : Bool) → has_free_rules s ≡ true → check_fault s rows has ≡ [] → is_valid s rows has ≡ true
check_taken s rows has free none = grind (arith, all_given rows s.rules)

-- no default value is refused, and no argument has a rule on another
IsPlain : Shape → Type 0
IsPlain s = (list_all default_passes s.rules ≡ true) × (has_free_rules s ≡ true)

level_taken : (s : Shape) (names : Names) (h : Held) (words : List Text) (has : Bool) (below : Kinds) → IsPlain s
    → level_fault s names h words has below ≡ [] → (below ≡ []) × (level_passes s names h words has ≡ true)
unfolding IsPlain
level_taken s names h words has below plain none =
    let end = (walk s.rules names h words).held in
    grind (arith, walk_taken s names (walk_from h) words, settle_taken s.rules s.args_override_self end, check_taken s (finished s.rules end) has plain.1)

ArePlain : List Shape → Type 0
ArePlain [] = Unit {0}
ArePlain (s ∷ shapes) = IsPlain s × ArePlain shapes

found_taken : (words : List Text) (answers : Shape → Bool) (shapes : List Shape) → ArePlain shapes
    → option_map_or (λ s. level_fault s [] nothing_held words false []) (find answers shapes) [] ≡ []
    → option_map_or (λ s. level_passes s [] nothing_held words false) (find answers shapes) true ≡ true
unfolding ArePlain
found_taken words answers [] plain none = refl
found_taken words answers (s ∷ shapes) plain none =
    grind (arith, found_taken words answers shapes plain.1, level_taken s [] nothing_held words false [] plain.0)

entered_taken : (a : App) (stop : Option (Text × List Text)) → ArePlain a.subs → entered_fault a stop ≡ [] → entered_passes a stop ≡ true
entered_taken a None plain none = refl
entered_taken a (Some stop) plain none = found_taken stop.1 (λ s. answers_to stop.0 (label_of s)) a.subs plain none

-- a line for which the desk gives no kind of error is one that it takes
pub line_taken : (words : List Text) → fault_of desk words ≡ [] → takes desk words ≡ true
unfolding IsPlain ArePlain
line_taken words none =
    let a : App = built desk in
    let given = argument_words desk words in
    let stop = (walk a.top.rules (names_of a) nothing_held given).stopped in
    let level = level_taken a.top (names_of a) nothing_held given (is_some (entered a stop)) (entered_fault a stop) (refl, refl) none in
    and_from (is_simple desk) _ refl (and_from _ _
    (entered_taken a stop ((refl, refl), ((refl, refl), ((refl, refl), ((refl, refl), ((refl, refl), ((refl, refl), ((refl, refl), ((refl, refl), tt)))))))) level.0) level.1)
