-- A line that the command takes asks for something.
use Rattle.std.proofs.Common.{arith, ◌≡◌, List, [], ◌∷◌, Option, Some, None, IsSome, Bool, true, false, inl, inr, cond, ap, ◌∙◌, refl, subst, sym, is_some, option_and_then, option_map, find}
use Rattle.std.specs.Option.{option_map_or}
use Rattle.std.proofs.Math.Bool.{or-false}
use Rattle.std.proofs.lemmas.Bool.{false_from_ne_true}
use Rattle.clap.specs.Words.{App, HasKind, HasMatchesOf, Row, Shape, Text, app_of, built, fault_of, is_simple, is_simple_and_free, kind_of, subcommand_of, subcommand_rows_of, takes}
use Rattle.clap.specs.Simple.{argument_words, entered, label_of, names_of, rows_at}
use Rattle.clap.specs.Takes.{entered_passes, level_passes, settle_passes, walk_passes}
use Rattle.clap.specs.Walk.{answers_to, nothing_held, stop_after, walk, walk_from}
use Rattle.clap.specs.declared.builder.command.Command.{Command}
use Rattle.clap.specs.declared.parser.matches.ArgMatches.{ArgMatches}
use Rattle.clap.specs.declared.error.Error.{Error}
use Rattle.clap.specs.declared.error.kind.ErrorKind.TheVariants as kind
use Rattle.clap.proofs.WalkLemmas.{both}
use Rattle.crs_desk.specs.declared.line.requests.RequestFault.{RequestFault}
use Rattle.crs_desk.specs.declared.line.requests.RequestFault.TheVariants.{Line, Memory}
use Rattle.crs_desk.proofs.HelpLemmas.{IsFree, answers_help, stops_at_no_help}
use Rattle.crs_desk.proofs.OperandLemmas.{same_asks}
use Rattle.crs_desk.specs.Requests.{request_of}
use Rattle.crs_desk.specs.CommandLine.{IsRefusal, asked, desk}
use Rattle.crs_desk.specs.inner.HandedOn.{HandsOn}

-- the words are a request of the shape, where it answers and takes them
IsKnown : (Shape → Bool) → List Text → Shape → Type 0
IsKnown answers words s = answers s ≡ true → level_passes s [] nothing_held words false ≡ true → IsSome (request_of (rows_at s words))

AreKnown : (Shape → Bool) → List Text → List Shape → Type 0
AreKnown answers words [] = Unit {0}
AreKnown answers words (s ∷ shapes) = IsKnown answers words s × AreKnown answers words shapes

entered_at : List Text → Option Shape → Option (Text × List Row)
entered_at words found = option_map (λ s. rows_at s words) found

passes_at : List Text → Option Shape → Bool
passes_at words found = option_map_or (λ s. level_passes s [] nothing_held words false) found true

known_among : (words : List Text) (answers : Shape → Bool) (shapes : List Shape) → AreKnown answers words shapes
    → passes_at words (find answers shapes) ≡ true → IsSome (entered_at words (find answers shapes))
    → IsSome (option_and_then request_of (entered_at words (find answers shapes)))
unfolding IsKnown AreKnown entered_at passes_at
known_among words answers [] known passes some = cc
known_among words answers (s ∷ shapes) known passes some = grind (arith, known.0, known_among words answers shapes known.1)

stop_asks : (stop : Option (Text × List Text)) → IsFree stop → entered_passes (built desk) stop ≡ true → IsSome (entered (built desk) stop)
    → IsSome (option_and_then request_of (entered (built desk) stop))
unfolding IsKnown AreKnown entered_at passes_at IsFree
stop_asks None free passes some = cc
stop_asks (Some stop) free passes some =
    known_among stop.1 (λ s. answers_to stop.0 (label_of s)) (built desk).subs (
      (λ answers taken. refl),
      (
        (λ answers taken. refl),
        (
          (λ answers taken. refl),
          (
            (λ answers taken. refl),
            (
              (λ answers taken. same_asks stop.1 taken),
              (
                (λ answers taken. refl),
                ((λ answers taken. refl), ((λ answers taken. absurd (answers_help stop.0 free (sym (or-false _) ∙ answers))), tt)),
              ),
            ),
          ),
        ),
      ),
    ) passes some

line_asks : (words : List Text) → takes desk words ≡ true → IsSome (option_and_then request_of (subcommand_of desk words))
line_asks words taken =
    let a : App = built desk in
    let given = argument_words desk words in
    let stop = stop_after a.top.rules (names_of a) given in
    let end = (walk a.top.rules (names_of a) nothing_held given).held in
    let levels = both (entered_passes a stop) (level_passes a.top (names_of a) nothing_held given (is_some (entered a stop))) taken in
    let walks = both (walk_passes a.top (names_of a) (walk_from nothing_held) given) _ levels.1 in
    let settles = both (settle_passes a.top.rules a.top.args_override_self end) _ walks.1 in
    let some : is_some (entered a stop) ≡ true = (both (is_some (entered a stop)) _ settles.1).0 in
    stop_asks stop (stops_at_no_help given walks.0) levels.0 some

asked_if : (words : List Text) → takes desk words ≡ true → asked words ≡ option_and_then request_of (subcommand_of desk words)
asked_if words taken = ap (λ is. cond is (option_and_then request_of (subcommand_of desk words)) None) taken

pub taken_asks : (words : List Text) → takes desk words ≡ true → IsSome (asked words)
taken_asks words taken = subst IsSome (sym (asked_if words taken)) (line_asks words taken)

pub asked_is : (command : Command) (words : List Text) (matches : ArgMatches) → app_of command ≡ desk
    → HasMatchesOf (app_of command) words matches → takes desk words ≡ true
    → asked words ≡ option_and_then request_of (subcommand_rows_of matches)
asked_is command words matches shape found taken =
    let same : subcommand_rows_of matches ≡ subcommand_of desk words = (found (ap is_simple shape)).1 ∙ ap (λ (a : App). subcommand_of a words) shape in
    asked_if words taken ∙ sym (ap (λ rows. option_and_then request_of rows) same)

pub no_fault : (command : Command) (words : List Text) → app_of command ≡ desk
    → (is_simple_and_free (app_of command) ≡ true → fault_of (app_of command) words ≡ []) → fault_of desk words ≡ []
no_fault command words shape kinds = ap (λ (a : App). fault_of a words) (sym shape) ∙ kinds (ap is_simple_and_free shape)

pub is_refusal : (words : List Text) (error : Error) (fault : RequestFault)
    → (takes desk words ≡ true → kind_of error ≡ kind.OutOfMemory) → HasKind (fault_of desk words) error
    → HandsOn error fault → IsRefusal words fault
is_refusal words error (Line shown) passes fails handed = (
  rw handed.0 handed.1,
  false_from_ne_true (takes desk words) (λ taken. handed.1 (passes taken)),
  rw handed.0 (elim fails [ inl memory ↦ absurd (handed.1 memory) | inr given ↦ given ]),
)
is_refusal words error (Memory want) passes fails handed = tt
