-- A command with some arguments or subcommands more.
use Rattle.std.proofs.Common.{◌≡◌, ◌∙◌, ◌++◌, ◌∷◌, [], List, Result, Ok, Err, IfOk, IsOkAnd, ap, ap₂, append-nil, append_assoc, false, sym, ◌||◌}
use Rattle.clap.specs.Words.{App, Rule, Shape, app_of, rule_of, shape_of, with_rule, with_subcommand}
use Rattle.clap.specs.Built.{AddsArg, AddsSubcommand}
use Rattle.clap.specs.declared.builder.arg.Arg.{Arg}
use Rattle.clap.specs.declared.builder.command.Command.{Command}
use Rattle.clap.specs.declared.builder.command.Command.TheViews.{out-Command as fields_of}
use Rattle.std.specs.declared.alloc.AllocError.{AllocError}

-- a command, or memory ran out
abbrev pub Making : Type 0
Making = Result Command AllocError

-- a command that was made has no argument that goes for all commands
abbrev pub IsLocal : Making → Type 0
IsLocal made = IfOk made (λ c. (fields_of c).has_globals ≡ false)

abbrev pub with_rules : Shape → List Rule → Shape
with_rules s more = record s { rules = s.rules ++ more }

-- a command that was made of another has these arguments more
pub record Grows (start made : Making) (more : List Rule) : Type 0 where
  pub shape : IfOk made (λ whole. IsOkAnd start (λ old. shape_of whole ≡ with_rules (shape_of old) more))
  pub globals : IsLocal made

pub grows_none : (start : Making) → IsLocal start → Grows start start []
grows_none (Err e) globals = record { shape = tt; globals = tt }
grows_none (Ok old) globals =
    record { shape = sym (ap (λ l. record (shape_of old) { rules = l }) (append-nil (shape_of old).rules)); globals = globals }

-- one argument more
pub grows_one : {start made next : Making} {more : List Rule} {rule : Rule} (a : Arg) → Grows start made more
    → IfOk next (λ whole. IsOkAnd made (λ old. AddsArg old a whole)) → a.global ≡ false → rule_of a ≡ rule → Grows start next (more ++ rule ∷ [])
grows_one {next = Err e} a grows adds local is = record { shape = tt; globals = tt }
grows_one {made = Err e} {next = Ok whole} a grows adds local is = absurd adds
grows_one {start = Err e} {made = Ok old} {next = Ok whole} a grows adds local is = absurd grows.shape
grows_one {start = Ok first} {made = Ok old} {next = Ok whole} {more = more} {rule = rule} a grows adds local is = record {
  shape = ap (λ (x : App). x.top) (adds.shape local) ∙ ap₂ (λ s r. with_rules s (r ∷ [])) grows.shape is
      ∙ ap (λ l. record (shape_of first) { rules = l }) (append_assoc (shape_of first).rules more (rule ∷ []));
  globals = adds.globals ∙ ap₂ (λ x y. x || y) grows.globals local;
}

-- what a command becomes by a change
pub changed : (made next : Making) (change : Shape → Shape) (s : Shape) → IfOk next (λ whole. IsOkAnd made (λ old. shape_of whole ≡ change (shape_of old)))
    → IfOk made (λ old. shape_of old ≡ s) → IfOk next (λ whole. shape_of whole ≡ change s)
changed made (Err e) change s changes is = tt
changed (Err e) (Ok whole) change s changes is = absurd changes
changed (Ok old) (Ok whole) change s changes is = changes ∙ ap change is

-- and by arguments more
pub grown : {start made : Making} {more : List Rule} (s : Shape) → Grows start made more → IfOk start (λ old. shape_of old ≡ s)
    → IfOk made (λ whole. shape_of whole ≡ with_rules s more)
grown {more = more} s grows is = changed _ _ (λ t. with_rules t more) s grows.shape is

-- a command that was made has these commands below it
pub record HasCommands (made : Making) (a : App) : Type 0 where
  pub shape : IfOk made (λ c. app_of c ≡ a)
  pub globals : IsLocal made

-- one argument more
pub adds_argument : {made next : Making} {app : App} {rule : Rule} (a : Arg) → HasCommands made app
    → IfOk next (λ whole. IsOkAnd made (λ old. AddsArg old a whole)) → a.global ≡ false → rule_of a ≡ rule → HasCommands next (with_rule app rule)
adds_argument {next = Err e} a has adds local is = record { shape = tt; globals = tt }
adds_argument {made = Err e} {next = Ok whole} a has adds local is = absurd adds
adds_argument {made = Ok old} {next = Ok whole} a has adds local is =
    record { shape = adds.shape local ∙ ap₂ with_rule has.shape is; globals = adds.globals ∙ ap₂ (λ x y. x || y) has.globals local }

-- one command more
pub adds_command : {made next : Making} {a : App} (part : Making) (s : Shape) → HasCommands made a → IfOk part (λ c. shape_of c ≡ s) → IsLocal part
    → IfOk next (λ whole. IsOkAnd made (λ old. IsOkAnd part (λ p. AddsSubcommand old p whole))) → HasCommands next (with_subcommand a s)
adds_command {next = Err e} part s has is local adds = record { shape = tt; globals = tt }
adds_command {made = Err e} {next = Ok whole} part s has is local adds = absurd adds
adds_command {made = Ok old} {next = Ok whole} (Err e) s has is local adds = absurd adds
adds_command {made = Ok old} {next = Ok whole} (Ok p) s has is local adds =
    record { shape = adds.shape local ∙ ap₂ with_subcommand has.shape is; globals = adds.globals ∙ ap₂ (λ x y. x || y) has.globals local }
