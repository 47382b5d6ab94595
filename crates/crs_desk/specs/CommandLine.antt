-- The command line: what `clap`'s definition of the commands gives for the words.
use Rattle.std.specs.Prelude.{◌≡◌, ◌≢◌, ◌==◌, ◌&&◌, ◌||◌, [], ◌∷◌, Bool, true, false, not, List, Option, Some, None, codes, option_and_then, if◌then◌else◌}
use Rattle.std.specs.Str.{bytes_eq}
use Rattle.clap.specs.Words.{App, IsAmong, Rule, Shape, Text, fault_of, kind_of, new_app, new_rule, subcommand_of, takes, with_rule, with_subcommand}
use Rattle.clap.specs.Simple.{new_shape, on_top}
use Rattle.crs_desk.specs.declared.line.requests.Request.{Request}
use Rattle.crs_desk.specs.declared.line.requests.RequestFault.{RequestFault}
use Rattle.crs_desk.specs.declared.line.requests.RequestFault.TheVariants.{Line, Memory}
use Rattle.clap.specs.declared.builder.action.ArgAction.TheVariants.{Append, SetTrue}
use Rattle.clap.specs.declared.error.kind.ErrorKind.TheVariants as kind
use Rattle.crs_desk.specs.Requests.{request_of}

-- an operand that may be left out, one word
abbrev pub spare_operand : Text → Rule
spare_operand id = record (new_rule id) { value_names = 1 }

-- an operand that must be given, one word
abbrev pub operand : Text → Rule
operand id = record (spare_operand id) { required = true }

-- the option `--level`, which takes one word
abbrev pub level_option : Rule
level_option = record (new_rule (codes "level")) { long = Some (codes "level"); value_names = 1 }

-- the option `--rules`, which takes one word each time that it stands
abbrev pub rules_option : Rule
rules_option = record (new_rule (codes "rules")) { long = Some (codes "rules"); value_names = 1; action = Some Append }

-- the option `--used`, which takes one word each time that it stands
abbrev pub used_option : Rule
used_option = record (new_rule (codes "used")) { long = Some (codes "used"); value_names = 1; action = Some Append }

-- the option `--first`, which takes one word each time that it stands
abbrev pub first_option : Rule
first_option = record (new_rule (codes "order")) { long = Some (codes "first"); value_names = 1; action = Some Append }

-- a flag of this name, which takes no word
abbrev pub flag : Text → Rule
flag name = record (new_rule name) { long = Some name; action = Some SetTrue }

-- the flag `--verbose`, or `-v` (118)
abbrev pub verbose_flag : Rule
verbose_flag = record (flag (codes "verbose")) { short = Some 118 }

-- the flag `--with-name`, or `-H` (72)
abbrev pub name_flag : Rule
name_flag = record (flag (codes "with-name")) { short = Some 72 }

-- names of files, as many words as there are
abbrev pub file_operands : Rule
file_operands = record (spare_operand (codes "file")) { action = Some Append }

-- `canon` or `digest`, which take a level, rules, the flags `--lines` and `--with-name`, files and, as all commands,
-- `--verbose`
abbrev pub spelling_shape : Text → Shape
spelling_shape name = record (new_shape name) {
  rules = level_option ∷ rules_option ∷ flag (codes "lines") ∷ name_flag ∷ file_operands ∷ verbose_flag ∷ [];
}

-- `check`, which takes these flags, `--json` and files
abbrev pub check_shape : Shape
check_shape = record (new_shape (codes "check")) {
  rules = flag (codes "json") ∷ flag (codes "lines") ∷ name_flag ∷ file_operands ∷ verbose_flag ∷ [];
}

-- `group`, which takes a level, rules, the flags `--json`, `--repeated`, `--names`, `--files` and `--with-name`, and files
abbrev pub group_shape : Shape
group_shape = record (new_shape (codes "group")) {
  rules = level_option ∷ rules_option ∷ flag (codes "json") ∷ flag (codes "repeated") ∷ flag (codes "names")
      ∷ flag (codes "files") ∷ name_flag ∷ file_operands ∷ verbose_flag ∷ [];
}

-- `rules`, which takes the option `--used`, the flag `--with-name` and files
abbrev pub rules_shape : Shape
rules_shape = record (new_shape (codes "rules")) { rules = used_option ∷ name_flag ∷ file_operands ∷ verbose_flag ∷ [] }

-- `same`, which needs a first operand and a second, and takes a level, rules and the flags `--files` and `--json`
abbrev pub same_shape : Shape
same_shape = record (new_shape (codes "same")) {
  rules = operand (codes "first") ∷ operand (codes "second") ∷ level_option ∷ rules_option
      ∷ flag (codes "files") ∷ flag (codes "json") ∷ verbose_flag ∷ [];
}

-- `explain`, which may have a first operand and a second, and takes the flag `--json`, the option
-- `--first`, and what `same` takes
abbrev pub explain_shape : Shape
explain_shape = record (new_shape (codes "explain")) {
  rules = spare_operand (codes "first") ∷ spare_operand (codes "second") ∷ flag (codes "json")
      ∷ first_option ∷ level_option ∷ rules_option ∷ flag (codes "files") ∷ verbose_flag ∷ [];
}

-- `crsdesk` alone; it has a version, and needs one of its commands
abbrev pub lone_desk : App
lone_desk =
    on_top (λ s. record s { has_version = true; subcommand_required = true })
    (new_app (codes "crsdesk"))

-- `crsdesk` with all its commands, before which `--verbose` may stand too
abbrev pub desk : App
desk =
    with_subcommand (with_subcommand (with_subcommand (with_subcommand (with_subcommand (with_subcommand (with_subcommand
    (with_rule lone_desk verbose_flag) (spelling_shape (codes "canon"))) (spelling_shape (codes "digest"))) check_shape)
    group_shape) same_shape) explain_shape) rules_shape

-- what the words ask for, where the command takes them; the first of them is the program's name
abbrev pub asked : List Text → Option Request
asked words = if takes desk words then option_and_then request_of (subcommand_of desk words) else None

-- a word that is no flag: it doesn't begin with a hyphen, or is one
abbrev pub is_plain_word : Text → Bool
is_plain_word [] = true
is_plain_word (byte ∷ []) = true
is_plain_word (byte ∷ next ∷ rest) = not (byte == 45)

-- whether the words behind the program's name ask for the reasons of faults: one before the first `--` is `-v` or `--verbose`
abbrev pub is_verbose : List Text → Bool
is_verbose [] = false
is_verbose (word ∷ words) =
    not (bytes_eq word (codes "--"))
    && (bytes_eq word (codes "-v") || bytes_eq word (codes "--verbose") || is_verbose words)

-- a flag before other words, where it is asked for
abbrev pub if_asked : Bool → Text → List Text → List Text
if_asked is flag words = if is then flag ∷ words else words

-- a line is refused only where the command doesn't take it, by an error that it gives for the
-- words; out of memory is another fault
abbrev pub IsRefusal : List Text → RequestFault → Type 0
IsRefusal words (Line error) =
    (kind_of error ≢ kind.OutOfMemory) × (takes desk words ≡ false)
    × IsAmong (kind_of error) (fault_of desk words)
IsRefusal words (Memory error) = Unit {0}
