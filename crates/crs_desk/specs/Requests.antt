-- What a command line asks for, by the name of its command and the matches that `clap` gives.
use Rattle.std.specs.Prelude.{◌≡◌, ◌==◌, ◌||◌, [], ◌∷◌, ℕ, Bool, false, List, Option, Some, None, IsSome, codes, map, unwrap_or, if◌then◌else◌}
use Rattle.std.specs.List.{flat_map}
use Rattle.std.specs.Str.{bytes_eq}
use Rattle.clap.specs.Words.{Row, Text, all_of, first_of}
use Rattle.crs_value.specs.Sound.{Each}
use Rattle.crs_value.specs.declared.values.level.Level.{Level}
use Rattle.crs_value.specs.declared.values.level.Level.TheVariants.{Full, Definition}
use Rattle.crs_group.specs.GroupOutput.{plain}
use Rattle.crs_group.specs.declared.listing.Listing.{Listing}
use Rattle.crs_same.specs.Paths.{step_text}
use Rattle.crs_same.specs.declared.step.Step.{Step}
use Rattle.crs_same.specs.declared.step.Step.TheVariants as step
use Rattle.crs_desk.specs.declared.line.job.Job.{Job}
use Rattle.crs_desk.specs.declared.line.job.JobFault.{JobFault}
use Rattle.crs_desk.specs.declared.line.job.JobFault.TheVariants as fault
use Rattle.crs_desk.specs.declared.line.requests.Request.{Request}
use Rattle.crs_desk.specs.declared.line.requests.Request.TheVariants.{Canon, Check, Same, Group, Other}
use Rattle.crs_desk.specs.declared.line.requests.Comparison.TheVariants as comparison
use Rattle.crs_desk.specs.declared.line.requests.LinePair.{LinePair}
use Rattle.crs_desk.specs.declared.line.requests.Work.{Work}
use Rattle.crs_desk.specs.declared.line.requests.Work.TheVariants as work
use Rattle.crs_desk.specs.declared.line.requests.Task.{Task}
use Rattle.crs_desk.specs.declared.line.requests.Task.TheVariants as task
use Rattle.crs_desk.specs.declared.line.requests.Layout.{Layout}
use Rattle.crs_desk.specs.declared.line.requests.Layout.TheVariants.{Lines, OneText}
use Rattle.crs_desk.specs.declared.line.word.WordKind.{WordKind}
use Rattle.crs_desk.specs.declared.line.word.WordKind.TheVariants as word
use Rattle.crs_desk.specs.declared.runs.manner.Manner.{Manner}
use Rattle.crs_desk.specs.declared.runs.manner.Manner.TheVariants as manner

-- the level among a command's matches: `full` where none is named
abbrev pub level_of : List Row → Text
level_of rows = unwrap_or (first_of (codes "level") rows) (codes "full")

-- whether a flag is among a command's matches: its value is `true` there
abbrev pub has_flag : Text → List Row → Bool
has_flag name rows = bytes_eq (unwrap_or (first_of name rows) (codes "false")) (codes "true")

-- all words of an operand or an option among a command's matches
abbrev pub words_of : Text → List Row → List Text
words_of name rows = unwrap_or (all_of name rows) []

-- the rules files among a command's matches
abbrev pub rules_of : List Row → List Text
rules_of rows = words_of (codes "rules") rows

-- the name of standard input among those of files
abbrev pub standard : List Text
standard = codes "-" ∷ []

-- how texts stand in the input of a command, by its matches: a text on each line with `--lines`
abbrev pub layout_of : List Row → Layout
layout_of rows = if has_flag (codes "lines") rows then Lines else OneText

-- what the operands of `same` and `explain` are: with `--files` names of files, else texts
abbrev pub kind_of_words : List Row → WordKind
kind_of_words rows = if has_flag (codes "files") rows then word.FileName else word.Text

-- how a command explains: with `--json` in objects
abbrev pub manner_of : List Row → Manner
manner_of rows = if has_flag (codes "json") rows then manner.Objects else manner.Lines

-- which groups `group` writes, by its flags
abbrev pub listing_of : List Row → Listing
listing_of rows = record {
  repeated = has_flag (codes "repeated") rows;
  names = has_flag (codes "names") rows;
  files = has_flag (codes "files") rows;
  json = has_flag (codes "json") rows;
}

-- the request to compare two texts or files as `same` does: texts alone are one of their own
abbrev pub same_for : Text → List Text → WordKind → List Text → LinePair → Request
same_for level order word.Text [] pair = Same pair.first pair.second level
same_for level order kind rules pair = Other level order (work.Pair (comparison.Same manner.Lines) pair)

-- the request for some work, at a level, with words of paths
abbrev pub request_for : Text → List Text → Work → Request
request_for level order (work.Standard (task.Canon OneText)) = Canon level
request_for level order (work.Standard (task.Check OneText manner.Lines)) = Check
request_for level order (work.Standard (task.Group listing)) =
    if ((listing.repeated || listing.names) || listing.files) || listing.json then
    Other level order (work.Standard (task.Group listing))
    else Group level
request_for level order (work.Pair (comparison.Same manner.Lines) pair) = same_for level order pair.kind pair.rules pair
request_for level order other = Other level order other

-- the request for some work, with the level and the words of `--first` among a command's matches
abbrev pub asked_for : Work → List Row → Request
asked_for wanted rows = request_for (level_of rows) (words_of (codes "order") rows) wanted

-- a task over files, or over standard input where there are none, under rules where there are some;
-- with names of files or without
abbrev pub file_work : Task → Bool → List Text → List Text → Work
file_work asked false [] [] = work.Standard asked
file_work asked named [] rules = work.Files asked standard rules named
file_work asked named names rules = work.Files asked names rules named

-- whether each line is to begin with the file's name
abbrev pub is_named : List Row → Bool
is_named rows = has_flag (codes "with-name") rows

-- a task over the files among a command's matches, or over standard input where it names none
abbrev pub over_files : Task → List Row → Request
over_files asked rows = asked_for (file_work asked (is_named rows) (words_of (codes "file") rows) (rules_of rows)) rows

-- two operands, and the rules among a command's matches
abbrev pub pair_of : List Row → Text → Text → LinePair
pair_of rows first second = record { kind = kind_of_words rows; first = first; second = second; rules = rules_of rows }

-- both operands of `same` are compared where they are there
abbrev pub same_operands : List Row → Option Text → Option Text → Option Request
same_operands rows (Some first) (Some second) =
    Some (asked_for (work.Pair (comparison.Same (manner_of rows)) (pair_of rows first second)) rows)
same_operands rows first second = None

-- those among its matches
abbrev pub same_of : List Row → Option Request
same_of rows = same_operands rows (first_of (codes "first") rows) (first_of (codes "second") rows)

-- both operands of `explain` are compared, the first alone is explained, or else standard input
abbrev pub explain_operands : List Row → Option Text → Option Text → Work
explain_operands rows None second = file_work (task.Explain (manner_of rows)) false [] (rules_of rows)
explain_operands rows (Some first) None =
    if has_flag (codes "files") rows then
    work.Files (task.Explain (manner_of rows)) (first ∷ []) (rules_of rows) false
    else work.Text (manner_of rows) first (rules_of rows)
explain_operands rows (Some first) (Some second) =
    work.Pair (comparison.Explain (manner_of rows)) (pair_of rows first second)

-- those among its matches
abbrev pub explain_work : List Row → Work
explain_work rows = explain_operands rows (first_of (codes "first") rows) (first_of (codes "second") rows)

-- these files, or standard input where there are none
abbrev pub or_standard : List Text → List Text
or_standard [] = standard
or_standard (name ∷ names) = name ∷ names

-- the rules files among a command's matches are judged, and used in the files of texts that it names
abbrev pub rules_work : List Row → Work
rules_work rows = work.Rules (or_standard (words_of (codes "file") rows)) (words_of (codes "used") rows) (is_named rows)

-- the request of a command's name and of its matches
abbrev pub request_of : Text × List Row → Option Request
request_of (name, rows) =
    if bytes_eq name (codes "canon") then Some (over_files (task.Canon (layout_of rows)) rows)
    else (if bytes_eq name (codes "digest") then Some (over_files (task.Digest (layout_of rows)) rows)
    else (if bytes_eq name (codes "check") then Some (over_files (task.Check (layout_of rows) (manner_of rows)) rows)
    else (if bytes_eq name (codes "same") then same_of rows
    else (if bytes_eq name (codes "group") then Some (over_files (task.Group (listing_of rows)) rows)
    else (if bytes_eq name (codes "rules") then Some (asked_for (rules_work rows) rows)
    else (if bytes_eq name (codes "explain") then Some (asked_for (explain_work rows) rows) else None))))))

-- the level that a word names
abbrev pub level_named : Text → Option Level
level_named level =
    if bytes_eq level (codes "full") then Some Full
    else (if bytes_eq level (codes "definition") then Some Definition else None)

-- these words with a byte more, the first of the first
abbrev pub begun_with : ℕ → List Text → List Text
begun_with b [] = (b ∷ []) ∷ []
begun_with b (word ∷ words) = (b ∷ word) ∷ words

-- the words of a text, which commas (44) part
abbrev pub parted : Text → List Text
parted [] = [] ∷ []
parted (b ∷ text) = if b == 44 then [] ∷ parted text else begun_with b (parted text)

-- the word of a path that a word stands for: `axis` for `axes` too
abbrev pub word_meant : Text → Text
word_meant word = if bytes_eq word (codes "axes") then codes "axis" else word

-- the words of paths that a text after `--first` asks for
abbrev pub words_meant : Text → List Text
words_meant text = map word_meant (parted text)

-- those of all such texts
abbrev pub order_of : List Text → List Text
order_of given = flat_map words_meant given

-- the word of a step of a path: its text, of an axis without the position
abbrev pub word_of : Step → Text
word_of (step.Axis position) = codes "axis"
word_of other = step_text other

-- a word is in paths: it is that of a step
abbrev pub IsInPaths : Text → Type 0
IsInPaths word = (step : Step) × (word_of step ≡ word)

-- a job does some work at the level that a word names, and tells the words first for which texts ask, all of which are
-- in paths
abbrev pub DoesAt : Text → List Text → Work → Job → Type 0
DoesAt level order wanted job =
    (Some job.level ≡ level_named level) × (job.order.items ≡ order_of order) × Each IsInPaths (order_of order)
    × (job.work ≡ wanted)

-- a job does what a request asks for
abbrev pub IsJobOf : Request → Job → Type 0
IsJobOf (Canon level) job = DoesAt level [] (work.Standard (task.Canon OneText)) job
IsJobOf Check job = DoesAt (codes "full") [] (work.Standard (task.Check OneText manner.Lines)) job
IsJobOf (Same first second level) job =
    DoesAt level [] (work.Pair (comparison.Same manner.Lines)
    (record { kind = word.Text; first = first; second = second; rules = [] })) job
IsJobOf (Group level) job = DoesAt level [] (work.Standard (task.Group plain)) job
IsJobOf (Other level order wanted) job = DoesAt level order wanted job

-- a word names no level, or one does and not each word that is asked for is in paths; or memory ran out
abbrev pub IsJobFaultAt : Text → List Text → JobFault → Type 0
IsJobFaultAt level order fault.Level = level_named level ≡ None
IsJobFaultAt level order fault.Part = IsSome (level_named level) × (¬ (Each IsInPaths (order_of order)))
IsJobFaultAt level order fault.Memory = Unit {0}

-- why a request is no job
abbrev pub IsJobFault : Request → JobFault → Type 0
IsJobFault (Canon level) why = IsJobFaultAt level [] why
IsJobFault Check why = ⊥
IsJobFault (Same first second level) why = IsJobFaultAt level [] why
IsJobFault (Group level) why = IsJobFaultAt level [] why
IsJobFault (Other level order wanted) why = IsJobFaultAt level order why
