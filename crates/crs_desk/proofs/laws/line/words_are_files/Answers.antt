use Rattle.std.proofs.Common.{[], codes, false, refl, ◌∷◌}
use Rattle.clap.proofs.OnLiterals.{clap_on_literals}
use Rattle.clap.specs.Walk.{idle, nothing_held, positional}
use Rattle.crs_group.specs.GroupOutput.{plain}
use Rattle.crs_desk.proofs.AskedLemmas.{ReadsFiles, built_at, canon, check, explain, files_asked, group, literal, plain_turn, plainly_given, same, with_files, words_asked}
use Rattle.crs_desk.proofs.laws.line.words_are_files.Goals as goal
use Rattle.crs_desk.specs.declared.line.requests.Layout.TheVariants.{OneText}
use Rattle.crs_desk.specs.declared.runs.manner.Manner.TheVariants.{Lines}
use Rattle.crs_desk.specs.declared.line.requests.Task.TheVariants as task

canon_reads : ReadsFiles canon (task.Canon OneText) false
canon_reads [] last word = (plain_turn (built_at canon) nothing_held idle 1 word, plain_turn (built_at canon) (with_files [] last) positional 1 word, refl, refl)
canon_reads (name ∷ names) last word =
    (plain_turn (built_at canon) nothing_held idle 1 word, plain_turn (built_at canon) (with_files (name ∷ names) last) positional 1 word, refl, refl)

check_reads : ReadsFiles check (task.Check OneText Lines) false
check_reads [] last word = (plain_turn (built_at check) nothing_held idle 1 word, plain_turn (built_at check) (with_files [] last) positional 1 word, refl, refl)
check_reads (name ∷ names) last word =
    (plain_turn (built_at check) nothing_held idle 1 word, plain_turn (built_at check) (with_files (name ∷ names) last) positional 1 word, refl, refl)

group_reads : ReadsFiles group (task.Group plain) false
group_reads [] last word = (plain_turn (built_at group) nothing_held idle 1 word, plain_turn (built_at group) (with_files [] last) positional 1 word, refl, refl)
group_reads (name ∷ names) last word =
    (plain_turn (built_at group) nothing_held idle 1 word, plain_turn (built_at group) (with_files (name ∷ names) last) positional 1 word, refl, refl)

pub returns : goal.returns
unfolding clap_on_literals
returns c = record {
  canon = files_asked canon (task.Canon OneText) canon_reads;
  check = files_asked check (task.Check OneText Lines) check_reads;
  group = files_asked group (task.Group plain) group_reads;
  same = λ program first second one other. words_asked same program (literal (codes "--files") ∷ plainly_given first one ∷ plainly_given second other ∷ []) refl;
  one = λ program first one. words_asked explain program (literal (codes "--files") ∷ plainly_given first one ∷ []) refl;
  two = λ program first second one other. words_asked explain program (literal (codes "--files") ∷ plainly_given first one ∷ plainly_given second other ∷ []) refl;
}
