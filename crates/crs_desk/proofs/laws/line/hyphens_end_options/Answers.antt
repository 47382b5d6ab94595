use Rattle.std.proofs.Common.{[], ◌∷◌, refl, true}
use Rattle.clap.proofs.OnLiterals.{clap_on_literals}
use Rattle.crs_group.specs.GroupOutput.{plain}
use Rattle.crs_desk.proofs.AskedLemmas.{ReadsFiles, all_asked, canon, check, group}
use Rattle.crs_desk.proofs.laws.line.hyphens_end_options.Goals as goal
use Rattle.crs_desk.specs.declared.line.requests.Layout.TheVariants.{OneText}
use Rattle.crs_desk.specs.declared.runs.manner.Manner.TheVariants.{Lines}
use Rattle.crs_desk.specs.declared.line.requests.Task.TheVariants as task

canon_reads : ReadsFiles canon (task.Canon OneText) true
unfolding clap_on_literals
canon_reads [] last word = ((λ is. (refl, refl)), (λ is. (refl, refl)), refl, refl)
canon_reads (name ∷ names) last word = ((λ is. (refl, refl)), (λ is. (refl, refl)), refl, refl)

check_reads : ReadsFiles check (task.Check OneText Lines) true
unfolding clap_on_literals
check_reads [] last word = ((λ is. (refl, refl)), (λ is. (refl, refl)), refl, refl)
check_reads (name ∷ names) last word = ((λ is. (refl, refl)), (λ is. (refl, refl)), refl, refl)

group_reads : ReadsFiles group (task.Group plain) true
unfolding clap_on_literals
group_reads [] last word = ((λ is. (refl, refl)), (λ is. (refl, refl)), refl, refl)
group_reads (name ∷ names) last word = ((λ is. (refl, refl)), (λ is. (refl, refl)), refl, refl)

pub returns : goal.returns
unfolding clap_on_literals
returns c = record {
  canon = all_asked canon (task.Canon OneText) canon_reads;
  check = all_asked check (task.Check OneText Lines) check_reads;
  group = all_asked group (task.Group plain) group_reads;
  same = λ program first second. refl;
  same_files = λ program first second. refl;
  one = λ program first. refl;
  one_file = λ program first. refl;
  two = λ program first second. refl;
  two_files = λ program first second. refl;
}
