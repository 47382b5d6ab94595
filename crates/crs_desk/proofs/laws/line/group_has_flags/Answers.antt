use Rattle.std.proofs.Common.{◌≡◌, [], ◌∷◌, Bool, Some, codes, false, refl, true}
use Rattle.clap.proofs.OnLiterals.{clap_on_literals}
use Rattle.clap.specs.Words.{Text}
use Rattle.crs_desk.specs.CommandLine.{asked, if_asked}
use Rattle.crs_desk.specs.Requests.{request_for}
use Rattle.crs_desk.specs.declared.line.requests.Task.TheVariants as task
use Rattle.crs_desk.specs.declared.line.requests.Work.TheVariants as work
use Rattle.crs_desk.proofs.AskedLemmas.{group, literal, plainly_given, words_asked}
use Rattle.crs_desk.proofs.laws.line.group_has_flags.Goals as goal

each_asked : (program : Text) (json repeated names files : Bool) → asked (program ∷ codes "group"
    ∷ if_asked json (codes "--json") (if_asked repeated (codes "--repeated") (if_asked names (codes "--names") (if_asked files (codes "--files") []))))
    ≡ Some (request_for (codes "full") [] (work.Standard (task.Group (record { repeated = repeated; names = names; files = files; json = json }))))
unfolding clap_on_literals
each_asked program true true true true = refl
each_asked program true true true false = refl
each_asked program true true false true = refl
each_asked program true true false false = refl
each_asked program true false true true = refl
each_asked program true false true false = refl
each_asked program true false false true = refl
each_asked program true false false false = refl
each_asked program false true true true = refl
each_asked program false true true false = refl
each_asked program false true false true = refl
each_asked program false true false false = refl
each_asked program false false true true = refl
each_asked program false false true false = refl
each_asked program false false false true = refl
each_asked program false false false false = refl

pub returns : goal.returns
unfolding clap_on_literals
returns c = record {
  each = each_asked;
  both = λ program. refl;
  before = λ program level usual. words_asked group program (literal (codes "--repeated") ∷ literal (codes "--level") ∷ plainly_given level usual ∷ []) refl;
  after = λ program level usual. words_asked group program (literal (codes "--level") ∷ plainly_given level usual ∷ literal (codes "--repeated") ∷ []) refl;
}
