use Rattle.std.proofs.Common.{[], codes, refl, ◌∷◌}
use Rattle.clap.proofs.OnLiterals.{clap_on_literals}
use Rattle.crs_desk.proofs.AskedLemmas.{canon, check, explain, group, literal, plainly_given, same, verbose_asked, words_asked}
use Rattle.crs_desk.proofs.laws.line.verbose_changes_no_request.Goals as goal

pub returns : goal.returns
unfolding clap_on_literals
returns c = record {
  canon = verbose_asked canon;
  check = verbose_asked check;
  group = verbose_asked group;
  same = verbose_asked same;
  explain = verbose_asked explain;
  word = λ program. refl;
  behind_canon = λ program. refl;
  behind_check = λ program. refl;
  behind_group = λ program. refl;
  behind_same = λ program first second one other. words_asked same program (plainly_given first one ∷ literal (codes "-v") ∷ plainly_given second other ∷ []) refl;
  behind_explain = λ program first one. words_asked explain program (plainly_given first one ∷ literal (codes "--verbose") ∷ []) refl;
}
