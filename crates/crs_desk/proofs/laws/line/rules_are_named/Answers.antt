use Rattle.std.proofs.Common.{[], ◌∷◌, codes, refl}
use Rattle.clap.proofs.OnLiterals.{clap_on_literals}
use Rattle.crs_desk.proofs.AskedLemmas.{canon, explain, group, literal, plainly_given, same, words_asked}
use Rattle.crs_desk.proofs.laws.line.rules_are_named.Goals as goal

pub returns : goal.returns
unfolding clap_on_literals
returns c = record {
  canon = λ program file usual. words_asked canon program (literal (codes "--rules") ∷ plainly_given file usual ∷ []) refl;
  twice = λ program one other. refl;
  same = λ program file first second usual one other.
      words_asked same program (literal (codes "--rules") ∷ plainly_given file usual ∷ plainly_given first one ∷ plainly_given second other ∷ []) refl;
  file = λ program file name usual one. words_asked canon program (literal (codes "--rules") ∷ plainly_given file usual ∷ plainly_given name one ∷ []) refl;
  group = λ program file usual. words_asked group program (literal (codes "--rules") ∷ plainly_given file usual ∷ []) refl;
  same_files = λ program file first second usual one other. words_asked same program
      (literal (codes "--files") ∷ literal (codes "--rules") ∷ plainly_given file usual ∷ plainly_given first one ∷ plainly_given second other ∷ []) refl;
  explain = λ program file usual. words_asked explain program (literal (codes "--rules") ∷ plainly_given file usual ∷ []) refl;
  one = λ program file first usual one. words_asked explain program (literal (codes "--rules") ∷ plainly_given file usual ∷ plainly_given first one ∷ []) refl;
  one_file = λ program file first usual one. words_asked explain program
      (literal (codes "--files") ∷ literal (codes "--rules") ∷ plainly_given file usual ∷ plainly_given first one ∷ []) refl;
  two = λ program file first second usual one other. words_asked explain program
      (literal (codes "--rules") ∷ plainly_given file usual ∷ plainly_given first one ∷ plainly_given second other ∷ []) refl;
  two_files = λ program file first second usual one other. words_asked explain program
      (literal (codes "--files") ∷ literal (codes "--rules") ∷ plainly_given file usual ∷ plainly_given first one ∷ plainly_given second other ∷ []) refl;
  check = λ program file. refl;
}
