use Rattle.std.proofs.Common.{[], codes, refl, ◌∷◌}
use Rattle.clap.proofs.OnLiterals.{clap_on_literals}
use Rattle.crs_desk.proofs.AskedLemmas.{literal, plainly_given, rules, words_asked}
use Rattle.crs_desk.proofs.laws.line.rules_are_judged.Goals as goal

pub returns : goal.returns
unfolding clap_on_literals
returns c = record {
  alone = λ program. refl;
  one = λ program name usual. words_asked rules program (plainly_given name usual ∷ []) refl;
  two = λ program name other usual one. words_asked rules program (plainly_given name usual ∷ plainly_given other one ∷ []) refl;
  named = λ program name usual. words_asked rules program (literal (codes "-H") ∷ plainly_given name usual ∷ []) refl;
  used = λ program texts name usual one. words_asked rules program (literal (codes "--used") ∷ plainly_given texts usual ∷ plainly_given name one ∷ []) refl;
  twice = λ program one other. refl;
  level = λ program level. refl;
  rules = λ program file. refl;
}
