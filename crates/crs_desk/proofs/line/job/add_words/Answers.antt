use Rattle.std.proofs.Common.{[], ◌≡◌, ◌∷◌, arith, refl, rules}
use Rattle.std.proofs.lemmas.Result.{IfErr-weaker, on_ok_weaker}
use Rattle.std.proofs.lemmas.Str.Pattern.{split_parts}
use Rattle.crs_desk.specs.Requests.{word_meant}
use Rattle.crs_desk.proofs.PathWordLemmas.{all_added, more_added, one_faulty, one_word, words_at}
use Rattle.crs_desk.proofs.line.job.add_words.Goals as goal

pub loop-word-init : goal.loop-word-init
loop-word-init c = (search rules, record { order = refl; each = λ each. each; faulty = λ f is. is })

pub loop-word-preserved : goal.loop-word-preserved
loop-word-preserved c =
    let l = c.loop-word in
    let cut = rw c.in-Some.is at (split_parts 44 l.rest.now c.split_once.result c.split_once.ensures.cases (omega arith)) in
    let words = words_at l.rest.now c.in-Some.word.now c.in-Some.left.now cut in (
      search rules,
      more_added _ _ _ _ (word_meant c.in-Some.word.now ∷ []) _ _ l.invariant.1 words
          (c.in_ok-add_word.ensures.ok.0, (c.in_ok-add_word.ensures.ok.1, tt)),
    )

pub returns-in_err-add_word-clause-fault : goal.returns-in_err-add_word-clause-fault
returns-in_err-add_word-clause-fault c =
    let l = c.loop-word in
    let cut = rw c.in-Some.is at (split_parts 44 l.rest.now c.split_once.result c.split_once.ensures.cases (omega arith)) in
    let words = words_at l.rest.now c.in-Some.word.now c.in-Some.left.now cut in
    IfErr-weaker c.from_residual.result (λ error. error ≡ c.in_err-add_word.field-0.0) _ (λ error is. rw is
    (one_faulty _ _ _ _ (word_meant c.in-Some.word.now ∷ []) _ _ l.invariant.1 words c.in_err-add_word.ensures.fault)) (search rules)

pub returns-clause-ok : goal.returns-clause-ok
returns-clause-ok c =
    let l = c.loop-word in
    let lacks = rw c.in_default.is at (split_parts 44 l.rest.now c.split_once.result c.split_once.ensures.cases (omega arith)) in
    on_ok_weaker c.add_word-2.result (λ added. all_added _ _ _
    (more_added _ _ _ _ (word_meant l.rest.now ∷ []) [] _ l.invariant.1 (one_word l.rest.now lacks) (added.0, (added.1, tt)))) c.add_word-2.ensures.ok

pub returns-clause-fault : goal.returns-clause-fault
returns-clause-fault c =
    let l = c.loop-word in
    let lacks = rw c.in_default.is at (split_parts 44 l.rest.now c.split_once.result c.split_once.ensures.cases (omega arith)) in
    IfErr-weaker c.add_word-2.result _ _ (λ error is. one_faulty _ _ _ _ (word_meant l.rest.now ∷ []) [] error l.invariant.1
    (one_word l.rest.now lacks) is) c.add_word-2.ensures.fault
