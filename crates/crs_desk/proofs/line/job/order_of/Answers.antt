use Rattle.std.proofs.Common.{[], ◌≡◌, ◌∷◌, ◌+◌, ap, arith, drop, rules, subst}
use Rattle.std.proofs.lemmas.Grind.{common_steps}
use Rattle.std.proofs.lemmas.List.{drop_all}
use Rattle.std.proofs.lemmas.Result.{IfErr-weaker}
use Rattle.crs_desk.specs.Requests.{order_of}
use Rattle.crs_desk.proofs.PathWordLemmas.{AreLeft, all_added, more_added, one_faulty}
use Rattle.crs_desk.proofs.line.job.order_of.Goals as goal

pub loop-words-preserved : goal.loop-words-preserved
loop-words-preserved c =
    let here : drop c.loop-words.words-index c.args.given.now ≡ c.words-item.result ∷ drop (c.loop-words.words-index + 1) c.args.given.now =
    grind (arith, common_steps, c.words-item.is, c.loop-words-test.true) in
    more_added _ _ _ _ _ _ _ c.loop-words.invariant (ap order_of here) (rw c.as_str.ensures at c.in_ok-add_words.ensures.ok)

pub returns-in_err-add_words-clause-fault : goal.returns-in_err-add_words-clause-fault
returns-in_err-add_words-clause-fault c =
    let here : drop c.loop-words.words-index c.args.given.now ≡ c.words-item.result ∷ drop (c.loop-words.words-index + 1) c.args.given.now =
    grind (arith, common_steps, c.words-item.is, c.loop-words-test.true) in
    IfErr-weaker c.from_residual.result (λ error. error ≡ c.in_err-add_words.field-0.0) _ (λ error is. rw is
    (one_faulty _ _ _ _ _ _ _ c.loop-words.invariant (ap order_of here) (rw c.as_str.ensures at c.in_err-add_words.ensures.fault))) (search rules)

pub returns-clause-ok : goal.returns-clause-ok
returns-clause-ok c =
    let end = drop_all c.loop-words.words-index c.args.given.now c.loop-words-test.false in
    all_added _ _ _ (subst (λ given. AreLeft [] (order_of c.args.given.now) c.loop-words.order.items (order_of given)) end c.loop-words.invariant)
