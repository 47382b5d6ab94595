use Rattle.std.proofs.Common.{◌≡◌, ◌+◌, ◌++◌, ◌∷◌, [], arith, drop, rules, subst, sym, List, ℕ, max}
use Rattle.std.specs.Io.KnownBytes.{Appends}
use Rattle.std.proofs.lemmas.Grind.{common_steps}
use Rattle.crs_desk.specs.inner.FileAnswers.{IsFileSent}
use Rattle.crs_desk.specs.FilesRun.{AreFileOutputs, name_prefix}
use Rattle.crs_desk.specs.LinesRun.{PrefixParts}
use Rattle.crs_desk.proofs.FileLemmas.{file-more, files-done}
use Rattle.crs_desk.proofs.LineOutputLemmas.{appends-none}
use Rattle.crs_desk.proofs.runs.files.run_files.Goals as goal

pub loop-name-init : goal.loop-name-init
loop-name-init g c =
    record {
      healthy = search rules;
      sent = (
        [],
        appends-none c.args.w.now.contents,
        λ more others outputs.
            let same : max 0 others ≡ others = omega arith in rw same outputs,
      );
    }

pub loop-name-preserved : goal.loop-name-preserved
loop-name-preserved g c =
    let known = g.I.Inputs.known c.args.files.now in
    let names = c.args.names.now in
    let name = c.name-item.result in
    let so-far = c.loop-name.invariant.sent in
    let here : drop c.loop-name.name-index names ≡ name ∷ drop (c.loop-name.name-index + 1) names =
    grind (arith, common_steps, c.name-item.is, c.loop-name-test.true) in
    let prefix : c.in_ok-prefix.prefix ≡ name_prefix c.args.task c.are_named-shown.result name = search rules in
    let file = subst (λ (p : PrefixParts). IsFileSent c.args.task p (known name) c.loop-name.w c.answer_file.new.sink c.in_ok-own.own) prefix
    c.in_ok-own.ensures.answered in
    let greatest : c.max-status.result ≡ max c.loop-name.status c.in_ok-own.own = search rules in
    record {
      healthy = file.3;
      sent = subst
          (λ status. (all : List ℕ) × Appends c.args.w.now.contents c.answer_file.new.sink.contents all
          × ((more : List ℕ) (others : ℕ)
          → AreFileOutputs c.args.task (name_prefix c.args.task c.are_named-shown.result) known (drop (c.loop-name.name-index + 1) names) more others
          → AreFileOutputs c.args.task (name_prefix c.args.task c.are_named-shown.result) known names (all ++ more)
          (max status others))) (sym greatest)
          (file-more c.args.task (name_prefix c.args.task c.are_named-shown.result) known names (drop (c.loop-name.name-index + 1) names)
          (drop c.loop-name.name-index names) name file.0 c.loop-name.status c.in_ok-own.own c.args.w.now c.loop-name.w
          c.answer_file.new.sink so-far.0 here file.1 so-far.1 file.2 so-far.2);
    }

pub returns-clause-answered : goal.returns-clause-answered
returns-clause-answered g c =
    let so-far = c.loop-name.invariant.sent in
    let none : drop c.loop-name.name-index c.args.names.now ≡ [] = grind (arith, common_steps, c.loop-name-test.false) in
    files-done c.args.task c.args.named (g.I.Inputs.known c.args.files.now) c.args.names.now (drop c.loop-name.name-index c.args.names.now)
    c.loop-name.status c.args.w.now c.loop-name.w so-far.0 none so-far.1 c.loop-name.invariant.healthy (rw c.are_named-shown.ensures at so-far.2)
