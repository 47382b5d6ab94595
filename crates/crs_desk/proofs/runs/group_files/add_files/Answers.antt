use Rattle.std.proofs.Common.{◌≡◌, ◌+◌, ◌++◌, ◌∷◌, ◌∙◌, [], arith, drop, max, rules}
use Rattle.std.proofs.lemmas.Grind.{common_steps}
use Rattle.crs_desk.proofs.GroupFileLemmas.{read-all, read-more}
use Rattle.crs_desk.proofs.runs.group_files.add_files.Goals as goal

pub loop-name-init : goal.loop-name-init
loop-name-init g c =
    record {
      few = omega (arith, c.requires.texts.lines);
      level = c.requires.level;
      added = ([], c.requires.texts, λ more others files. let same : max 0 others ≡ others = omega arith in rw same files);
    }

pub loop-name-preserved : goal.loop-name-preserved
loop-name-preserved g c =
    let known = g.I.Inputs.known c.args.files.now in
    let names = c.args.names.now in
    let name = c.name-item.result in
    let so-far = c.loop-name.invariant.added in
    let file = c.in_ok-own.ensures.added in
    let here : drop c.loop-name.name-index names ≡ name ∷ drop (c.loop-name.name-index + 1) names =
    grind (arith, common_steps, c.name-item.is, c.loop-name-test.true) in
    let greatest : c.max-status.result ≡ max c.loop-name.status c.in_ok-own.own = search rules in
    record {
      few = omega (arith, c.in_ok-own.ensures.lines, c.loop-name.invariant.few);
      level = c.in_ok-own.ensures.level ∙ c.loop-name.invariant.level;
      added = (
        so-far.0 ++ file.0,
        file.2 so-far.0 so-far.1,
        rw greatest (read-more known names (drop (c.loop-name.name-index + 1) names) (drop c.loop-name.name-index names) name
            so-far.0 file.0 c.loop-name.status c.in_ok-own.own here file.1 so-far.2),
      );
    }

pub returns-clause-added : goal.returns-clause-added
returns-clause-added g c =
    let so-far = c.loop-name.invariant.added in
    let none : drop c.loop-name.name-index c.args.names.now ≡ [] = grind (arith, common_steps, c.loop-name-test.false) in (
      so-far.0,
      read-all (g.I.Inputs.known c.args.files.now) c.args.names.now (drop c.loop-name.name-index c.args.names.now) so-far.0
          c.loop-name.status none so-far.2,
      so-far.1,
      c.loop-name.invariant.level,
    )
