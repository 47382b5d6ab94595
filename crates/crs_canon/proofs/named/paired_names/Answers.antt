use Rattle.std.proofs.Common.{◌≡◌, [], ap, arith, refl, rules}
use Rattle.std.proofs.lemmas.Grind.{common_steps}
use Rattle.crs_normal.specs.inner.Prelude.{put_all}
use Rattle.crs_writer.specs.inner.Prelude.{spellings}
use Rattle.crs_canon.proofs.NamedLemmas.{names-known, names_paired}
use Rattle.crs_canon.proofs.named.paired_names.Goals as goal

pub loop-member-init : goal.loop-member-init
loop-member-init c =
    let none : spellings c.new-names.result.keys ≡ [] = search rules in
    ap (λ names. put_all (λ bytes. bytes) names (names_paired c.args.these.now c.args.others.now)) none

pub returns : goal.returns
returns c =
    let these = c.args.these.now in
    let others = c.args.others.now in
    let after = spellings c.loop-member.names.keys in
    let kept : after ≡ put_all (λ b. b) [] (names_paired these others) = grind (arith, common_steps, c.loop-member.invariant, c.loop-member-test.false) in
    names-known these others [] after refl c.texts_are_in_order.ensures.ascend c.texts_are_in_order.ensures.members kept
