use Rattle.std.proofs.Common.{◌≡◌, ◌∷◌, ◌+◌, arith, drop, refl}
use Rattle.std.proofs.lemmas.Grind.{common_steps}
use Rattle.crs_normal.specs.inner.Prelude.{parameter_text, put}
use Rattle.crs_writer.specs.inner.Prelude.{spellings}
use Rattle.crs_canon.proofs.named.gather_unpaired.Goals as goal
use Rattle.crs_canon.proofs.named.gather_unpaired.Goals.{then-not-is_paired+in_ok-gather, else-not-is_paired}

pub loop-member-preserved : goal.loop-member-preserved
loop-member-preserved c =
    let here : drop c.loop-member.member-index c.args.these.now ≡ c.member-item.result ∷ drop (c.loop-member.member-index + 1) c.args.these.now = grind (arith, common_steps, c.member-item.is, c.loop-member-test.true) in
    elim c.if-not-is_paired.branch [
      | then-not-is_paired+in_ok-gather w ↦
          let gathered : spellings w.gather.new.sorted.keys
          ≡ put (λ b. b) (parameter_text c.args.level c.member-item.result) (spellings c.loop-member.sorted.keys) =
          w.in_ok-gather.ensures c.member-item.result refl in grind (arith, common_steps, gathered)
      | else-not-is_paired w ↦ grind (arith, common_steps)
    ]
