use Rattle.std.proofs.Common.{sym, ◌∙◌, arith, rules, pos, ◌<ℤ◌, w32, SFits}
use Rattle.std.proofs.lemmas.Int.{ints}
use Rattle.crs_decimal.proofs.NumberLemmas.{negative_not_whole, below_not_whole}
use Rattle.crs_decimal.proofs.decimal.Decimal.whole.Goals as goal
use Rattle.crs_decimal.proofs.decimal.Decimal.whole.Goals.{then-is_negative-via-then-is_negative, then-is_negative-via-else-is_negative+then-power-lt0}

pub returns-then-is_negative : goal.returns-then-is_negative
returns-then-is_negative c = λ n _ same.
    let v = c.args.self.now in
    elim c.then-is_negative.branch [
      | then-is_negative-via-then-is_negative w ↦ negative_not_whole v n c.is_negative.ensures.normal (sym c.is_negative.ensures.value ∙ w.if-is_negative.true) same
      | then-is_negative-via-else-is_negative+then-power-lt0 w ↦
          let fits : SFits w32 w.power.result = search rules in
          let low : w.power.result <ℤ pos 0 = grind (arith, ints) in
          below_not_whole v n w.power.result c.is_negative.ensures.normal (sym w.power.ensures.value) low same
    ]
