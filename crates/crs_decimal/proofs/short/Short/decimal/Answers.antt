use Rattle.std.proofs.Common.{arith, rules, w32, ◌≡◌, ◌∙◌, SFits}
use Rattle.std.proofs.lemmas.Int.{to_z-of_z}
use Rattle.crs_decimal.proofs.ShortLemmas.{zeros_few, short_number}
use Rattle.crs_decimal.proofs.short.Short.decimal.Goals as goal

pub small_power-requires : goal.small_power-requires
small_power-requires c =
    let s = c.stripped-digits in
    let few = zeros_few c.args.self.value s.result.0 s.result.1 c.requires.1.small s.ensures.number s.ensures.last in
    (omega (arith, few), omega (arith, c.requires.1.few))

pub returns : goal.returns
returns c = λ p cut.
    let s = c.stripped-digits in
    let fits : SFits w32 c.small_power.result = search rules in
    let power : c.new.result.power ≡ c.small_power.result = c.new.ensures.power ∙ to_z-of_z w32 c.small_power.result fits in
    short_number p c.args.self cut c.new.result s.result.0 s.result.1 c.new.ensures.normal s.ensures.number s.ensures.last (search rules) (search rules) c.new.ensures.negative (search rules)
