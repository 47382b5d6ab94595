use Rattle.std.proofs.Common.{◌≡◌, rules, true}
use Rattle.crs_decimal.proofs.NumberLemmas.{normal_iff}
use Rattle.crs_decimal.proofs.decimal.Decimal.same_number.Goals as goal

pub returns : goal.returns
returns c =
    let iff = normal_iff c.args.self.now c.args.other.now c.is_negative.ensures.normal c.is_negative-2.ensures.normal in
    let yes : c.eq.result ≡ true → c.args.self.now ≡ c.args.other.now = λ e. search rules in
    let back : c.args.self.now ≡ c.args.other.now → c.eq.result ≡ true = λ e. search rules in
    (λ e. iff.1 (yes e), λ s. back (iff.0 s))
