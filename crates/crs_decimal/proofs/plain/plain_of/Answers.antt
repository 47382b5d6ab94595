use Rattle.std.proofs.Common.{◌≡◌, ◌∷◌, ◌-◌, length, take, drop, rules, sym, subst}
use Rattle.std.proofs.lemmas.List.{take_rest}
use Rattle.std.proofs.lemmas.Option.{IfSome_then}
use Rattle.crs_decimal.specs.Numbers.{Denotes}
use Rattle.crs_decimal.proofs.PlainBytesLemmas.{plus-off}
use Rattle.crs_decimal.proofs.plain.plain_of.Goals as goal

pub returns-in-43-clause-same : goal.returns-in-43-clause-same
returns-in-43-clause-same c =
    let raw = c.args.raw.now in
    let plus : raw ≡ 43 ∷ drop 1 raw = search rules in
    let behind : raw ≡ 43 ∷ take (length raw - 1) (drop 1 raw) = subst (λ rest. raw ≡ 43 ∷ rest) (sym (take_rest raw 1)) plus in
    IfSome_then c.unsigned_plain.result c.unsigned_plain.ensures.same (λ part same n h.
    same n (plus-off _ n (subst (λ bytes. Denotes bytes n) behind h)))
