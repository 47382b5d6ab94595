use Rattle.crs_decimal.specs.Numbers.{plain}
use Rattle.crs_decimal.proofs.PlainLemmas.{plain_denoted_one}
use Rattle.crs_decimal.proofs.WrittenLemmas.{written}
use Rattle.crs_decimal.proofs.laws.plain_is_the_one.Goals as goal

pub returns : goal.returns
returns c = record {
  is_plain = λ v h. (written v h).is_plain;
  denotes = λ v h. (written v h).denotes;
  only = λ v bytes h p d. let w = written v h in plain_denoted_one bytes (plain v) v p w.is_plain d w.denotes;
  short = λ v h. (written v h).short;
}
