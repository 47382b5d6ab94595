use Rattle.std.proofs.Common.{◌++◌}
use Rattle.crs_text.proofs.settled.StayLemmas.{refuses_from_settled, settled_one, settled_longer}
use Rattle.crs_text.proofs.settled.RefusalLemmas.{settled_either}
use Rattle.crs_text.proofs.laws.settled_refusals.Goals as goal

pub returns : goal.returns
returns c = record {
  refusal = refuses_from_settled;
  one = settled_one;
  stays = λ bytes more n place r. let s = settled_longer bytes more n place r in (s, refuses_from_settled (bytes ++ more) n place s);
  apart = λ bytes n place r t. t.unrefused n place r;
  either = settled_either c.decided.ensures;
}
