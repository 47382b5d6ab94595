use Rattle.std.proofs.Common.{[], refl}
use Rattle.crs_text.specs.inner.State.{start}
use Rattle.crs_text.proofs.tokens.ViableLemmas.{viable_from_run, viable_front}
use Rattle.crs_text.proofs.tokens.AllowedLemmas.{allows_from_viable, viable_from_allows, full_from_deep, deep_from_full}
use Rattle.crs_text.proofs.laws.viability.Goals as goal

pub returns : goal.returns
returns c = record {
  empty = viable_from_run [] start refl;
  front = viable_front;
  next = λ ts t v. (allows_from_viable ts t v, viable_from_allows ts t v);
  full = λ ts square v. ((λ h. full_from_deep ts square v h.0 h.1), deep_from_full ts square v);
}
