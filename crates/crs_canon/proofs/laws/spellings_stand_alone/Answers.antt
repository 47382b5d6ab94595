use Rattle.std.proofs.Common.{subst}
use Rattle.crs_normal.specs.inner.Prelude.{IsClosed}
use Rattle.crs_canon.proofs.SetSameLemmas.{closed-some}
use Rattle.crs_canon.proofs.laws.spellings_stand_alone.Goals as goal

pub returns : goal.returns
returns g c = record {
  some = λ level value bytes is p. closed-some bytes ((c.laws.ensures.form level).closed value bytes is p);
  front = λ level a b first second more s t p q e. let form = c.laws.ensures.form level in
      c.closed_texts.ensures.front first more (form.closed a first s p) (subst IsClosed e (form.closed b second t q));
}
