use Rattle.std.proofs.Common.{arith}
use Rattle.crs_shape.specs.declared.class.Class.TheVariants as class
use Rattle.crs_value.specs.declared.values.level.Level.TheVariants as levels
use Rattle.crs_normal.specs.inner.SpelledItems.{item_usage, norm_usage}
use Rattle.crs_normal.proofs.made.TailLemmas.{usage-made}
use Rattle.crs_normal.proofs.members.MemberLemmas.{usage-kept, usage-read}
use Rattle.crs_normal.proofs.normal.FrameLemmas.{usage-form}
use Rattle.crs_normal.proofs.parts.PartLemmas.{canonical-of, unchecked}
use Rattle.crs_normal.proofs.same.UsageLemmas.{usage-agrees}
use Rattle.crs_normal.proofs.laws.parts.usages_are_canonical.Goals as goal

pub returns : goal.returns
returns c level =
    canonical-of c.lower_laws.ensures item_usage (record {
      decides = usage-agrees c.lower_laws.ensures.normal_is_one c.sets_decide.ensures.idents;
      made = usage-made c.lower_laws.ensures;
      reads = λ x s. usage-read c.lower_laws.ensures (norm_usage x) (usage-kept x s);
      once = c.members_read_once.ensures.usage;
      sound = c.parts_are_sound.ensures.usage;
      own = unchecked (usage-form c.lower_laws.ensures.plain_one levels.Full class.Usage);
    }) (omega arith)
