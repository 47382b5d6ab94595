use Rattle.std.proofs.Common.{arith}
use Rattle.crs_shape.specs.declared.class.Class.TheVariants as class
use Rattle.crs_value.specs.declared.values.level.Level.TheVariants as levels
use Rattle.crs_normal.specs.inner.SpelledItems.{item_ident}
use Rattle.crs_normal.proofs.made.IdentLemmas.{ident-made}
use Rattle.crs_normal.proofs.members.IdentLemmas.{ident-agrees, ident-read}
use Rattle.crs_normal.proofs.normal.IdentLemmas.{ident-form}
use Rattle.crs_normal.proofs.parts.PartLemmas.{canonical-of, unchecked}
use Rattle.crs_normal.proofs.laws.parts.identifiers_are_canonical.Goals as goal

pub returns : goal.returns
returns c level =
    canonical-of c.lower_laws.ensures item_ident (record {
      decides = λ a b p q. ident-agrees a b;
      made = ident-made c.lower_laws.ensures levels.Full;
      reads = ident-read;
      once = c.members_read_once.ensures.ident;
      sound = c.parts_are_sound.ensures.ident class.Identifier;
      own = unchecked (ident-form levels.Full class.Identifier);
    }) (omega arith)
