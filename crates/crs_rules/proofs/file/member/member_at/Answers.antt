use Rattle.std.proofs.Common.{subst, sym}
use Rattle.crs_text.specs.inner.Prelude.{here}
use Rattle.crs_rules.specs.Members.{SaysName}
use Rattle.crs_rules.proofs.MemberLemmas.{no-text, not-text}
use Rattle.crs_rules.proofs.file.member.member_at.Goals as goal

pub returns-in-Number : goal.returns-in-Number
returns-in-Number c = λ m says.
    no-text (here c.args.items.now c.in_ok-text.text) c.kind.result c.kind.ensures (not-text c.kind.result c.in-Number.is)
    m (subst (λ items. SaysName items m) (sym c.in_ok-text.ensures.0) says.1)
