use Rattle.std.proofs.Common.{List, Option, None, Some, inr, refl, subst}
use Rattle.std.specs.Option.{option_copied}
use Rattle.crs_same.proofs.SetLemmas.{has_at, has_over}
use Rattle.crs_same.specs.SameIdents.{HasSame, with_bare}
use Rattle.crs_same.proofs.sets.SetMembers.includes.Goals as goal

has_listed : {V : Type 0} (Same : V → V → Type 0) (member : V) (bare : Option V) (listed : List V) → HasSame Same member listed → HasSame Same member (with_bare bare listed)
has_listed Same member None listed has = has
has_listed Same member (Some bare) listed has = inr has

pub returns-then-is_same_at : goal.returns-then-is_same_at
returns-then-is_same_at g c =
    let found = subst (HasSame (g.T.SetMember.Same c.args.level) c.args.member.now) c.self.view_is
    (has_listed (g.T.SetMember.Same c.args.level) c.args.member.now (option_copied c.self.inside.bare) c.self.inside.listed.now
    (has_at (g.T.SetMember.Same c.args.level) c.args.member.now c.self.inside.listed.now _ (c.is_same_at.ensures c.if-is_same_at.true))) in
    (λ _. found, λ _. refl)

pub returns-then-is_same_at-2 : goal.returns-then-is_same_at-2
returns-then-is_same_at-2 g c =
    let found = has_over (g.T.SetMember.Same c.args.level) (c.same_is_equivalence.ensures c.args.level) c.args.member.now
    c.args.before.now c.args.self.now (has_at (g.T.SetMember.Same c.args.level) c.args.member.now c.args.before.now _ (c.is_same_at-2.ensures c.if-is_same_at-2.true)) c.requires in
    (λ _. found, λ _. refl)

pub returns-then-is_same_at-3 : goal.returns-then-is_same_at-3
returns-then-is_same_at-3 g c =
    let found = subst (HasSame (g.T.SetMember.Same c.args.level) c.args.member.now) c.self.view_is
    (has_listed (g.T.SetMember.Same c.args.level) c.args.member.now (option_copied c.self.inside.bare) c.self.inside.listed.now
    (has_at (g.T.SetMember.Same c.args.level) c.args.member.now c.self.inside.listed.now _ (c.is_same_at-3.ensures c.if-is_same_at-3.true))) in
    (λ _. found, λ _. c.if-is_same_at-3.true)
