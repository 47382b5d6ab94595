use Rattle.std.proofs.Common.{◌≡◌, rules, subst, sym, IfSome}
use Rattle.crs_desk.proofs.GroupFileLemmas.{none-added, text-added}
use Rattle.crs_desk.proofs.runs.group_files.add_file.Goals as goal

pub returns-in_default-clause-added : goal.returns-in_default-clause-added
returns-in_default-clause-added g c =
    none-added (g.A.Adding.Form c.args.adding.now) (g.A.Adding.Share c.args.adding.now)
    (g.I.Inputs.known c.args.files.now c.args.name.now) c.args.name.now c.args.ledger.now

pub returns-in-Ok-clause-added : goal.returns-in-Ok-clause-added
returns-in-Ok-clause-added g c =
    let known = g.I.Inputs.known c.args.files.now c.args.name.now in
    let all : c.new-2.result.remaining ≡ known = search rules in
    text-added (g.A.Adding.Form c.args.adding.now) (g.A.Adding.Share c.args.adding.now) known c.args.name.now c.deref.result.now
    c.args.ledger.now c.add_text.new.ledger c.add_text.result
    (subst (λ text. IfSome known (λ all. text ≡ all)) (sym c.deref.ensures.value)
    (subst (λ left. IfSome left (λ all. c.in-Ok.text.items ≡ all)) all c.in-Ok.ensures.ok.is_all))
    c.add_text.ensures.ok c.add_text.ensures.added

pub returns-clause-added : goal.returns-clause-added
returns-clause-added g c =
    none-added (g.A.Adding.Form c.args.adding.now) (g.A.Adding.Share c.args.adding.now)
    (g.I.Inputs.known c.args.files.now c.args.name.now) c.args.name.now c.args.ledger.now
