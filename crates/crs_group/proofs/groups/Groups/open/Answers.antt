use Rattle.std.proofs.Common.{◌++◌, ◌∷◌, [], ◌∙◌, ap, subst, sym}
use Rattle.indexmap.proofs.CallerLemmas.{insert_entry-new}
use Rattle.crs_writer.specs.inner.Prelude.{canons_equal}
use Rattle.crs_group.specs.inner.Entries.{groups_of}
use Rattle.crs_group.specs.inner.Putting.{IsNew, group_of}
use Rattle.crs_group.proofs.EntryLemmas.{new-key, opened}
use Rattle.crs_group.proofs.groups.Groups.open.Goals as goal

pub returns-clause-groups : goal.returns-clause-groups
returns-clause-groups c =
    ap (λ entries. groups_of (λ lines. lines.items) entries)
    (c.in_ok-insert.ensures.entries
    ∙ insert_entry-new canons_equal c.self.inside.lines c.args.canon c.push.new.self
    (new-key (λ lines. lines.items) c.args.canon c.self.inside.lines.entries
    (subst (IsNew c.args.canon) (sym c.self.view_is) c.requires)))
    ∙ opened (λ lines. lines.items) c.self.inside.lines.entries c.args.canon c.args.line c.push.new.self
    (c.in_ok-push.ensures.items ∙ ap (λ numbers. numbers ++ c.args.line ∷ []) c.new-lines.ensures.items)
    ∙ ap (λ groups. groups ++ group_of c.args.canon c.args.line ∷ []) c.self.view_is
