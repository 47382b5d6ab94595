use Rattle.std.proofs.Common.{◌≡◌, length, ap, ◌∙◌, sym, arith}
use Rattle.crs_text.proofs.rows.TableLemmas.{begun_keeps, length-held}
use Rattle.crs_text.proofs.table.Table.open_begun.Goals as goal

pub invariant_of-self : goal.invariant_of-self
invariant_of-self c =
    let depth : length c.args.self.now.opens ≡ c.self.inside.depth = sym (ap (λ f. length f.opens) c.self.view_is) ∙ length-held _ _ in
    let rows : length c.self.inside.rows.items ≡ length c.args.self.now.rows = ap (λ f. length f.rows) c.self.view_is in
    begun_keeps _ _ _ c.args.row _ _ c.self.invariant.1 (omega (arith, c.requires.last)) (omega (arith, c.requires.room)) (omega arith)
