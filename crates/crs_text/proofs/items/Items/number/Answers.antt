use Rattle.std.proofs.Common.{◌≡◌, ◌∙◌, Ok, Err, MatchResult, rules, subst, sym}
use Rattle.std.specs.Result.{result_ok}
use Rattle.crs_decimal.specs.inner.Prelude.{Denotes, IsFault, IsInBounds, IsNormal, exact}
use Rattle.crs_text.specs.Items.{IsNumberOf, first_of, here, kind_of_item}
use Rattle.crs_text.specs.declared.items.ItemKind.TheVariants.{Number}
use Rattle.crs_text.proofs.rows.TreeLemmas.{bounded, no_fault}
use Rattle.crs_text.proofs.items.Items.number.Goals as goal

pub returns : goal.returns
returns c =
    let item = first_of (here c.args.self.now c.args.id) in
    let raw = c.raw.result.now in
    let kind : c.kind.result ≡ Number = search rules in
    let own : kind_of_item item ≡ Number = sym c.kind.ensures ∙ kind in
    let bounds = bounded _ c.args.self.now c.args.id c.self.invariant.formed c.self.view_is c.requires own in
    rw c.ok.ensures.value (elim c.parse.result as (λ r.
    MatchResult r (λ d. IsNormal d × Denotes raw (exact d)) (IsFault raw) → IsNumberOf item (result_ok r)) [
      | Ok value ↦ λ h. (own, h.0, subst (λ bytes. Denotes bytes (exact value)) c.raw.ensures h.1)
      | Err fault ↦ λ h. absurd (no_fault raw fault (subst IsInBounds (sym c.raw.ensures) bounds) h)
    ] c.parse.ensures)
