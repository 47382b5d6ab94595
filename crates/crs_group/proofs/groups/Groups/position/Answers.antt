use Rattle.std.proofs.Common.{◌≡◌, MatchOption, Some, slice_get, subst}
use Rattle.crs_group.specs.Catalogue.{canons}
use Rattle.crs_group.specs.inner.Putting.{IsNew}
use Rattle.crs_group.proofs.EntryLemmas.{place-of}
use Rattle.crs_group.proofs.groups.Groups.position.Goals as goal

pub returns-clause-found : goal.returns-clause-found
returns-clause-found c =
    subst (λ groups. MatchOption c.get_index_of.result (IsNew c.args.canon.now groups)
    (λ at. slice_get (canons groups) at ≡ Some c.args.canon.now)) c.self.view_is
    (place-of (λ lines. lines.items) c.args.canon.now c.self.inside.lines.entries c.get_index_of.result
    c.get_index_of.ensures.index c.get_index_of.ensures.found)
