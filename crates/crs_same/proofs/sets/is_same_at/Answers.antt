use Rattle.std.proofs.Common.{◌≡◌, ◌<◌, Some, length, refl, sym, slice_get}
use Rattle.std.proofs.lemmas.Bool.{ltb-true}
use Rattle.std.proofs.lemmas.Option.{slice_get_read}
use Rattle.crs_same.proofs.SetLemmas.{at_place}
use Rattle.crs_same.proofs.sets.is_same_at.Goals as goal

-- the one at the place is one of the others
pub returns-in-Some : goal.returns-in-Some
returns-in-Some g c =
    let looked = c.in-Some.ensures.lookup in
    let others = c.args.others.now in
    let within : c.args.place < length others = ltb-true c.args.place (length others) (sym looked.0) in
    let there : slice_get others c.args.place ≡ Some c.in-Some.other.now
    = slice_get_read others (length others) c.args.place c.in-Some.other.now refl within looked.1 in
    λ same. at_place (g.T.SetMember.Same c.args.level) c.args.member.now others c.args.place c.in-Some.other.now
    there (c.is_same.ensures.0 same)
