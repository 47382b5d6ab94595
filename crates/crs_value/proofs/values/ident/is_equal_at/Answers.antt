use Rattle.std.proofs.Common.{length, refl, sym}
use Rattle.std.proofs.lemmas.Bool.{ltb-true}
use Rattle.std.proofs.lemmas.Option.{slice_get_read}
use Rattle.crs_value.proofs.found.MemberLemmas.{in-at}
use Rattle.crs_value.proofs.values.ident.is_equal_at.Goals as goal

pub returns-in-Some : goal.returns-in-Some
returns-in-Some c = λ equal.
    let looked = c.in-Some.ensures.lookup in
    let many = length c.args.idents.now in
    in-at _ _ c.args.place _ (slice_get_read c.args.idents.now many c.args.place _ refl (ltb-true c.args.place many (sym looked.0)) looked.1) (c.is_equal.ensures equal)
