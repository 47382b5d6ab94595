use Rattle.std.proofs.Common.{◌≡◌, ◌++◌, ◌∷◌, [], rules, take}
use Rattle.crs_value.specs.Members.{IsIn}
use Rattle.crs_value.proofs.found.MemberLemmas.{are-front, are-one-more, in-end, in-index, in-over, taken-more}
use Rattle.crs_value.proofs.values.ident.each_once.Goals as goal
use Rattle.crs_value.proofs.values.ident.each_once.Goals.{then-not-is_equal_at+in_ok-push, else-not-is_equal_at}

pub loop-ident-preserved : goal.loop-ident-preserved
loop-ident-preserved c =
    let idents = c.args.idents.now in
    let once = c.loop-ident.once.items in
    let index = c.loop-ident.ident-index in
    let ident = c.ident-item.result in
    let next = c.if-not-is_equal_at.once.items in
    let before = c.loop-ident.invariant.all in
    elim c.if-not-is_equal_at.branch [
      | then-not-is_equal_at+in_ok-push w ↦
          let more : next ≡ once ++ ident ∷ [] = search rules in
          record {
            at = search rules;
            of = rw more (are-one-more once idents ident c.loop-ident.invariant.of (in-index idents index ident c.ident-item.is c.loop-ident-test.true));
            all = rw more (taken-more idents _ index ident c.ident-item.is c.loop-ident-test.true (are-front (take index idents) once (ident ∷ []) before) (in-end ident once));
          }
      | else-not-is_equal_at w ↦
          let same : next ≡ once = search rules in
          let found : IsIn ident (take index idents) = search rules in
          record {
            at = search rules;
            of = rw same c.loop-ident.invariant.of;
            all = rw same (taken-more idents once index ident c.ident-item.is c.loop-ident-test.true before (in-over ident (take index idents) once found before));
          }
    ]
