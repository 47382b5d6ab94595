use Rattle.crs_text.proofs.settled.FeedingLemmas.{pending_before, settled_still, settled_behind, so_far_from, held_at_place}
use Rattle.crs_text.proofs.feeding.read_on.Goals as goal

pub stays-requires : goal.stays-requires
stays-requires c =
    let r = c.requires in
    pending_before c.args.text.now r.0 c.args.piece.now c.rest_of.result.now c.args.held.at c.args.held.pending r.1 c.rest_of.ensures r.2.settled.within r.2.pending

pub returns-in-Some : goal.returns-in-Some
returns-in-Some c =
    let r = c.requires in
    let text = c.args.text.now in
    let at = c.args.held.at in
    let s = c.in-Some.ensures in
    let settled = settled_still text r.0 c.args.piece.now c.args.table.now at r.1 r.2.settled (rw c.rest_of.ensures at s.2) in
    record {
      settled = settled;
      pending = rw c.rest_of.ensures at s.0;
      so_far = so_far_from text c.args.table.now at settled (held_at_place text c.rest_of.result.now at c.rest_of.ensures s.1);
    }

pub settle_all-requires : goal.settle_all-requires
settle_all-requires c =
    let r = c.requires in
    settled_behind c.args.text.now r.0 c.args.piece.now c.args.table.now c.args.held.at c.after_white-from.result r.1 r.2.settled c.after_white-from.ensures

pub returns-in_ok-at-in-None : goal.returns-in_ok-at-in-None
returns-in_ok-at-in-None c =
    let text = c.args.text.now in
    let at = c.in_ok-at-in-None.at in
    record {
      settled = c.in_ok-at-in-None.ensures.0;
      pending = rw c.rest_of-in-None.ensures at c.pending_of.ensures;
      so_far = so_far_from text c.settle_all.new.table at c.in_ok-at-in-None.ensures.0 c.in_ok-at-in-None.ensures.1;
    }
