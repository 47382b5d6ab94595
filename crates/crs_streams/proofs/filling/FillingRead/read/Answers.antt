use Rattle.std.proofs.Common.{◌≡◌, ◌+◌, ◌-◌, ◌≤◌, ◌++◌, ℕ, List, drop, drop_at, le_refl, length, length-take-le, refl, rules, subst, take}
use Rattle.std.specs.Io.KnownBytes.{Consumes}
use Rattle.std.proofs.KnownBytes.{Consumes-trans}
use Rattle.std.proofs.lemmas.Slice.{take-put_mid_below}
use borrow.Rule.Slice.PartMut.{put_mid, post_of}
use lib.Seq.{take-add, take-append-le}
use Rattle.crs_streams.proofs.filling.FillingRead.read.Goals as goal

-- the bytes at the front of the room, after a read into what follows them
filled-more : (at count room : ℕ) (old new : List ℕ) → at ≤ length old → count ≤ length new
    → take at old ++ take count new ≡ take (at + count) (put_mid at room old new)
filled-more at count room old new within fits =
    let front : take at (put_mid at room old new) ≡ take at old = take-put_mid_below at room old new at (le_refl at) within in
    let behind : drop at (put_mid at room old new) ≡ new ++ post_of at room old =
    drop_at (take at old) (new ++ post_of at room old) at (length-take-le at old within) in
    rw (take-add at count (put_mid at room old new), front, behind, take-append-le count new (post_of at room old) fits) refl

pub loop-filled-preserved : goal.loop-filled-preserved
loop-filled-preserved g c =
    let at = c.loop-filled.filled in
    let old = c.loop-filled.buf in record {
      room = search rules;
      fits = search rules;
      unended = search rules;
      healthy = search rules;
      was = search rules;
      were = search rules;
      taken = subst (Consumes _ _)
          (filled-more at c.in-Ok.count (length old - at) old c.read.new.buf c.loop-filled.invariant.fits
          c.in-Ok.ensures.bound.0)
          (Consumes-trans _ _ _ _ _ c.loop-filled.invariant.taken c.in-Ok.ensures.bytes.0);
    }
