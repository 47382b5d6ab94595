use Rattle.std.proofs.Common.{◌≡◌, ◌≤◌, ◌∷◌, length, drop}
use Rattle.crs_normal.specs.inner.Prelude.{put}
use Rattle.crs_writer.specs.inner.Spans.{texts_at}
use Rattle.crs_writer.proofs.spans.place_of.Given as goal

abbrev pub invariant-loop-at : goal.invariant-loop-at
invariant-loop-at l =
    (l.at ≤ length l.spans)
    × (put (λ b. b) l.text (drop l.at (texts_at l.bytes l.spans)) ≡ l.text ∷ drop l.at (texts_at l.bytes l.spans))

abbrev pub decreases-loop-at : goal.decreases-loop-at
decreases-loop-at l = l.at
