use Rattle.std.proofs.Common.{◌≡◌, rules, ℕ, ◌-◌, List, ◌++◌, length, take, drop, refl, append_assoc, take-append-drop}
use Rattle.std.proofs.lemmas.List.{take_rest}
use Rattle.std.proofs.KnownBytes.{Appends-trans}
use Rattle.crs_streams.proofs.sink.Sink.write_all.Goals as goal

moved : (all done rest : List ℕ) (count : ℕ) → all ≡ done ++ rest
    → all ≡ (done ++ take count rest) ++ take (length rest - count) (drop count rest)
moved all done rest count is =
    rw (is, take_rest rest count, append_assoc done (take count rest) (drop count rest), take-append-drop count rest) refl

pub loop-rest-preserved : goal.loop-rest-preserved
loop-rest-preserved g c =
    let (done, split, appended) = c.loop-rest.invariant.done in
    let rest = c.loop-rest.rest.now in
    let count = c.in_ok-count.count in record {
      done = (
        done ++ take count rest,
        moved _ done rest count split,
        Appends-trans _ _ _ _ _ appended c.in_ok-count.ensures.bytes,
      );
      is_used = search rules;
      past_failure = search rules;
      failure = search rules;
    }
