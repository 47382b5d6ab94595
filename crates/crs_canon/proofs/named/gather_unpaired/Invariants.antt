use Rattle.std.proofs.Common.{◌≡◌, filter, not, map, drop}
use Rattle.crs_normal.specs.inner.Prelude.{put_all, parameter_text}
use Rattle.crs_writer.specs.inner.Prelude.{spellings}
use Rattle.crs_canon.specs.Named.{is_paired, unpaired}
use Rattle.crs_canon.proofs.named.gather_unpaired.Given as goal

abbrev pub invariant-loop-member : goal.invariant-loop-member
invariant-loop-member l =
    put_all (λ bytes. bytes) (spellings l.sorted.keys)
    (map (parameter_text l.level) (filter (λ x. not (is_paired l.these l.others x.name)) (drop l.member-index l.these)))
    ≡ put_all (λ bytes. bytes) (spellings l.fn.sorted.keys) (map (parameter_text l.level) (unpaired l.these l.others))
