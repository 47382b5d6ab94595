use Rattle.std.proofs.Common.{◌≡◌, [], filter, map, drop}
use Rattle.crs_normal.specs.inner.Prelude.{put_all}
use Rattle.crs_writer.specs.inner.Prelude.{spellings}
use Rattle.crs_canon.specs.Named.{is_paired}
use Rattle.crs_canon.proofs.NamedLemmas.{names_paired}
use Rattle.crs_canon.proofs.named.paired_names.Given as goal

abbrev pub invariant-loop-member : goal.invariant-loop-member
invariant-loop-member l =
    put_all (λ bytes. bytes) (spellings l.names.keys)
    (map (λ x. x.name) (filter (λ x. is_paired l.these l.others x.name) (drop l.member-index l.these)))
    ≡ put_all (λ bytes. bytes) [] (names_paired l.these l.others)
