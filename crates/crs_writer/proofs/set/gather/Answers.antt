use Rattle.crs_writer.proofs.SetLemmas.{gathered}
use Rattle.crs_writer.proofs.set.gather.Goals as goal

pub returns : goal.returns
returns g c = λ value reads.
    gathered c.args.sorted.now.keys c.insert.new.self.keys c.write.new.out c.in_ok-bytes.bytes.items
    (g.T.Spell.spelling c.args.level value) c.in_ok-insert.ensures.keys c.in_ok-bytes.ensures.items (c.in_ok-write.ensures.writes value reads)
