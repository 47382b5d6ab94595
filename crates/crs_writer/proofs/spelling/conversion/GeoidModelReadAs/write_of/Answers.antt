use Rattle.crs_writer.proofs.FlatLemmas.{written}
use Rattle.crs_writer.proofs.spelling.conversion.GeoidModelReadAs.write_of.Goals as goal

pub returns : goal.returns
returns c = written c.write_named.result _ _ _ c.write_named.ensures (λ w m r.
    w m.name m.identifiers (c.text.ensures m.name r.name) r.identifiers)
