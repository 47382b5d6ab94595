use Rattle.std.proofs.Common.{codes}
use Rattle.std.proofs.lemmas.Result.{on_ok_weaker}
use Rattle.crs_shape.specs.declared.class.Class.TheVariants as class
use Rattle.crs_writer.specs.inner.Node.{item}
use Rattle.crs_writer.proofs.NothingWrittenLemmas.{ensemble-written}
use Rattle.crs_writer.proofs.spelling.frame.RefNodeFramePart.put_geodetic.Goals as goal

pub returns-in-None : goal.returns-in-None
returns-in-None c = on_ok_weaker c.write_ensemble_of.result
    (ensemble-written (codes "DATUM") c.args.level class.GeodeticFrame class.GeodeticEnsemble _ (item c.args.self.now.now) _ _ c.in-None.ensures)
    c.write_ensemble_of.ensures
