use Rattle.crs_writer.proofs.CopyLemmas.{copy-writes}
use Rattle.crs_writer.proofs.members.NodeMemberPart.write.Goals as goal

pub returns-in-Some : goal.returns-in-Some
returns-in-Some g c = copy-writes c.append.result _ _ _ _ _ c.in-Some.ensures c.append.ensures
