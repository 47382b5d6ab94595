use Rattle.std.proofs.Common.{rules, ◌∙◌}
use Rattle.crs_value.specs.inner.Cursor.{item}
use Rattle.crs_value.specs.ReadsCrs.{IsGeodeticClass}
use Rattle.crs_value.proofs.found.KindLemmas.{geodetic-kind}
use Rattle.crs_value.proofs.values.crs.kind_of_root.Goals as goal

pub returns-in-GeodeticCrs : goal.returns-in-GeodeticCrs
returns-in-GeodeticCrs c value reads =
    let is : IsGeodeticClass c.args.node.now.class = search rules in
    c.geodetic_kind.ensures ∙ geodetic-kind c.args.node.now.class (item c.args.node.now) c.system_type_of.result is c.system_type_of.ensures value reads
