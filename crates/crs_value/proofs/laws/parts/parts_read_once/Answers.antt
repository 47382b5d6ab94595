use Rattle.crs_value.proofs.one.ValueLemmas.{axis-one, axis_meridian-one, box-one, datum-one, ellipsoid-one, ensemble-one, meridian-one, named-one}
use Rattle.crs_value.proofs.one.CrsLemmas.{base-one, compound-one, conversion-one, dynamic-one, geodetic-one, projected-one, vertical-one}
use Rattle.crs_value.proofs.laws.parts.parts_read_once.Goals as goal

pub returns : goal.returns
returns c = record {
  along = axis_meridian-one c.denotes_one.ensures;
  axis = axis-one c.denotes_one.ensures;
  ellipsoid = ellipsoid-one c.denotes_one.ensures;
  meridian = meridian-one c.denotes_one.ensures;
  datum = datum-one c.denotes_one.ensures;
  ensemble = ensemble-one c.denotes_one.ensures;
  bounding_box = box-one c.denotes_one.ensures;
  method = named-one;
  conversion = conversion-one c.denotes_one.ensures;
  base = base-one c.denotes_one.ensures;
  geodetic = geodetic-one c.denotes_one.ensures;
  projected = projected-one c.denotes_one.ensures;
  vertical = vertical-one c.denotes_one.ensures;
  compound = compound-one c.denotes_one.ensures;
  deformation_model = named-one;
  dynamic = dynamic-one c.denotes_one.ensures;
}
