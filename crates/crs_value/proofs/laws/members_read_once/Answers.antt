use Rattle.crs_value.proofs.one.ValueLemmas.{ident-one, unit-one, named-one, extent-one, usage-one}
use Rattle.crs_value.proofs.one.CrsLemmas.{parameter-one}
use Rattle.crs_value.proofs.laws.members_read_once.Goals as goal

pub returns : goal.returns
returns c = record {
  ident = ident-one;
  unit = unit-one c.denotes_one.ensures;
  member = named-one;
  parameter = parameter-one c.denotes_one.ensures;
  geoid_model = named-one;
  extent = extent-one c.denotes_one.ensures;
  usage = usage-one c.denotes_one.ensures;
}
