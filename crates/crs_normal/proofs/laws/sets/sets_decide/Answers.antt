use Rattle.crs_normal.proofs.members.AgreeLemmas.{geoids-agree, idents-agree, members-agree, parameters-agree, usages-agree}
use Rattle.crs_normal.proofs.laws.sets.sets_decide.Goals as goal

pub returns : goal.returns
returns c =
    let laws = c.lower_laws.ensures in
    let once = c.members_read_once.ensures in
    let idents = idents-agree laws once.ident in
    record {
      idents = idents;
      members = λ level. members-agree laws idents level once.member;
      parameters = λ level. parameters-agree laws idents level once.parameter;
      geoid_models = λ level. geoids-agree laws idents level once.geoid_model;
      usages = λ level. usages-agree laws idents level once.usage;
    }
