use Rattle.crs_value.specs.declared.values.level.Level.TheVariants as levels
use Rattle.crs_rules.proofs.laws.set_laws.Goals as goal

pub returns : goal.returns
returns c =
    let stay = c.ordered_lists_stay.ensures in record {
      identifiers = stay.identifiers;
      members = stay.members;
      parameters = stay.parameters;
      geoid_models = stay.geoid_models;
      usages = stay.usages;
      tested = c.sets_of_parameters_have_each.ensures;
      axes_told = c.axis_texts_tell_axes.ensures levels.Full;
    }
