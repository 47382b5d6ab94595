use Rattle.std.proofs.Common.{◌≡◌, Some, rules}
use Rattle.std.specs.Option.{option_copied}
use Rattle.crs_explain.proofs.difference_texts.unit_text.Goals as goal

pub returns : goal.returns
returns c =
    let there : option_copied c.args.unit ≡ Some c.in-Some.unit.now = search rules in
    rw there (search rules)
