use Rattle.std.proofs.Common.{◌∙◌, ap}
use Rattle.std.proofs.lemmas.Str.Ascii.{trim_ascii_start_is}
use Rattle.crs_explain.specs.Found.{opens}
use Rattle.crs_explain.proofs.place.opens_after_white.Goals as goal

pub returns : goal.returns
returns c =
    c.opens.ensures ∙ ap opens (trim_ascii_start_is c.args.bytes.now c.trim_ascii_start.result.now c.trim_ascii_start.ensures.value)
