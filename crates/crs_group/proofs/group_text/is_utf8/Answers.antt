use Rattle.std.specs.Str.{is_utf8}
use Rattle.std.proofs.lemmas.Str.{IsUtf8-from_is_utf8, is_utf8-from_IsUtf8}
use Rattle.crs_group.proofs.TabLemmas.{same_test}
use Rattle.crs_group.proofs.group_text.is_utf8.Goals as goal

pub returns : goal.returns
returns c =
    same_test c.is_utf8.result (is_utf8 c.args.name.now) c.is_utf8.ensures (is_utf8-from_IsUtf8 _) (IsUtf8-from_is_utf8 _)
