use Rattle.crs_normal.proofs.laws.texts.spelled_crs_is_sound.Goals as goal

pub returns : goal.returns
returns c text crs (item, (node, spelled)) =
    c.spelled_is_sound.ensures item crs (c.written_items.ensures.formed text item node) spelled
