use Rattle.std.proofs.Common.{◌≡◌, ◌++◌, ◌∙◌, ℕ, List, ap, codes, length, rules}
use Rattle.std.proofs.lemmas.Result.{on_ok_weaker}
use Rattle.std.specs.Option.{option_map}
use Rattle.crs_text.specs.inner.Prelude.{End, Siblings}
use Rattle.crs_value.specs.declared.values.level.Level.TheVariants as levels
use Rattle.crs_normal.specs.inner.Prelude.{opt, text_node, item_box, item_extent, norm_extent}
use Rattle.crs_writer.specs.inner.Openings.{enclosed, text_behind}
use Rattle.crs_writer.proofs.NodeTextLemmas.{then-text}
use Rattle.crs_writer.proofs.EncloseLemmas.{from-enclosed}
use Rattle.crs_writer.proofs.FlatLemmas.{last-part, then-plain, told}
use Rattle.crs_writer.proofs.spelling.tail.write_usage.Goals as goal

pub returns : goal.returns
returns g c =
    let out = c.args.out.now.items in
    let front = c.append.new.out.items in
    let begins : front ≡ out ++ codes "USAGE" = c.in_ok-append.ensures in
    let long : length front ≡ c.len-at.result = search rules in
    on_ok_weaker c.enclose.result (λ closes s a b e hs ha hb he.
    let extent : Siblings = opt item_extent (option_map (norm_extent levels.Full) e) End in
    let bbox : Siblings = opt item_box b extent in
    let area : Siblings = opt (text_node (codes "AREA")) a bbox in
    let parts : Siblings = opt (text_node (codes "SCOPE")) s area in
    closes front parts
    (then-text (codes "SCOPE") s area _ _ _ (told (text_behind (codes ",SCOPE[\"")) s _ _ _ hs c.in_ok-write_optional_text.ensures)
    (then-text (codes "AREA") a bbox _ _ _ (told (text_behind (codes ",AREA[\"")) a _ _ _ ha c.in_ok-write_optional_text-2.ensures)
    (then-plain item_box b extent _ _ _ (c.in_ok-write_optional.ensures.writes b hb)
    (last-part item_extent (norm_extent levels.Full) e _ _ (c.in_ok-write_optional-2.ensures.writes e he)))))
    long
    ∙ ap (λ (x : List ℕ). x ++ enclosed parts) begins ∙ from-enclosed out (codes "USAGE") parts)
    c.enclose.ensures
