use Rattle.std.proofs.Common.{◌≡◌, [], ap, subst, ◌∙◌, rules}
use Rattle.crs_text.specs.inner.Prelude.{first_of, AreFormed}
use Rattle.crs_value.specs.inner.Prelude.{item_at}
use Rattle.crs_writer.specs.inner.Prelude.{crs_text}
use Rattle.crs_writer.proofs.AnswerLemmas.{from-items, spelled-read}
use Rattle.crs_writer.proofs.answer.written_from.Goals as goal

pub write_crs-requires : goal.write_crs-requires
write_crs-requires c =
    spelled-read c.args.items.now (item_at c.args.items.now c.root-id.result) c.args.class (ap first_of c.root-id.ensures.root)
    c.requires.class c.requires.spells

pub returns-clause-text : goal.returns-clause-text
returns-clause-text c = λ crs spells.
    let item = c.args.items.now in
    let root = item_at item c.root-id.result in
    let same : root ≡ item = ap first_of c.root-id.ensures.root in
    let empty : c.reserve.new.self.items ≡ [] = search rules in
    let told = from-items c.args.level item root c.args.class c.reserve.new.self.items c.write_crs.new.out.items crs same
    empty c.in_ok-write_crs.ensures spells c.requires.class in
    let text : c.canon_from.result.bytes ≡ crs_text c.args.level crs = c.canon_from.ensures.bytes ∙ told in
    let sound = c.spelled_is_sound.ensures item crs (subst AreFormed same c.formed.ensures) spells in
    (c.crss_are_canonical.ensures c.args.level).written crs c.canon_from.result.bytes sound text
