use Rattle.std.proofs.Common.{◌≡◌, ◌++◌, ◌∷◌, ◌∙◌, drop, length, rules, take, vec_len, refl, subst, sym}
use Rattle.crs_writer.specs.inner.Spans.{AreInOrder, IsPutAmong}
use Rattle.crs_writer.proofs.SpanLemmas.{OrderLaws, front-order, last-known, last-put, of-seen, puts}
use Rattle.crs_writer.proofs.spans.put_last.Goals as goal

pub place_of-requires : goal.place_of-requires
place_of-requires c =
    let all = c.args.bytes.now.items in
    let order : AreInOrder all c.args.spans.now.items = front-order all c.args.start c.args.spans.now.items c.requires.order in
    subst (λ b. AreInOrder b c.deref-3.result.now) (sym c.deref-2.ensures.value)
    (subst (λ s. AreInOrder all s) (sym c.deref-3.ensures.value) order)

pub returns-in-None : goal.returns-in-None
returns-in-None c =
    let all = c.args.bytes.now.items in
    let spans = c.args.spans.now.items in
    let start = c.args.start in
    subst (λ b. IsPutAmong (drop start all) (take start all) spans b spans) (sym c.truncate.ensures.items)
    (last-known all start spans c.requires.order
    (of-seen (λ t texts. puts t texts ≡ texts) start _ _ all _ spans _ c.rest_of.ensures c.deref.ensures.value c.deref-2.ensures.value
    c.deref-3.ensures.value c.in-None.ensures))

pub returns-in_ok-insert-in-Some : goal.returns-in_ok-insert-in-Some
returns-in_ok-insert-in-Some c =
    let all = c.args.bytes.now.items in
    let spans = c.args.spans.now.items in
    let start = c.args.start in
    let at = c.in-Some.at in
    let law = c.texts_are_in_order.ensures in
    let laws : OrderLaws = record { ascend = law.ascend; members = law.members; one = law.one } in
    let long : length all ≡ vec_len c.args.bytes.now = search rules in
    last-put laws all start at spans c.insert.new.self.items _ c.requires.start c.requires.order refl (c.len-end.ensures ∙ sym long)
    c.in_ok-insert-in-Some.ensures.items
    (of-seen (λ t texts. puts t texts ≡ take at texts ++ t ∷ drop at texts) start _ _ all _ spans _ c.rest_of.ensures c.deref.ensures.value
    c.deref-2.ensures.value c.deref-3.ensures.value c.in-Some.ensures.1)
