use Rattle.std.proofs.Common.{◌≡◌, ℕ, List}
use Rattle.crs_normal.specs.inner.SpelledItems.{StaysInOrder, in_order, item_ident, item_usage}
use Rattle.crs_normal.specs.inner.SpelledCrs.{item_geoid_model, item_parameter}
use Rattle.crs_normal.specs.inner.SpelledFrames.{item_member}
use Rattle.crs_text.specs.inner.Prelude.{item_text}
use Rattle.crs_normal.proofs.members.SetLemmas.{each-in_order, in_order-ascends, in_order-of}
use Rattle.crs_normal.proofs.laws.sets.ordered_lists_stay.Goals as goal

stays : {A : Type 0} (bytes : A → List ℕ) → StaysInOrder bytes
stays bytes = record {
  twice = λ xs. in_order-of bytes (in_order bytes xs) (in_order-ascends bytes xs);
  alike = λ f g xs h. each-in_order bytes (λ x. f x ≡ g x) xs h;
}

pub returns : goal.returns
returns c = record {
  identifiers = stays (λ i. item_text (item_ident i));
  members = stays (λ m. item_text (item_member m));
  parameters = stays (λ p. item_text (item_parameter p));
  geoid_models = stays (λ g. item_text (item_geoid_model g));
  usages = stays (λ u. item_text (item_usage u));
}
