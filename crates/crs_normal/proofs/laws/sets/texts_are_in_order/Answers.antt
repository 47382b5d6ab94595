use Rattle.crs_normal.specs.Normal.{IsIn}
use Rattle.crs_normal.proofs.members.SetLemmas.{ascending-one, each-of, in_order-ascends, in_order-back, in_order-has}
use Rattle.crs_normal.proofs.laws.sets.texts_are_in_order.Goals as goal

pub returns : goal.returns
returns c = record {
  ascend = λ texts. in_order-ascends (λ text. text) texts;
  members = λ texts text. (
    λ h. in_order-back (λ text. text) text texts h,
    λ h.
        in_order-has (λ text. text) (λ t. IsIn t texts) (λ a b p q e. e) text texts
        (each-of (λ t. IsIn t texts) texts (λ t q. q)) h,
  );
  one = λ xs ys p q same. ascending-one (λ text. text) xs ys p q (λ t h. (same t).0 h) (λ t h. (same t).1 h);
}
