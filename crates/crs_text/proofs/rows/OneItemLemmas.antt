-- Tokens begin with one item at most.
use Rattle.std.proofs.Common.{◌≡◌, ℕ, Bool, List, [], ◌∷◌, ◌++◌, refl, sym, ◌∙◌, subst, append_assoc}
use Rattle.std.proofs.lemmas.List.{append-nil}
use Rattle.crs_text.specs.Tokens.{Token, opening, closing}
use Rattle.crs_text.specs.Items.{Item, leaf, node, Siblings, End, More, tokens, others_tokens, AreNode, BeginsNoNode}
use Rattle.crs_text.proofs.tokens.ViableLemmas.{node_tokens}

behind-others : (items : Siblings) (close : ℕ) (square : Bool) (more : List Token) → BeginsNoNode (others_tokens items ++ closing close square ∷ more)
behind-others End close square more = tt
behind-others (More item items) close square more = tt

no_opening : (ts more : List Token) (square : Bool) → BeginsNoNode ts → ts ≡ opening square ∷ more → ⊥
no_opening ts more square h e = subst BeginsNoNode e h

mutual
  pub item-cancel : (i j : Item) (a b : List Token) → BeginsNoNode a → BeginsNoNode b → tokens i ++ a ≡ tokens j ++ b → (i ≡ j) × (a ≡ b)
  item-cancel (leaf k p r) (leaf k' p' r') a b ha hb e = (cc, cc)
  item-cancel (leaf k p r) (node p' w' s' first' others' c') a b ha hb e = absurd (no_opening a ((tokens first' ++ others_tokens others' ++ closing c' s' ∷ []) ++ b) s' ha (cc))
  item-cancel (node p w s first others c) (leaf k' p' r') a b ha hb e = absurd (no_opening b ((tokens first ++ others_tokens others ++ closing c s ∷ []) ++ a) s hb (cc))
  item-cancel (node p w s first others c) (node p' w' s' first' others' c') a b ha hb e =
      let inner : tokens first ++ (others_tokens others ++ closing c s ∷ a) ≡ tokens first' ++ (others_tokens others' ++ closing c' s' ∷ b) =
      sym (node_tokens (tokens first) (others_tokens others) (closing c s) a) ∙ (cc) ∙ node_tokens (tokens first') (others_tokens others') (closing c' s') b in
      let one = item-cancel first first' _ _ (behind-others others c s a) (behind-others others' c' s' b) inner in
      let rest = others-cancel others others' c c' s s' a b one.1 in
      (cc (one.0, rest.0, rest.1), rest.2)

  others-cancel : (is js : Siblings) (c c' : ℕ) (s s' : Bool) (a b : List Token) →
      others_tokens is ++ closing c s ∷ a ≡ others_tokens js ++ closing c' s' ∷ b → (is ≡ js) × (c ≡ c') × (a ≡ b)
  others-cancel End End c c' s s' a b e = (refl, cc, cc)
  others-cancel (More i is) (More j js) c c' s s' a b e =
      let inner : tokens i ++ (others_tokens is ++ closing c s ∷ a) ≡ tokens j ++ (others_tokens js ++ closing c' s' ∷ b) =
      sym (append_assoc (tokens i) (others_tokens is) (closing c s ∷ a)) ∙ (cc) ∙ append_assoc (tokens j) (others_tokens js) (closing c' s' ∷ b) in
      let one = item-cancel i j _ _ (behind-others is c s a) (behind-others js c' s' b) inner in
      let rest = others-cancel is js c c' s s' a b one.1 in
      (cc (one.0, rest.0), rest.1, rest.2)
  others-cancel is js c c' s s' a b e = cc

pub one_node : (i j : Item) (ts : List Token) → AreNode i ts → AreNode j ts → i ≡ j
one_node i j ts h k =
    (item-cancel i j [] [] tt tt (append-nil (tokens i) ∙ sym h.are ∙ k.are ∙ sym (append-nil (tokens j)))).0
