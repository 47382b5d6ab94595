-- The table that tokens lead to shows which token may follow, and whether they are a whole node.
use Rattle.std.proofs.Common.{◌≡◌, ◌≢◌, Bool, true, false, Option, Some, None, List, [], ◌∷◌, ◌++◌, refl, sym, ◌∙◌, ap}
use Rattle.std.specs.Option.{option_map}
use Rattle.crs_text.specs.Tokens.{Token, opening}
use Rattle.crs_text.specs.Items.{Item, AreNode}
use Rattle.crs_text.specs.Viable.{IsViable, IsViableAtAnyDepth}
use Rattle.crs_text.specs.inner.State.{State, wants, worded, after, start, step, run}
use Rattle.crs_text.specs.inner.Table.{Flat, flat_step, IsOpened, is_whole, flat, Shows}
use Rattle.crs_text.specs.declared.table.Opened.TheVariants.{TooDeep, Refused}
use Rattle.crs_text.specs.declared.table.Progress.{Progress}
use Rattle.crs_text.specs.declared.table.Progress.TheVariants.{BeforeItem, AfterWord, AfterItem}
use Rattle.crs_text.proofs.tokens.ViableLemmas.{viable_from_run, whole_from_run, run_from_whole}
use Rattle.crs_text.proofs.tokens.AllowedLemmas.{deep_from_word, worded_from_deep, not_viable_from_none}
use Rattle.crs_text.proofs.rows.FlatLemmas.{flat-step}
use Rattle.crs_text.proofs.rows.StateLemmas.{run-more}

pub shows_start : Shows [] (flat start)
shows_start = (start, refl, refl)

pub viable_from_shows : (ts : List Token) (f : Flat) → Shows ts f → IsViable ts
viable_from_shows ts f h = viable_from_run ts h.0 h.1

step-flat : (ts : List Token) (f : Flat) (t : Token) (h : Shows ts f) → flat_step f t ≡ option_map flat (step 12 h.0 t)
step-flat ts f t h = ap (λ g. flat_step g t) h.2 ∙ flat-step h.0 t

-- a table is that of a state, and none that of none
mapped-some : (o : Option State) (f : Flat) → option_map flat o ≡ Some f → (s : State) × (o ≡ Some s) × (f ≡ flat s)
mapped-some None f e = cc
mapped-some (Some s) f e = (s, refl, cc)

mapped-none : (o : Option State) → option_map flat o ≡ None → o ≡ None
mapped-none None e = refl
mapped-none (Some s) e = cc

-- one token more
pub shows_more : (ts : List Token) (f g : Flat) (t : Token) → Shows ts f → flat_step f t ≡ Some g → Shows (ts ++ t ∷ []) g
shows_more ts f g t h e =
    let m = mapped-some (step 12 h.0 t) g (sym (step-flat ts f t h) ∙ e) in
    (m.0, run-more 12 ts h.0 t m.0 h.1 m.1, m.2)

-- a token that isn't taken
pub not_viable_from_shows : (ts : List Token) (f : Flat) (t : Token) → Shows ts f → flat_step f t ≡ None → ¬ (IsViable (ts ++ t ∷ []))
not_viable_from_shows ts f t h e = not_viable_from_none ts h.0 t h.1 (mapped-none (step 12 h.0 t) (sym (step-flat ts f t h) ∙ e))

-- an opening delimiter after a word is allowed, but for the depth
pub deep_from_shows : (ts : List Token) (f : Flat) (square : Bool) → Shows ts f → f.progress ≡ AfterWord → IsViableAtAnyDepth (ts ++ opening square ∷ [])
deep_from_shows ts f square h is_word = go h.0 h.1 (sym (ap (λ f. f.progress) h.2) ∙ is_word)
  where
    go : (s : State) → run 12 start ts ≡ Some s → (flat s).progress ≡ AfterWord → IsViableAtAnyDepth (ts ++ opening square ∷ [])
    go (worded place raw fs) r e = deep_from_word ts place raw fs square r
    go (wants []) r e = cc
    go s r e = cc

pub none_from_deep : (f g : Flat) (square : Bool) → IsOpened f square TooDeep g → flat_step f (opening square) ≡ None
none_from_deep f g square o = rw (o.0, o.1) refl

-- an opening delimiter that isn't allowed there at all
pub refused_from_shows : (ts : List Token) (f : Flat) (square : Bool) → Shows ts f → f.progress ≢ AfterWord → ¬ (IsViableAtAnyDepth (ts ++ opening square ∷ []))
refused_from_shows ts f square h other v =
    let w = worded_from_deep ts h.0 square h.1 v in
    other (ap (λ f. f.progress) h.2 ∙ ap (λ s. (flat s).progress) w.3)

pub none_from_refused : (f g : Flat) (square : Bool) → IsOpened f square Refused g → flat_step f (opening square) ≡ None
none_from_refused f g square o = go f.progress refl
  where
    go : (p : Progress) → f.progress ≡ p → flat_step f (opening square) ≡ None
    go BeforeItem e = rw e refl
    go AfterWord e = absurd (o.0 e)
    go AfterItem e = rw e refl

-- the tokens are a whole node exactly where the table says so
pub whole_from_shows : (ts : List Token) (f : Flat) → Shows ts f → is_whole f ≡ true → (item : Item) × AreNode item ts × (f ≡ flat (after item []))
whole_from_shows ts f h e = go h.0 h.1 h.2 (sym (ap is_whole h.2) ∙ e)
  where
    go : (s : State) → run 12 start ts ≡ Some s → f ≡ flat s → is_whole (flat s) ≡ true → (item : Item) × AreNode item ts × (f ≡ flat (after item []))
    go (after item []) r k w = (item, whole_from_run ts item r, k)
    go (wants []) r k w = cc
    go s r k w = cc

pub not_whole_from_shows : (ts : List Token) (f : Flat) → Shows ts f → is_whole f ≡ false → (item : Item) → ¬ (AreNode item ts)
not_whole_from_shows ts f h e item a =
    let s : h.0 ≡ after item [] = cc (run_from_whole ts item a) in
    let k : is_whole f ≡ true = ap is_whole (h.2 ∙ ap flat s) in
    cc
