-- What the walks of the calls share that read a value from a place of the caller's, hand it to a safe function, and write it back. Assumes `Logic`.
--     held_at        a value at a place is a word in a block, which fits the value's type
--     hands_over     a call of a safe function: what it says, its answer, and the tokens
--     both_heard     two facts are learned
--     word_out       what is owned at some words is owned at one word, which fits the type
--     pair_out       a pair is two words, each of which fits its type, and together they fit the pair's
--     writes_back    the answer's first part goes to the place, and its second stays in a local
--     dropped        nothing is left of a parameter.        goes_dropped     where nothing is said of it at exit.        ends     how such a walk ends
use Rattle.crs_c.proofs.Steps.{◌≡◌, ℕ, List, [], ◌∷◌, ◌++◌, refl, ap, ◌∙◌, subst, full_share, id⊢, sep, ent, sem, fat, Val, vstruct, of_list, ‵, raw, ◌⊛◌, some, later, ◌$◌, ◌∵◌, !, qed, done, move, drop, use1, split, join, fsplit, fpick, feq_l, pick, await, rewrite, regoal, suffices, shows, Is, layout, Ptr, block_ptr, lies_at, in_a_block, peeks, nothing, heard, fact, only, Tuple, lasts, Lasts, triple_of, Stays, walk_of, stay_dropped, Goes-dropped, ends_at, part_out, Good, one, T, true, ◌&&◌, both, has_ty, sym, part_at, part_in, froom, of_opd, load, look, store, init, stop, fld, assigns, whole, sub}
use seplogic.Ra.Ura.{Ura}
use mir.Syntax.{Sym, Ty, ty_ptr, ty_struct, tcons, tnil, Callee, Place, place, Step as PStep, deref, field, Opd as Operand, copy, rv_opd, Body, seq, assign, call}
use base.Logic.{emp, via, emp∗, mono_r}
use prog.Wp.{Env, Spot, spot_of, Calls, Loops}
use sound.WpLaws.{FmC}
use contract.Lifetimes.{Lfts}
use mir.Val.{WT, vptr}
use types.Logic.{Logic}
use types.Kit.{Item, Goal, Post, Seq, Sq, mean, runs, lands, use0, use2}
use types.Part.{look_in}
use types.Run.{Opds, Walks, Finds, from, hop, land}
use denote.Laws.{Lawful, Typed}
use denote.RattleType.{RattleType, Denots, Valss}
use denote.Signature.{Slot, type_at, types_at}
use denote.Triple.Call.{calls_at}
use denote.Triple.Clauses.{Ended, Clauses, at_exit, closing}
use denote.Triple.End.{Kepts, Fins}
use denote.Triple.Entry.{Res, alive}
use denote.Triple.Statement.{Contract, Triple}
use denote.Triple.Walked.{Silent, AllGo, fits_of, has_of}
use borrow.Table.OneValue.{One}

module _ {M : Type 1} {𝓤 : Ura M} {𝓛 : Logic 𝓤} {K : Type 0} {Γ : List (Item 𝓤)} {G : Goal 𝓤 𝓛.H} where
  pub held_at : K → (R : RattleType) → One R → Lawful 𝓛 R → (p : Ptr) (x : R.Denot) (F : Ptr → Goal 𝓤 𝓛.H) → F p ≡ G
      → ((b o : ℕ) (v : Val) → Good (layout R) v → Seq K 𝓛 (‵ (R.own_val x (v ∷ [])) ∷ ‵ (fat full_share (layout R) b o v) ∷ Γ) (F (block_ptr b o)))
      → Seq K 𝓛 (‵ (lies_at R full_share p x) ∷ Γ) G
  held_at t R is_one L p x F is_G k = in_a_block t p (λ q. lies_at R full_share q x) (id⊢ 𝓤 _) (λ b o e. regoal t F e is_G $
      use1 𝓛 (some (λ (v : Val). ‵ (fat full_share (layout R) b o v) ⊛ ‵ (R.own_val x (v ∷ [])))) (part_out 𝓛 R is_one full_share x b o) $ pick t (λ v. split t $ move t (1 ∷ []) $
      peeks t R (Is R) (shows 𝓛 R) x (v ∷ []) (λ is. k b o v (subst (λ (τs : List Ty). Typed τs (v ∷ [])) is_one (L.typed x (v ∷ []) is)).0)))

  pub word_out : K → (R : RattleType) → One R → Lawful 𝓛 R → (x : R.Denot) (vs : List Val)
      → ((v : Val) → Good (layout R) v → vs ≡ v ∷ [] → Seq K 𝓛 (‵ (R.own_val x (v ∷ [])) ∷ Γ) G) → Seq K 𝓛 (‵ (R.own_val x vs) ∷ Γ) G
  word_out t R is_one L x vs k = peeks t R (Is R) (shows 𝓛 R) x vs (λ is.
      let g = one (layout R) vs (subst (λ (τs : List Ty). Typed τs vs) is_one (L.typed x vs is)) in
      rewrite t 0 (λ (ws : List Val). ‵ (R.own_val x ws)) g.1 refl $ k g.0 g.2 g.1)

  pub both_heard : K → (φ ψ : Type 0) → (φ → ψ → Seq K 𝓛 Γ G) → Seq K 𝓛 (raw (sep 𝓤 (fact 𝓤 φ) (fact 𝓤 ψ)) ∷ Γ) G
  both_heard t φ ψ k = use1 𝓛 (raw (fact 𝓤 φ) ⊛ raw (fact 𝓤 ψ)) (id⊢ 𝓤 _) $ split t $ heard t φ (λ x. heard t ψ (k x))

module _ {M : Type 1} {𝓤 : Ura M} {𝓛 : Logic 𝓤} {K : Type 0} {Γ : List (Item 𝓤)} {G : Goal 𝓤 𝓛.H} where
  -- [the second; the first; the rest]
  pub pair_out : K → (R P : RattleType) → One R → One P → Lawful 𝓛 R → Lawful 𝓛 P → (r : R.Denot × P.Denot) (u : Val)
      → ((v w : Val) → Good (layout R) v → Good (layout P) w → u ≡ vstruct (of_list (v ∷ w ∷ [])) → T (has_ty (layout R) v && (has_ty (layout P) w && true)) × WT (vstruct (of_list (v ∷ w ∷ []))) → Seq K 𝓛 (‵ (P.own_val r.1 (w ∷ [])) ∷ ‵ (R.own_val r.0 (v ∷ [])) ∷ Γ) G)
      → Seq K 𝓛 (‵ ((Tuple (R ∷ P ∷ [])).own_val r (u ∷ [])) ∷ Γ) G
  pair_out t R P one_R one_P LR LP r u k = fpick t (λ vss. fsplit t $ feq_l t (λ eu. fsplit t $
      word_out t R one_R LR r.0 vss.0 (λ v v_good e₀. move t (1 ∷ []) $ fsplit t $
      word_out t P one_P LP r.1 vss.1.0 (λ w w_good e₁. move t (1 ∷ []) $ drop t $
      k v w v_good w_good (ap only (eu ∙ (λ i. vstruct (of_list (e₀ i ++ (e₁ i ++ []))) ∷ [])))
      (both (has_ty (layout R) v) (has_ty (layout P) w && true) v_good.0 (both (has_ty (layout P) w) true w_good.0 tt), (v_good.1, (w_good.1, tt)))))))

abbrev asked : {M : Type 1} {𝓤 : Ura M} (𝓛 : Logic 𝓤) (T : Ended) → Clauses 𝓤 T → Contract 𝓤
asked 𝓛 T c = triple_of 𝓛 T.signature (closing 𝓛 T c)

module _ {M : Type 1} {𝓤 : Ura M} {𝓛 : Logic 𝓤} {K : Type 0} {Γ : List (Item 𝓤)} {E : Env 𝓤 𝓛.H} {C : Calls 𝓤 𝓛.H} {f : Callee} {xs : List Operand} {Λ : Loops 𝓤 𝓛.H} {q : Post 𝓤 𝓛.H} {d : Place} {rest : Body} where
  pub hands_over : K → FmC 𝓤 𝓛.H 𝓛.laws C → (T : Ended) (c : Clauses 𝓤 T) → Triple 𝓤 (C f) (asked 𝓛 T c) → (y : (asked 𝓛 T c).Ghost) {i : Item 𝓤} → ent 𝓤 (sep 𝓤 (mean 𝓛 i) (emp 𝓤)) ((asked 𝓛 T c).pre y)
      → Opds K 𝓛 (raw ((asked 𝓛 T c).pre y) ∷ Γ) E xs ((asked 𝓛 T c).args y)
      → ((u : Val) (r : Res T.signature y.0.0) (ws : Lasts T y.0.0 y.0.3) → Seq K 𝓛 (raw ((c y.0.0 y.0.3).ensures y.1 r (at_exit T y.0.0 y.0.3 ws)) ∷ ‵ ((type_at T.signature.result y.0.0).own_val r (u ∷ [])) ∷ raw (alive 𝓛 T.signature y.0.0 y.0.1) ∷ Γ) (lands C Λ E d u rest q))
      → Seq K 𝓛 (i ∷ Γ) (runs C Λ E (seq (call f xs d) rest) q)
  hands_over t fm T c met y had opds k = nothing t $ move t (1 ∷ 0 ∷ []) $ use2 𝓛 (raw ((asked 𝓛 T c).pre y)) had $ calls_at t fm (asked 𝓛 T c) met y opds (λ u.
      use1 𝓛 (later (some (λ (r : Res T.signature y.0.0). (raw (alive 𝓛 T.signature y.0.0 y.0.1) ⊛ ‵ ((type_at T.signature.result y.0.0).own_val r (u ∷ []))) ⊛
      some (λ (ws : Lasts T y.0.0 y.0.3). ‵ (lasts T y.0.0 y.0.3 ws) ⊛ raw ((c y.0.0 y.0.3).ensures y.1 r (at_exit T y.0.0 y.0.3 ws)))))) (id⊢ 𝓤 _) $
      await t tt $ pick t (λ r. split t $ split t $ move t (2 ∷ []) $ pick t (λ ws. split t $ drop t $ move t (0 ∷ 2 ∷ 1 ∷ []) $ k u r ws)))

finds : {M : Type 1} {𝓤 : Ura M} {𝓛 : Logic 𝓤} {K : Type 0} {Γ : List (Item 𝓤)} {E : Env 𝓤 𝓛.H} → K → {i : ℕ} {st : List PStep} {sp sp' : Spot 𝓤 𝓛.H} → spot_of 𝓤 𝓛.H E i ≡ sp → Walks K 𝓛 Γ E sp st sp' → Finds K 𝓛 Γ E (place i st) sp'
finds {𝓛 = 𝓛} {K = K} {Γ = Γ} {E = E} t {st = st} {sp' = sp'} e w = from t (subst (λ (sp : Spot _ 𝓛.H). Walks K 𝓛 Γ E sp st sp') (sym e) w)

abbrev pair_type : Sym → RattleType → RattleType → Ty
pair_type ν R P = ty_struct ν (tcons (layout R) (tcons (layout P) tnil))

abbrev sets_to : Place → Place → Body → Body
sets_to p p' = seq (assign p (rv_opd (copy p')))

module _ {M : Type 1} {𝓤 : Ura M} {𝓛 : Logic 𝓤} {Δ : List (Item 𝓤)} {E : Env 𝓤 𝓛.H} {C : Calls 𝓤 𝓛.H} {Λ : Loops 𝓤 𝓛.H} {q : Post 𝓤 𝓛.H} {rest : Body} where
  -- i is the local with the place, j and k those of the parts, l that of the pair, and m that of what is written
  pub writes_back : (R P : RattleType) → One R → One P → Lawful 𝓛 R → Lawful 𝓛 P → (r : R.Denot × P.Denot) (u : Val) {i j k l m bi bj bk bl bm b o : ℕ} {v₀ : Val} {ν : Sym} {A X₁ X₂ D₁ D₂ D₃ D₄ D₅ D₆ D₇ : Item 𝓤}
      → spot_of 𝓤 𝓛.H E i ≡ (ty_ptr, bi, 0) → spot_of 𝓤 𝓛.H E j ≡ (layout R, bj, 0) → spot_of 𝓤 𝓛.H E k ≡ (layout P, bk, 0) → spot_of 𝓤 𝓛.H E l ≡ (pair_type ν R P, bl, 0) → spot_of 𝓤 𝓛.H E m ≡ (layout R, bm, 0)
      → ((v w : Val) → Good (layout P) w → Sq 𝓛 (‵ (part_at R full_share r.0 b o) ∷ ‵ (P.own_val r.1 (w ∷ [])) ∷ A ∷ ‵ (fat full_share (layout R) bm 0 v) ∷ D₁ ∷ X₁ ∷ D₂ ∷ ‵ (fat full_share (pair_type ν R P) bl 0 (vstruct (of_list (v ∷ w ∷ [])))) ∷ D₃
      ∷ ‵ (fat full_share (layout P) bk 0 w) ∷ D₄ ∷ ‵ (fat full_share (layout R) bj 0 v) ∷ D₅ ∷ X₂ ∷ D₆ ∷ ‵ (fat full_share ty_ptr bi 0 (vptr b o)) ∷ D₇ ∷ Δ) (runs C Λ E rest q))
      → Sq 𝓛 (‵ ((Tuple (R ∷ P ∷ [])).own_val r (u ∷ [])) ∷ A ∷ ‵ (fat full_share (layout R) b o v₀) ∷ ‵ (froom (layout R) bm 0) ∷ D₁ ∷ X₁ ∷ D₂ ∷ ‵ (froom (pair_type ν R P) bl 0) ∷ D₃
      ∷ ‵ (froom (layout P) bk 0) ∷ D₄ ∷ ‵ (froom (layout R) bj 0) ∷ D₅ ∷ X₂ ∷ D₆ ∷ ‵ (fat full_share ty_ptr bi 0 (vptr b o)) ∷ D₇ ∷ Δ)
      (lands C Λ E (place l []) u (sets_to (place j []) (place l (field 0 ∷ [])) (sets_to (place k []) (place l (field 1 ∷ [])) (sets_to (place m []) (place j []) (sets_to (place i (deref (layout R) ∷ [])) (place m []) rest)))) q)
  writes_back R P one_R one_P is_R is_P r u {bl = bl} {b = b} {o = o} {ν = ν} at_i at_j at_k at_l at_m next = pair_out ! R P one_R one_P is_R is_P r u (λ v w good good_w eu fits.
      land ! (finds ! at_l (stop !)) (init ! 8 refl (subst (Good (pair_type ν R P)) (sym eu) fits)) $ rewrite ! 8 (λ (z : Val). ‵ (fat full_share (pair_type ν R P) bl 0 z)) eu refl $
      assigns ! (of_opd ! (load ! (finds ! at_l (fld ! refl (stop !))) (look_in ! 8 (sub ! 0 refl (whole !))))) (finds ! at_j (stop !)) (init ! 12 refl good) $
      assigns ! (of_opd ! (load ! (finds ! at_l (fld ! refl (stop !))) (look_in ! 8 (sub ! 1 refl (whole !))))) (finds ! at_k (stop !)) (init ! 10 refl good_w) $
      assigns ! (of_opd ! (load ! (finds ! at_j (stop !)) (look ! 12 refl))) (finds ! at_m (stop !)) (init ! 4 refl good) $
      assigns ! (of_opd ! (load ! (finds ! at_m (stop !)) (look ! 4 refl))) (finds ! at_i (hop ! (look ! 16 refl) (stop !))) (store ! 3 refl good) $
      move ! (3 ∷ 1 ∷ []) $ use2 𝓛 (‵ (part_at R full_share r.0 b o)) (part_in 𝓛 R one_R full_share r.0 b o v) $ next v w good_w)

-- ---- parameters of which nothing is left
module _ {n : ℕ} where
  abbrev all_dropped : (ss : List (Slot n)) (ks : Kepts ss) → Stays ss ks
  all_dropped [] ks = tt
  all_dropped (s ∷ ss) ks = (stay_dropped s ks.0, all_dropped ss ks.1)

  all_fit : (κs : Lfts n) (ss : List (Slot n)) (ks : Kepts ss) (a : Denots (types_at ss κs)) (ws : Fins κs ss ks a) → fits_of κs ss ks (all_dropped ss ks) a ws
  all_fit κs [] ks a ws = tt
  all_fit κs (s ∷ ss) ks a ws = (tt, all_fit κs ss ks.1 a.1 ws.1)

  module _ {M : Type 1} {𝓤 : Ura M} (𝓛 : Logic 𝓤) where
    abbrev Silents : (ss : List (Slot n)) → Kepts ss → Type 1
    Silents [] ks = Unit {1}
    Silents (s ∷ ss) ks = Silent 𝓛 n s ks.0 × Silents ss ks.1

    all_go : (ss : List (Slot n)) (ks : Kepts ss) → Silents ss ks → AllGo 𝓛 n ss ks (all_dropped ss ks)
    all_go [] ks is = tt
    all_go (s ∷ ss) ks is = (Goes-dropped 𝓛 n s ks.0 is.0, all_go ss ks.1 is.1)

    none_had : (κs : Lfts n) (ss : List (Slot n)) (ks : Kepts ss) (a : Denots (types_at ss κs)) (ws : Fins κs ss ks a) (vss : Valss (types_at ss κs)) → ent 𝓤 (emp 𝓤) (sem 𝓛 (has_of κs ss ks (all_dropped ss ks) a ws vss))
    none_had κs [] ks a ws vss = id⊢ 𝓤 (emp 𝓤)
    none_had κs (s ∷ ss) ks a ws vss = via 𝓤 (sep 𝓤 (emp 𝓤) (emp 𝓤)) (emp∗ 𝓤 (emp 𝓤)) (mono_r 𝓤 (emp 𝓤) (none_had κs ss ks.1 a.1 ws.1 vss.1))

abbrev pub dropped : (T : Ended) → Stays T.signature.params T.kept
dropped T = all_dropped T.signature.params T.kept

module _ {M : Type 1} {𝓤 : Ura M} (𝓛 : Logic 𝓤) (T : Ended) where
  pub goes_dropped : Silents 𝓛 T.signature.params T.kept → AllGo 𝓛 T.signature.lifetimes T.signature.params T.kept (dropped T)
  goes_dropped = all_go 𝓛 T.signature.params T.kept

  pub ends : (c : Clauses 𝓤 T) (y : (walk_of 𝓛 T (dropped T) c).Ghost) (v : Val) (r : Res T.signature y.0.0) (ws : Lasts T y.0.0 y.0.3)
      → ent 𝓤 (sep 𝓤 (alive 𝓛 T.signature y.0.0 y.0.1) (sep 𝓤 (sem 𝓛 ((type_at T.signature.result y.0.0).own_val r (v ∷ []))) ((c y.0.0 y.0.3).ensures y.1 r (at_exit T y.0.0 y.0.3 ws))))
      ((walk_of 𝓛 T (dropped T) c).post y v)
  ends c y v r ws =
      let κs = y.0.0 in let ss = T.signature.params in
      qed 𝓛 (raw (alive 𝓛 T.signature κs y.0.1) ∷ ‵ ((type_at T.signature.result κs).own_val r (v ∷ [])) ∷ raw ((c κs y.0.3).ensures y.1 r (at_exit T κs y.0.3 ws)) ∷ []) ∵
      suffices ! _ (ends_at 𝓛 T (dropped T) c y v r ws (all_fit κs ss T.kept y.0.3 ws)) $
      use0 𝓛 (‵ (has_of κs ss T.kept (dropped T) y.0.3 ws y.0.4)) (none_had 𝓛 κs ss T.kept y.0.3 ws y.0.4) $
      move ! (0 ∷ 2 ∷ []) $ join ! $ move ! (1 ∷ 0 ∷ []) $ join ! $ done !
