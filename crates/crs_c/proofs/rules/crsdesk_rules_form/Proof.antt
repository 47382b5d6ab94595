use Rattle.crs_c.proofs.Held.{held_at, hands_over, writes_back, dropped, goes_dropped, ends}
use Rattle.crs_c.proofs.Steps.{[], ◌∷◌, ◌++◌, refl, w32, proved, full_share, id⊢, sep, sem, ftrue, flft, named, vint, fact, tables, ‵, ◌⊛◌, prop, ◌$◌, ◌∵◌, !, qed, done, move, drop, show, split, join, fsplit, suffices, frame, enter, of_opd, load, look, stop, no_more, and_then, returns, alloc_all, pass_all, free_all, look_at, get, through, sets, u8, u32, uint_Makes, uint_vals, uint_Tells, Ptr, block_ptr, lies_at, rawptr_vals, rawptr_Tells, shr_slice_vals, shr_slice_Tells, types_at, owns, nothing, owned, heard, walk_of, says, framed, WpFn, rules_row, rules_laws, rules_at, HeldParts}
use Rattle.crs_c.specs.RulesCalls.{IsFormed}
use Rattle.crs_c.specs.contracts.calls.rules.Form as told_type
use Rattle.crs_c.proofs.calls.rules.Form.TheLaws as told_laws
use Rattle.crs_c.specs.contracts.rules.crsdesk_rules_form as f
use Rattle.crs_c.proofs.rules.crsdesk_rules_form.Statement.{statement}
use Rattle.crs_c.proofs.rules.crsdesk_rules_form.Code as code
use Rattle.crs_c.specs.contracts.make_form as g
use Rattle.crs_c.proofs.make_form.Met.{met}

pub crsdesk_rules_form_spec : {M : Type 1} → statement M
unfolding rules_at
crsdesk_rules_form_spec 𝓤 𝓛 𝓜 𝓡 wired =
    let c = f.clauses 𝓛 𝓜.mem 𝓡.returns in let W = walk_of 𝓛 f.ended (dropped f.ended) c in let 𝓣 = tables 𝓤 𝓛.H 𝓜 𝓡 𝓡.env in
    let R = rules_row in let P = told_type.the_row in
    let is_R = rules_laws.lawful 𝓛 in let is_P = told_laws.the_row_laws.lawful 𝓛 in
    proved 𝓛 f.ended (dropped f.ended) c 𝓜 𝓡 (goes_dropped 𝓛 f.ended (λ κs x w. refl, (λ κs x w. refl, (λ κs x w. refl, tt))))
    f.Key.name code.function (code.unfolded 𝓤 𝓛.H 𝓜 𝓡 wired)
    (λ κs. (rawptr_vals, (uint_vals w32, (shr_slice_vals, tt)))) (λ κs. (rawptr_Tells, (uint_Tells w32, (shr_slice_Tells (named 0) κs.0 u8, tt)))) (λ κs qs bounds a n are.
    let i = a.1.0 in let s = a.1.1.0 in
    let y : Ptr → W.Ghost = λ p. ((κs, qs, bounds, (p, (i, (s, tt))), (rawptr_vals p, (uint_vals w32 i, (shr_slice_vals s, tt)))), n) in
    qed 𝓛 (((‵ (flft κs.0 qs.0) ⊛ ‵ ftrue) ⊛ ‵ (owns (types_at f.ended.signature.params κs) a (y a.0).0.4)) ∷ ‵ (lies_at R full_share a.0 n) ∷ []) ∵
    split ! $ move ! (1 ∷ []) $ fsplit ! $ drop ! $ fsplit ! $ drop ! $ fsplit ! $ move ! (1 ∷ []) $ drop ! $ move ! (2 ∷ []) $
    -- [the rules; the text; the token]
    held_at ! R refl is_R a.0 n (λ p. prop (WpFn 𝓤 𝓛.H 𝓣.C 𝓣.Λ code.function (rawptr_vals p ++ (vint w32 i ∷ shr_slice_vals s)) (W.post (y p)))) refl (λ b o v good.
    -- [the value; its cell; the text; the token; the locals]
    enter ! _ _ _ _ _ $ alloc_all ! (λ l. pass_all ! refl ((tt, tt), ((tt, record { fits = are.1.0.1 }), ((tt, (tt, (record { fits = are.1.1.0.0.1.0 }, tt))), tt))) $
    sets ! (of_opd ! (get ! refl)) refl (tt, tt) $
    sets ! (of_opd ! (load ! (through ! refl (stop !)) (look ! 1 refl))) refl good $
    sets ! (of_opd ! (get ! refl)) refl good $
    nothing ! $ move ! (3 ∷ 0 ∷ []) $ join ! $ owned ! u32 _ (uint_Makes 𝓛 w32) i _ (refl, are.1.0.1) $ join ! $ move ! (1 ∷ 0 ∷ []) $ join ! $
    move ! (2 ∷ 0 ∷ []) $ join ! $
    hands_over ! (framed 𝓤 𝓛.H 𝓜 𝓣) g.ended (g.clauses 𝓛 𝓜.mem 𝓡.returns) (met 𝓤 𝓛 𝓜 𝓡 (code.calls-crs_c::calls::rules::make_form 𝓡.env wired))
    ((κs, qs, tt, (n, (i, (s, tt))), (v ∷ [], (vint w32 i ∷ [], (shr_slice_vals s, tt)))), tt) (id⊢ 𝓤 _) (and_then ! (get ! refl) (and_then ! (get ! refl) (and_then ! (get ! refl) (no_more !)))) (λ u r ws.
    heard ! (IsFormed i s.now n r.0 r.1) (λ told.
    writes_back R P refl refl is_R is_P r u refl refl refl refl refl (λ v' w good_w.
    -- [the rules; what is told; the tokens; the locals]
    sets ! (of_opd ! (get ! refl)) refl good_w $
    returns ! (look_at ! 0 refl) $ free_all ! refl $
    suffices ! _ (ends 𝓛 f.ended c (y (block_ptr b o)) w r.1 (tt, (tt, (tt, tt)))) $ move ! (2 ∷ 1 ∷ []) $ frame ! $ frame ! $
    show ! (λ (new : HeldParts). sep 𝓤 (sem 𝓛 (lies_at R full_share (block_ptr b o) new)) (fact 𝓤 (IsFormed i s.now n new r.1))) r.0 $ says ! told $ done !))))))
