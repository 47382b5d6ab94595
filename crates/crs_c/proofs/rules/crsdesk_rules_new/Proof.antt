use Rattle.crs_c.proofs.Held.{hands_over, word_out, dropped, goes_dropped, ends}
use Rattle.crs_c.proofs.Steps.{◌≡◌, [], ◌∷◌, ◌++◌, refl, sym, ap, only, subst, proved_at, full_share, id⊢, ent, ftrue, froom, tables, ‵, ◌⊛◌, prop, ◌$◌, ◌∵◌, !, qed, done, move, drop, use1, use2, split, join, fsplit, rewrite, regoal, suffices, frame, enter, of_opd, init, stop, no_more, and_then, assigns, returns, alloc_all, pass_all, free_all, look_at, get, through, sets, lands_as, unit_lit, vunit, feq_i, layout, Ptr, block_ptr, room_at, lies_at, in_a_block, rawptr_vals, rawptr_Tells, Vals, types_at, owns, nothing, heard, walk_of, framed, part_in, one, part_at, WpFn, global_row, global_laws, rules_row, rules_laws, rules_at, has_room_for_rules, HeldParts}
use Rattle.crs_c.specs.Held.{nothing_held}
use Rattle.crs_c.specs.contracts.rules.crsdesk_rules_new as f
use Rattle.crs_c.proofs.rules.crsdesk_rules_new.Statement.{statement}
use Rattle.crs_c.proofs.rules.crsdesk_rules_new.Code as code
use Rattle.crs_c.specs.contracts.no_rules as g
use Rattle.crs_c.proofs.no_rules.Met.{met}

pub crsdesk_rules_new_spec : {M : Type 1} → statement M
unfolding rules_at has_room_for_rules
crsdesk_rules_new_spec 𝓤 𝓛 𝓜 𝓡 wired =
    let c = f.clauses 𝓛 𝓜.mem 𝓡.returns in let W = walk_of 𝓛 f.ended (dropped f.ended) c in let 𝓣 = tables 𝓤 𝓛.H 𝓜 𝓡 𝓡.env in
    let R = rules_row in let A = global_row in
    proved_at 𝓛 f.ended (dropped f.ended) c 𝓜 𝓡 (goes_dropped 𝓛 f.ended (λ κs x w. refl, (λ κs x w. refl, tt)))
    f.Key.name code.function (code.unfolded 𝓤 𝓛.H 𝓜 𝓡 wired) (λ x are.
    let κs = x.0.0 in let qs = x.0.1 in let a = x.0.3.0 in
    let h = one (layout A) x.0.4.0 ((global_laws.lawful 𝓛).typed a x.0.4.0 are.0) in
    let Y : Vals f.signature κs → W.Ghost = λ vss. ((κs, qs, x.0.2, x.0.3, vss), x.1) in
    let y : Ptr → W.Ghost = λ p. ((κs, qs, x.0.2, (a, (p, tt)), (h.0 ∷ [], (rawptr_vals p, tt))), x.1) in
    subst (λ (vss : Vals f.signature κs). ent 𝓤 (W.pre (Y vss)) (WpFn 𝓤 𝓛.H 𝓣.C 𝓣.Λ code.function (W.args (Y vss)) (W.post (Y vss))))
    (sym (λ j. (h.1 j, (rawptr_Tells x.0.3.1.0 x.0.4.1.0 are.1.0 j, tt)))) (
    qed 𝓛 ((‵ ftrue ⊛ ‵ (owns (types_at f.ended.signature.params κs) x.0.3 (y x.0.3.1.0).0.4)) ∷ ‵ (room_at R x.0.3.1.0) ∷ []) ∵
    split ! $ drop ! $ fsplit ! $ move ! (1 ∷ []) $ drop ! $ move ! (1 ∷ []) $
    in_a_block ! x.0.3.1.0 (λ p. room_at R p) (id⊢ 𝓤 _) (λ b o e.
    regoal ! (λ p. prop (WpFn 𝓤 𝓛.H 𝓣.C 𝓣.Λ code.function (h.0 ∷ (rawptr_vals p ++ [])) (W.post (y p)))) e refl $
    use1 𝓛 (‵ (froom (layout R) b o)) (id⊢ 𝓤 _) $
    -- [the room; the allocator; the locals]
    enter ! _ _ _ _ _ $ alloc_all ! (λ l. pass_all ! refl (h.2, ((tt, tt), tt)) $
    sets ! (of_opd ! (get ! refl)) refl (tt, tt) $
    move ! (1 ∷ []) $ nothing ! $ move ! (1 ∷ 0 ∷ []) $ join ! $ nothing ! $ join ! $
    hands_over ! (framed 𝓤 𝓛.H 𝓜 𝓣) g.ended (g.clauses 𝓛 𝓜.mem 𝓡.returns) (met 𝓤 𝓛 𝓜 𝓡 (code.calls-crs_c::calls::rules::no_rules 𝓡.env wired))
    ((κs, qs, tt, (a, tt), (h.0 ∷ [], tt)), tt) (id⊢ 𝓤 _) (and_then ! (get ! refl) (no_more !)) (λ u r ws. heard ! (r ≡ nothing_held) (λ none.
    word_out ! R refl (rules_laws.lawful 𝓛) r (u ∷ []) (λ v good e₀.
    -- [the rules; the tokens; the room; the locals]
    lands_as ! (ap only e₀) refl good $
    sets ! (of_opd ! (get ! refl)) refl good $
    assigns ! (of_opd ! (get ! refl)) (through ! refl (stop !)) (init ! 2 refl good) $
    sets ! (of_opd ! (unit_lit !)) refl (tt, tt) $
    returns ! (look_at ! 0 refl) $ free_all ! refl $
    move ! (2 ∷ 0 ∷ []) $ use2 𝓛 (‵ (part_at R full_share r b o)) (part_in 𝓛 R refl full_share r b o v) $
    rewrite ! 0 (λ (x : HeldParts). ‵ (lies_at R full_share (block_ptr b o) x)) none refl $
    suffices ! _ (ends 𝓛 f.ended c (y (block_ptr b o)) vunit tt (tt, (tt, tt))) $
    feq_i ! _ (vunit ∷ []) _ refl $ move ! (2 ∷ 0 ∷ []) $ frame ! $ frame ! $ done !)))))))
