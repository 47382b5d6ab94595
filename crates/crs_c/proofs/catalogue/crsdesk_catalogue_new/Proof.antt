use Rattle.crs_c.proofs.Held.{hands_over, pair_out, dropped, goes_dropped, ends}
use Rattle.crs_c.proofs.Steps.{[], ◌∷◌, ◌++◌, refl, sym, subst, w32, proved_at, full_share, id⊢, sep, ent, sem, ftrue, froom, vint, fact, tables, ‵, ◌⊛◌, prop, ◌$◌, ◌∵◌, !, qed, done, move, drop, show, use1, use2, split, join, fsplit, regoal, suffices, frame, whole, sub, enter, of_opd, init, stop, fld, no_more, and_then, assigns, returns, alloc_all, pass_all, free_all, look_at, get, get_in, through, sets, lands_as, u32, layout, uint_Makes, uint_Tells, uint_Lawful, Ptr, block_ptr, room_at, lies_at, in_a_block, rawptr_vals, rawptr_Tells, Vals, types_at, owns, nothing, owned, heard, walk_of, says, framed, part_in, one, part_at, WpFn, global_row, global_laws, CatalogueParts, catalogue_row, catalogue_laws, catalogue_at, has_room}
use Rattle.crs_c.specs.Catalogues.{IsMadeEmpty}
use Rattle.crs_c.specs.contracts.catalogue.crsdesk_catalogue_new as f
use Rattle.crs_c.proofs.catalogue.crsdesk_catalogue_new.Statement.{statement}
use Rattle.crs_c.proofs.catalogue.crsdesk_catalogue_new.Code as code
use Rattle.crs_c.specs.contracts.new_catalogue as g
use Rattle.crs_c.proofs.new_catalogue.Met.{met}

pub crsdesk_catalogue_new_spec : {M : Type 1} → statement M
unfolding catalogue_at has_room
crsdesk_catalogue_new_spec 𝓤 𝓛 𝓜 𝓡 wired =
    let c = f.clauses 𝓛 𝓜.mem 𝓡.returns in let W = walk_of 𝓛 f.ended (dropped f.ended) c in let 𝓣 = tables 𝓤 𝓛.H 𝓜 𝓡 𝓡.env in
    let R = catalogue_row in let A = global_row in
    proved_at 𝓛 f.ended (dropped f.ended) c 𝓜 𝓡 (goes_dropped 𝓛 f.ended (λ κs x w. refl, (λ κs x w. refl, (λ κs x w. refl, tt))))
    f.Key.name code.function (code.unfolded 𝓤 𝓛.H 𝓜 𝓡 wired) (λ x are.
    let κs = x.0.0 in let qs = x.0.1 in let a = x.0.3.0 in let k = x.0.3.1.1.0 in
    let h = one (layout A) x.0.4.0 ((global_laws.lawful 𝓛).typed a x.0.4.0 are.0) in
    let Y : Vals f.signature κs → W.Ghost = λ vss. ((κs, qs, x.0.2, x.0.3, vss), x.1) in
    let y : Ptr → W.Ghost = λ p. ((κs, qs, x.0.2, (a, (p, (k, tt))), (h.0 ∷ [], (rawptr_vals p, (vint w32 k ∷ [], tt)))), x.1) in
    subst (λ (vss : Vals f.signature κs). ent 𝓤 (W.pre (Y vss)) (WpFn 𝓤 𝓛.H 𝓣.C 𝓣.Λ code.function (W.args (Y vss)) (W.post (Y vss))))
    (sym (λ j. (h.1 j, (rawptr_Tells x.0.3.1.0 x.0.4.1.0 are.1.0 j, (uint_Tells w32 k x.0.4.1.1.0 are.1.1.0 j, tt))))) (
    qed 𝓛 ((‵ ftrue ⊛ ‵ (owns (types_at f.ended.signature.params κs) x.0.3 (y x.0.3.1.0).0.4)) ∷ ‵ (room_at R x.0.3.1.0) ∷ []) ∵
    split ! $ drop ! $ fsplit ! $ move ! (1 ∷ []) $ drop ! $ move ! (1 ∷ []) $
    in_a_block ! x.0.3.1.0 (λ p. room_at R p) (id⊢ 𝓤 _) (λ b o e.
    regoal ! (λ p. prop (WpFn 𝓤 𝓛.H 𝓣.C 𝓣.Λ code.function (h.0 ∷ (rawptr_vals p ++ (vint w32 k ∷ []))) (W.post (y p)))) e refl $
    use1 𝓛 (‵ (froom (layout R) b o)) (id⊢ 𝓤 _) $
    -- [the room; the allocator; the locals]
    enter ! _ _ _ _ _ $ alloc_all ! (λ l. pass_all ! refl (h.2, ((tt, tt), ((tt, record { fits = are.1.1.0.1 }), tt))) $
    sets ! (of_opd ! (get ! refl)) refl (tt, tt) $
    move ! (1 ∷ []) $ nothing ! $ owned ! u32 _ (uint_Makes 𝓛 w32) k _ (refl, are.1.1.0.1) $ join ! $ move ! (1 ∷ 0 ∷ []) $ join ! $ nothing ! $ join ! $
    hands_over ! (framed 𝓤 𝓛.H 𝓜 𝓣) g.ended (g.clauses 𝓛 𝓜.mem 𝓡.returns) (met 𝓤 𝓛 𝓜 𝓡 (code.calls-crs_c::calls::catalogue::new_catalogue 𝓡.env wired))
    ((κs, qs, tt, (a, (k, tt)), (h.0 ∷ [], (vint w32 k ∷ [], tt))), tt) (id⊢ 𝓤 _) (and_then ! (get ! refl) (and_then ! (get ! refl) (no_more !))) (λ u r ws.
    heard ! (IsMadeEmpty k r.0 r.1) (λ told.
    pair_out ! R u32 refl refl (catalogue_laws.lawful 𝓛) (uint_Lawful 𝓛 w32) r u (λ v w good good_w eu fits.
    -- [the code; the catalogue; the tokens; the room; the locals]
    lands_as ! eu refl fits $
    sets ! (of_opd ! (get_in ! (fld ! refl (stop !)) (sub ! 0 refl (whole !)))) refl good $
    sets ! (of_opd ! (get_in ! (fld ! refl (stop !)) (sub ! 1 refl (whole !)))) refl good_w $
    sets ! (of_opd ! (get ! refl)) refl good $
    assigns ! (of_opd ! (get ! refl)) (through ! refl (stop !)) (init ! 3 refl good) $
    sets ! (of_opd ! (get ! refl)) refl good_w $
    returns ! (look_at ! 0 refl) $ free_all ! refl $
    move ! (3 ∷ 1 ∷ []) $ use2 𝓛 (‵ (part_at R full_share r.0 b o)) (part_in 𝓛 R refl full_share r.0 b o v) $
    suffices ! _ (ends 𝓛 f.ended c (y (block_ptr b o)) w r.1 (tt, (tt, (tt, tt)))) $ move ! (2 ∷ 1 ∷ []) $ frame ! $ frame ! $
    show ! (λ (new : CatalogueParts). sep 𝓤 (sem 𝓛 (lies_at R full_share (block_ptr b o) new)) (fact 𝓤 (IsMadeEmpty k new r.1))) r.0 $ says ! told $ done !)))))))
