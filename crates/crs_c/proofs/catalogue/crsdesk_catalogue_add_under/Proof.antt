use Rattle.crs_c.proofs.Held.{held_at, hands_over, word_out, dropped, goes_dropped, ends}
use Rattle.crs_c.proofs.Steps.{◌≡◌, [], ◌∷◌, ◌++◌, refl, ap, ◌∙◌, w64, proved, full_share, id⊢, sep, sem, ftrue, flft, named, vint, vstruct, of_list, fact, tables, ‵, ◌⊛◌, prop, ◌$◌, ◌∵◌, !, qed, done, move, drop, show, use2, split, join, fsplit, fpick, feq_l, rewrite, suffices, frame, whole, sub, enter, of_opd, load, look, store, stop, fld, no_more, and_then, assigns, returns, alloc_all, pass_all, free_all, look_at, get, get_in, through, sets, lands_as, u8, u64, layout, uint_Makes, uint_vals, uint_Tells, Ptr, block_ptr, lies_at, rawptr_vals, rawptr_Tells, shr_slice_vals, shr_slice_Tells, types_at, owns, nothing, owned, heard, only, walk_of, says, framed, part_in, both, true, ◌&&◌, has_ty, part_at, WpFn, CatalogueParts, catalogue_row, catalogue_laws, rules_row, rules_laws, standing_row, standing_laws, catalogue_at, rules_at, HeldParts}
use Rattle.crs_c.specs.Catalogues.{IsAddedUnder}
use Rattle.crs_c.specs.contracts.catalogue.crsdesk_catalogue_add_under as f
use Rattle.crs_c.proofs.catalogue.crsdesk_catalogue_add_under.Statement.{statement}
use Rattle.crs_c.proofs.catalogue.crsdesk_catalogue_add_under.Code as code
use Rattle.crs_c.specs.contracts.add_text_under as g
use Rattle.crs_c.proofs.add_text_under.Met.{met}

pub crsdesk_catalogue_add_under_spec : {M : Type 1} → statement M
unfolding catalogue_at rules_at
crsdesk_catalogue_add_under_spec 𝓤 𝓛 𝓜 𝓡 wired =
    let c = f.clauses 𝓛 𝓜.mem 𝓡.returns in let W = walk_of 𝓛 f.ended (dropped f.ended) c in let 𝓣 = tables 𝓤 𝓛.H 𝓜 𝓡 𝓡.env in
    let R = catalogue_row in let S = rules_row in let P = standing_row in
    let is_R = catalogue_laws.lawful 𝓛 in let is_S = rules_laws.lawful 𝓛 in let is_P = standing_laws.lawful 𝓛 in
    proved 𝓛 f.ended (dropped f.ended) c 𝓜 𝓡 (goes_dropped 𝓛 f.ended (λ κs x w. refl, (λ κs x w. refl, (λ κs x w. refl, (λ κs x w. refl, tt)))))
    f.Key.name code.function (code.unfolded 𝓤 𝓛.H 𝓜 𝓡 wired)
    (λ κs. (rawptr_vals, (rawptr_vals, (uint_vals w64, (shr_slice_vals, tt))))) (λ κs. (rawptr_Tells, (rawptr_Tells, (uint_Tells w64, (shr_slice_Tells (named 0) κs.0 u8, tt))))) (λ κs qs bounds a n are.
    let i = a.1.1.0 in let s = a.1.1.1.0 in
    let y : Ptr → Ptr → W.Ghost = λ p p'. ((κs, qs, bounds, (p, (p', (i, (s, tt)))), (rawptr_vals p, (rawptr_vals p', (uint_vals w64 i, (shr_slice_vals s, tt))))), n) in
    qed 𝓛 (((‵ (flft κs.0 qs.0) ⊛ ‵ ftrue) ⊛ ‵ (owns (types_at f.ended.signature.params κs) a (y a.0 a.1.0).0.4)) ∷ (‵ (lies_at R full_share a.0 n.0) ⊛ ‵ (lies_at S full_share a.1.0 n.1)) ∷ []) ∵
    split ! $ move ! (1 ∷ []) $ fsplit ! $ drop ! $ fsplit ! $ drop ! $ fsplit ! $ drop ! $ fsplit ! $ move ! (1 ∷ []) $ drop ! $ move ! (2 ∷ []) $ split ! $
    -- [the catalogue; the rules; the text; the token]
    held_at ! R refl is_R a.0 n.0 (λ p. prop (WpFn 𝓤 𝓛.H 𝓣.C 𝓣.Λ code.function (rawptr_vals p ++ (rawptr_vals a.1.0 ++ (vint w64 i ∷ shr_slice_vals s))) (W.post (y p a.1.0)))) refl (λ b o v good. move ! (2 ∷ []) $
    -- [the rules; the value; its cell; the text; the token]
    held_at ! S refl is_S a.1.0 n.1 (λ p. prop (WpFn 𝓤 𝓛.H 𝓣.C 𝓣.Λ code.function (rawptr_vals (block_ptr b o) ++ (rawptr_vals p ++ (vint w64 i ∷ shr_slice_vals s))) (W.post (y (block_ptr b o) p)))) refl (λ b' o' v' good'.
    -- [the rules; their cell; the value; its cell; the text; the token; the locals]
    enter ! _ _ _ _ _ $ alloc_all ! (λ l. pass_all ! refl ((tt, tt), ((tt, tt), ((tt, record { fits = are.1.1.0.1 }), ((tt, (tt, (record { fits = are.1.1.1.0.0.1.0 }, tt))), tt)))) $
    sets ! (of_opd ! (get ! refl)) refl (tt, tt) $
    sets ! (of_opd ! (get ! refl)) refl (tt, tt) $
    sets ! (of_opd ! (load ! (through ! refl (stop !)) (look ! 3 refl))) refl good $
    sets ! (of_opd ! (load ! (through ! refl (stop !)) (look ! 1 refl))) refl good' $
    sets ! (of_opd ! (get ! refl)) refl good $
    sets ! (of_opd ! (get ! refl)) refl good' $
    nothing ! $ move ! (5 ∷ 0 ∷ []) $ join ! $ owned ! u64 _ (uint_Makes 𝓛 w64) i _ (refl, are.1.1.0.1) $ join ! $ move ! (1 ∷ 0 ∷ []) $ join ! $
    move ! (2 ∷ 0 ∷ []) $ join ! $ move ! (3 ∷ 0 ∷ []) $ join ! $
    hands_over ! (framed 𝓤 𝓛.H 𝓜 𝓣) g.ended (g.clauses 𝓛 𝓜.mem 𝓡.returns) (met 𝓤 𝓛 𝓜 𝓡 (code.calls-crs_c::calls::catalogue::add_text_under 𝓡.env wired))
    ((κs, qs, tt, (n.0, (n.1, (i, (s, tt)))), (v ∷ [], (v' ∷ [], (vint w64 i ∷ [], (shr_slice_vals s, tt))))), tt) (id⊢ 𝓤 _) (and_then ! (get ! refl) (and_then ! (get ! refl) (and_then ! (get ! refl) (and_then ! (get ! refl) (no_more !))))) (λ u r ws.
    heard ! ((r.1 ≡ n.1) × IsAddedUnder n.1.reading.rules i s.now n.0 r.0 r.2) (λ told.
    fpick ! (λ vss. fsplit ! $ feq_l ! (λ eu. fsplit ! $
    word_out ! R refl is_R r.0 vss.0 (λ w₀ g₀ e₀. move ! (1 ∷ []) $ fsplit ! $
    word_out ! S refl is_S r.1 vss.1.0 (λ w₁ g₁ e₁. move ! (1 ∷ []) $ fsplit ! $
    word_out ! P refl is_P r.2 vss.1.1.0 (λ w₂ g₂ e₂. move ! (1 ∷ []) $ drop ! $
    -- [what is told; the rules; the value; the token; the rules' cell; the cell; the locals]
    lands_as ! (ap only (eu ∙ (λ k. vstruct (of_list (e₀ k ++ (e₁ k ++ (e₂ k ++ [])))) ∷ []))) refl (both (has_ty (layout R) w₀) (has_ty (layout S) w₁ && (has_ty (layout P) w₂ && true)) g₀.0 (both (has_ty (layout S) w₁) (has_ty (layout P) w₂ && true) g₁.0 (both (has_ty (layout P) w₂) true g₂.0 tt)), (g₀.1, (g₁.1, (g₂.1, tt)))) $
    sets ! (of_opd ! (get_in ! (fld ! refl (stop !)) (sub ! 0 refl (whole !)))) refl g₀ $
    sets ! (of_opd ! (get_in ! (fld ! refl (stop !)) (sub ! 1 refl (whole !)))) refl g₁ $
    sets ! (of_opd ! (get_in ! (fld ! refl (stop !)) (sub ! 2 refl (whole !)))) refl g₂ $
    sets ! (of_opd ! (get ! refl)) refl g₀ $
    assigns ! (of_opd ! (get ! refl)) (through ! refl (stop !)) (store ! 5 refl g₀) $
    sets ! (of_opd ! (get ! refl)) refl g₁ $
    assigns ! (of_opd ! (get ! refl)) (through ! refl (stop !)) (store ! 4 refl g₁) $
    sets ! (of_opd ! (get ! refl)) refl g₂ $
    returns ! (look_at ! 0 refl) $ free_all ! refl $
    move ! (5 ∷ 2 ∷ []) $ use2 𝓛 (‵ (part_at R full_share r.0 b o)) (part_in 𝓛 R refl full_share r.0 b o w₀) $
    move ! (4 ∷ 2 ∷ []) $ use2 𝓛 (‵ (part_at S full_share r.1 b' o')) (part_in 𝓛 S refl full_share r.1 b' o' w₁) $
    rewrite ! 0 (λ (h : HeldParts). ‵ (part_at S full_share h b' o')) told.0 refl $
    -- [the rules; the catalogue; what is told; the token]
    suffices ! _ (ends 𝓛 f.ended c (y (block_ptr b o) (block_ptr b' o')) w₂ r.2 (tt, (tt, (tt, (tt, tt))))) $ move ! (3 ∷ 2 ∷ []) $ frame ! $ frame ! $
    move ! (1 ∷ 0 ∷ []) $ join ! $
    show ! (λ (new : CatalogueParts). sep 𝓤 (sep 𝓤 (sem 𝓛 (lies_at R full_share (block_ptr b o) new)) (sem 𝓛 (lies_at S full_share (block_ptr b' o') n.1))) (fact 𝓤 (IsAddedUnder n.1.reading.rules i s.now n.0 new r.2))) r.0 $ says ! told.1 $ done !)))))))))))
