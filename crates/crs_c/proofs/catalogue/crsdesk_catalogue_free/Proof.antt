use Rattle.crs_c.proofs.Held.{held_at, hands_over, dropped, goes_dropped, ends}
use Rattle.crs_c.proofs.Steps.{[], ◌∷◌, refl, ap, proved, full_share, id⊢, vunit, tables, ‵, raw, prop, ◌$◌, ◌∵◌, !, qed, done, move, drop, use1, join, feq_i, feq_l, suffices, frame, enter, of_opd, unit_lit, load, look, stop, forget, no_more, and_then, returns, alloc_all, pass_all, free_all, look_at, get, through, sets, lands_as, Ptr, block_ptr, room_at, lies_at, rawptr_vals, rawptr_Tells, nothing, only, on_entry, walk_of, framed, WpFn, catalogue_row, catalogue_laws, catalogue_at, has_room}
use Rattle.crs_c.specs.contracts.catalogue.crsdesk_catalogue_free as f
use Rattle.crs_c.proofs.catalogue.crsdesk_catalogue_free.Statement.{statement}
use Rattle.crs_c.proofs.catalogue.crsdesk_catalogue_free.Code as code
use Rattle.crs_c.specs.contracts.drop_catalogue as g
use Rattle.crs_c.proofs.drop_catalogue.Met.{met}

pub crsdesk_catalogue_free_spec : {M : Type 1} → statement M
unfolding catalogue_at has_room
crsdesk_catalogue_free_spec 𝓤 𝓛 𝓜 𝓡 wired =
    let c = f.clauses 𝓛 𝓜.mem 𝓡.returns in let W = walk_of 𝓛 f.ended (dropped f.ended) c in let 𝓣 = tables 𝓤 𝓛.H 𝓜 𝓡 𝓡.env in
    let R = catalogue_row in
    proved 𝓛 f.ended (dropped f.ended) c 𝓜 𝓡 (goes_dropped 𝓛 f.ended (λ κs x w. refl, tt))
    f.Key.name code.function (code.unfolded 𝓤 𝓛.H 𝓜 𝓡 wired)
    (λ κs. (rawptr_vals, tt)) (λ κs. (rawptr_Tells, tt)) (λ κs qs bounds a n are.
    let y : Ptr → W.Ghost = λ p. ((κs, qs, bounds, (p, tt), (rawptr_vals p, tt)), n) in
    qed 𝓛 (raw (on_entry 𝓛 f.signature κs qs a (y a.0).0.4) ∷ ‵ (lies_at R full_share a.0 n) ∷ []) ∵ drop ! $
    held_at ! R refl (catalogue_laws.lawful 𝓛) a.0 n (λ p. prop (WpFn 𝓤 𝓛.H 𝓣.C 𝓣.Λ code.function (rawptr_vals p) (W.post (y p)))) refl (λ b o v good.
    -- [the value; its cell; the locals]
    enter ! _ _ _ _ _ $ alloc_all ! (λ l. pass_all ! refl ((tt, tt), tt) $
    sets ! (of_opd ! (get ! refl)) refl (tt, tt) $
    sets ! (of_opd ! (load ! (through ! refl (stop !)) (look ! 1 refl))) refl good $
    sets ! (of_opd ! (get ! refl)) refl good $
    forget ! 1 refl $
    nothing ! $ move ! (1 ∷ 0 ∷ []) $ join ! $ nothing ! $ join ! $
    hands_over ! (framed 𝓤 𝓛.H 𝓜 𝓣) g.ended (g.clauses 𝓛 𝓜.mem 𝓡.returns) (met 𝓤 𝓛 𝓜 𝓡 (code.calls-crs_c::calls::catalogue::drop_catalogue 𝓡.env wired))
    ((κs, qs, tt, (n, tt), (v ∷ [], tt)), tt) (id⊢ 𝓤 _) (and_then ! (get ! refl) (no_more !)) (λ u r ws. drop ! $ feq_l ! (λ is_unit.
    lands_as ! (ap only is_unit) refl (tt, tt) $
    sets ! (of_opd ! (unit_lit !)) refl (tt, tt) $
    returns ! (look_at ! 0 refl) $ free_all ! refl $
    move ! (1 ∷ []) $ use1 𝓛 (‵ (room_at R (block_ptr b o))) (id⊢ 𝓤 _) $
    suffices ! _ (ends 𝓛 f.ended c (y (block_ptr b o)) vunit tt (tt, tt)) $
    feq_i ! _ (vunit ∷ []) _ refl $ move ! (2 ∷ 0 ∷ []) $ frame ! $ frame ! $ done !)))))
