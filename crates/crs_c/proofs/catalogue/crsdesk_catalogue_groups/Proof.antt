use Rattle.crs_c.proofs.Held.{held_at, hands_over, both_heard, writes_back, dropped, goes_dropped, ends}
use Rattle.crs_c.proofs.Steps.{◌≡◌, [], ◌∷◌, refl, w64, length, proved, full_share, id⊢, tables, ‵, raw, prop, ◌$◌, ◌∵◌, !, qed, done, move, drop, join, rewrite, suffices, frame, enter, of_opd, load, look, stop, no_more, and_then, returns, alloc_all, pass_all, free_all, look_at, get, through, sets, usize, uint_Lawful, Ptr, block_ptr, lies_at, rawptr_vals, rawptr_Tells, nothing, on_entry, walk_of, says, framed, WpFn, CatalogueParts, catalogue_row, catalogue_laws, catalogue_at}
use Rattle.crs_c.specs.contracts.catalogue.crsdesk_catalogue_groups as f
use Rattle.crs_c.proofs.catalogue.crsdesk_catalogue_groups.Statement.{statement}
use Rattle.crs_c.proofs.catalogue.crsdesk_catalogue_groups.Code as code
use Rattle.crs_c.specs.contracts.group_count as g
use Rattle.crs_c.proofs.group_count.Met.{met}

pub crsdesk_catalogue_groups_spec : {M : Type 1} → statement M
unfolding catalogue_at
crsdesk_catalogue_groups_spec 𝓤 𝓛 𝓜 𝓡 wired =
    let c = f.clauses 𝓛 𝓜.mem 𝓡.returns in let W = walk_of 𝓛 f.ended (dropped f.ended) c in let 𝓣 = tables 𝓤 𝓛.H 𝓜 𝓡 𝓡.env in
    let R = catalogue_row in let P = usize in
    let is_R = catalogue_laws.lawful 𝓛 in let is_P = uint_Lawful 𝓛 w64 in
    proved 𝓛 f.ended (dropped f.ended) c 𝓜 𝓡 (goes_dropped 𝓛 f.ended (λ κs x w. refl, tt))
    f.Key.name code.function (code.unfolded 𝓤 𝓛.H 𝓜 𝓡 wired)
    (λ κs. (rawptr_vals, tt)) (λ κs. (rawptr_Tells, tt)) (λ κs qs bounds a n are.
    let y : Ptr → W.Ghost = λ p. ((κs, qs, bounds, (p, tt), (rawptr_vals p, tt)), n) in
    qed 𝓛 (raw (on_entry 𝓛 f.signature κs qs a (y a.0).0.4) ∷ ‵ (lies_at R full_share a.0 n) ∷ []) ∵ drop ! $
    held_at ! R refl is_R a.0 n (λ p. prop (WpFn 𝓤 𝓛.H 𝓣.C 𝓣.Λ code.function (rawptr_vals p) (W.post (y p)))) refl (λ b o v good.
    -- [the value; its cell; the locals]
    enter ! _ _ _ _ _ $ alloc_all ! (λ l. pass_all ! refl ((tt, tt), tt) $
    sets ! (of_opd ! (get ! refl)) refl (tt, tt) $
    sets ! (of_opd ! (load ! (through ! refl (stop !)) (look ! 1 refl))) refl good $
    sets ! (of_opd ! (get ! refl)) refl good $
    nothing ! $ move ! (1 ∷ 0 ∷ []) $ join ! $ nothing ! $ join ! $
    hands_over ! (framed 𝓤 𝓛.H 𝓜 𝓣) g.ended (g.clauses 𝓛 𝓜.mem 𝓡.returns) (met 𝓤 𝓛 𝓜 𝓡 (code.calls-crs_c::calls::catalogue::group_count 𝓡.env wired))
    ((κs, qs, tt, (n, tt), (v ∷ [], tt)), tt) (id⊢ 𝓤 _) (and_then ! (get ! refl) (no_more !)) (λ u r ws.
    both_heard ! (r.0 ≡ n) (r.1 ≡ length n.groups) (λ same count.
    writes_back R P refl refl is_R is_P r u refl refl refl refl refl (λ v' w good_w.
    -- [the catalogue; what is told; the tokens; the locals]
    sets ! (of_opd ! (get ! refl)) refl good_w $
    returns ! (look_at ! 0 refl) $ free_all ! refl $
    rewrite ! 0 (λ (x : CatalogueParts). ‵ (lies_at R full_share (block_ptr b o) x)) same refl $
    suffices ! _ (ends 𝓛 f.ended c (y (block_ptr b o)) w r.1 (tt, tt)) $ move ! (2 ∷ 1 ∷ []) $ frame ! $ frame ! $ says ! count $ done !))))))
