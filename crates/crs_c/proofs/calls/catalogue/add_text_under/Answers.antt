use Rattle.std.proofs.Common.{◌∙◌, ap, inl, inr, refl}
use Rattle.crs_c.specs.Catalogues.{IsAddedUnder}
use Rattle.crs_c.specs.Held.{HeldParts}
use Rattle.crs_c.proofs.calls.catalogue.add_text_under.Goals as goal
use Rattle.crs_c.proofs.calls.catalogue.add_text_under.Goals.{in-Err, in-Ok}

pub returns : goal.returns
unfolding IsAddedUnder
returns c =
    let same = c.rules-2.ensures ∙ ap (λ (held : HeldParts). held.reading.rules) c.rules.view_is in (
      refl,
      elim c.match-add_under.branch [
        | in-Ok w ↦ inl (
          w.in-Ok.place,
          w.told-is ∙ w.standing_of-told.ensures,
          rw same at w.in-Ok.ensures.catalogue,
          rw same at w.in-Ok.ensures.lines,
          c.add_under.ensures.level,
        )
        | in-Err w ↦ inr (w.told-is ∙ w.in_group-told.ensures, w.in-Err.ensures.unchanged)
      ],
    )
