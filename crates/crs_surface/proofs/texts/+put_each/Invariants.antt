-- an argument is read with one level less to go
use Rattle.crs_surface.proofs.texts.+put_each.Given as goal

abbrev pub decreases-put_each : goal.decreases-put_each
decreases-put_each l = l.depth
