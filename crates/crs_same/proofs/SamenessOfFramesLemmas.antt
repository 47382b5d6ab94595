-- The sameness of frames.
use Rattle.crs_value.specs.declared.values.frame.Frame.{Frame}
use Rattle.crs_value.specs.declared.values.frame.Frame.TheVariants as frame
use Rattle.crs_value.specs.declared.values.level.Level.{Level}
use Rattle.crs_same.specs.inner.Prelude.{IsSameness}
use Rattle.crs_same.specs.inner.Agreement.{AgreeDatum, AgreeEnsemble, AgreeFrame}

pub frame-of : (level : Level) → IsSameness (AgreeDatum level) → IsSameness (AgreeEnsemble level) →
    IsSameness (AgreeFrame level)
frame-of level d e = record { reflexive = itself; symmetric = swapped; transitive = joined }
  where
    itself : (a : Frame) → AgreeFrame level a a
    itself (frame.Datum a) = d.reflexive a
    itself (frame.Ensemble a) = e.reflexive a

    swapped : (a b : Frame) → AgreeFrame level a b → AgreeFrame level b a
    swapped (frame.Datum a) (frame.Datum b) s = d.symmetric a b s
    swapped (frame.Ensemble a) (frame.Ensemble b) s = e.symmetric a b s
    swapped a b s = absurd s

    joined : (a b c : Frame) → AgreeFrame level a b → AgreeFrame level b c → AgreeFrame level a c
    joined (frame.Datum a) (frame.Datum b) (frame.Datum c) s t = d.transitive a b c s t
    joined (frame.Ensemble a) (frame.Ensemble b) (frame.Ensemble c) s t = e.transitive a b c s t
    joined a b c s t = absurd assumption
