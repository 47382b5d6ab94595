-- The reference frame that a datum ensemble may stand for.
use Rattle.std.specs.Prelude.{None}
use Rattle.crs_value.specs.Values.{DatumParts, EnsembleParts}
use Rattle.crs_value.specs.declared.values.frame.Frame.{Frame}
use Rattle.crs_value.specs.declared.values.frame.Frame.TheVariants as frame

-- the reference frame of an ensemble's name, ellipsoid and identifiers
abbrev pub frame_of : EnsembleParts → DatumParts
frame_of e = record {
  name = e.name;
  ellipsoid = e.ellipsoid;
  anchor = None;
  anchor_epoch = None;
  identifiers = e.identifiers;
}

-- a reference frame, or that of an ensemble
abbrev pub datum_of : Frame → DatumParts
datum_of (frame.Datum d) = d
datum_of (frame.Ensemble e) = frame_of e
