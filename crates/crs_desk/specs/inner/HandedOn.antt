-- A bridge: the error that is handed on.
use Rattle.std.specs.Prelude.{◌≡◌, ◌≢◌}
use Rattle.clap.specs.Words.{kind_of}
use Rattle.crs_desk.specs.declared.line.requests.RequestFault.{RequestFault}
use Rattle.crs_desk.specs.declared.line.requests.RequestFault.TheVariants.{Line, Memory}
use Rattle.clap.specs.declared.error.Error.{Error}
use Rattle.clap.specs.declared.error.kind.ErrorKind.TheVariants as kind

-- `clap`'s error is handed on, unless it is out of memory
abbrev pub HandsOn : Error → RequestFault → Type 0
HandsOn error (Line shown) = (shown ≡ error) × (kind_of error ≢ kind.OutOfMemory)
HandsOn error (Memory want) = kind_of error ≡ kind.OutOfMemory
