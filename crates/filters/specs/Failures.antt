-- The failures that end a line program. Assumes nothing.
use Rattle.std.specs.Prelude.{◌≢◌, ⊤}
use Rattle.std.specs.IoError.{error_kind}
use Rattle.std.specs.declared.io.ErrorKind.TheVariants.{BrokenPipe}
use Rattle.filters.specs.declared.Failure.{Failure}
use Rattle.filters.specs.declared.Failure.TheVariants.{Input, Output}

-- that it is told: an output that nobody reads any more ends a program without a word
abbrev pub IsTold : Failure → Type 0
IsTold (Input e) = ⊤
IsTold (Output e) = error_kind e ≢ BrokenPipe
