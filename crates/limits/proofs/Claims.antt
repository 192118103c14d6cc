-- The claims of specs/Claims.antt, by the numbers. Assumes nothing.
use native.Mathlib.Omega.{arith}
use Rattle.limits.specs.declared.Program.TheVariants.{Transcribe, Read, Steps}
use Rattle.limits.specs.Claims.{LongestLine, RowsFit}

pub longest_line_lem : LongestLine
longest_line_lem Transcribe = omega arith
longest_line_lem Read = omega arith
longest_line_lem Steps = omega arith

pub rows_fit : RowsFit
rows_fit = omega arith
