-- The forms of a printed line (paper 01, "The line program"). In order: what ends a line and what stands between its parts; `ok` and what was asked for; `no` and the numbers of a refusal; `long`.
-- Not here: the bytes of a number, a text and a row (crate `printing`), which line a program prints (crates `answers`, `proofing`, `programs`). Assumes nothing.
use Rattle.std.specs.Prelude.{List, [], ◌∷◌, ◌++◌, ℕ}
use Rattle.rules.specs.Cells.{print}
use Rattle.rules.specs.Refusals.{Refusal, number_of, second_of}
use Rattle.printing.specs.Printed.{decimal_of}

-- "Byte 10 ends a line"; "with single blanks"
abbrev pub line_end : ℕ
line_end = 10

abbrev pub blank : ℕ
blank = 32

-- "it prints `ok`, a blank and .."
abbrev pub ok_line : List ℕ → List ℕ
ok_line bytes = print "ok" ++ blank ∷ bytes ++ line_end ∷ []

-- "or `no`, the refusal number and the second number, with single blanks"
abbrev pub refusal_line : ℕ → ℕ → List ℕ
refusal_line number second = print "no" ++ blank ∷ decimal_of number ++ blank ∷ decimal_of second ++ line_end ∷ []

abbrev pub no_line : Refusal → List ℕ
no_line x = refusal_line (number_of x) (second_of x)

-- "prints `long`"
abbrev pub long_line : List ℕ
long_line = print "long" ++ line_end ∷ []
