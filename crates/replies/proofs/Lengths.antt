-- How long a printed line is: that of a refusal, and `ok` with what stands behind it. Assumes nothing.
use mathlib.Core.List.{List, [], ◌∷◌, ◌++◌}
use mathlib.Core.Path.{◌≡◌}
use Prim.Native.Nat.{ℕ, suc, ◌+◌, ◌≤◌}
use native.Mathlib.Omega.{arith}
use lib.ListN.{length, length-append}
use Rattle.rules.specs.Cells.{print}
use Rattle.rules.specs.Refusals.{Refusal, number_of, second_of}
use Rattle.printing.specs.Printed.{decimal_of}
use Rattle.printing.proofs.Lengths.{decimal_few}
use Rattle.replies.specs.Replies.{line_end, blank, ok_line, no_line}

-- `no`, two blanks, two numbers and the end
pub no_line_short : (x : Refusal) → length (no_line x) ≤ 45
no_line_short x =
    let n : List ℕ = decimal_of (number_of x) in
    let m : List ℕ = decimal_of (second_of x) in
    let a : length (print "no" ++ blank ∷ n ++ blank ∷ m ++ line_end ∷ []) ≡ length (print "no" ++ blank ∷ n ++ blank ∷ m) + 1 =
    length-append (print "no" ++ blank ∷ n ++ blank ∷ m) (line_end ∷ []) in
    let b : length (print "no" ++ blank ∷ n ++ blank ∷ m) ≡ length (print "no" ++ blank ∷ n) + suc (length m) =
    length-append (print "no" ++ blank ∷ n) (blank ∷ m) in
    let c : length (print "no" ++ blank ∷ n) ≡ 2 + suc (length n) = length-append (print "no") (blank ∷ n) in
    omega (arith, a, b, c, decimal_few (number_of x), decimal_few (second_of x))

pub ok_line_length : (bytes : List ℕ) → length (ok_line bytes) ≡ 3 + length bytes + 1
ok_line_length bytes =
    let a : length (print "ok" ++ blank ∷ bytes ++ line_end ∷ []) ≡ length (print "ok" ++ blank ∷ bytes) + 1 =
    length-append (print "ok" ++ blank ∷ bytes) (line_end ∷ []) in
    let b : length (print "ok" ++ blank ∷ bytes) ≡ 2 + suc (length bytes) = length-append (print "ok") (blank ∷ bytes) in
    omega (arith, a, b)
