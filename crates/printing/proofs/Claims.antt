-- The claims of specs/Claims.antt, by the laws of `Printed`. Assumes nothing.
use mathlib.Core.List.{List, [], ◌∷◌, ◌++◌}
use mathlib.Core.Path.{refl, ap}
use Prim.Native.Nat.{ℕ, ◌+◌}
use Rattle.encoding.specs.Encoding.{encoded_of}
use Rattle.printing.specs.Claims.{OnePrinted, PrintedInFront, PrintedOn, CellsShown, TextShown}
use Rattle.printing.proofs.Printed as printed

pub one_printed : OnePrinted
one_printed = printed.one_printed

pub printed_in_front : PrintedInFront
printed_in_front l x r new room p = (printed.prints_front l x r new p room, printed.prints_laid l x r new p room)

pub printed_on : PrintedOn
printed_on = printed.prints_on

pub cells_shown : CellsShown
cells_shown [] = refl
cells_shown (c ∷ r) = ap (λ (x : List ℕ). encoded_of (0x2800 + c) ++ x) (cells_shown r)

pub text_shown : TextShown
text_shown [] = refl
text_shown (c ∷ t) = ap (λ (x : List ℕ). encoded_of c ++ x) (text_shown t)
