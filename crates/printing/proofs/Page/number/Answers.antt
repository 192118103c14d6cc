-- `Page::number`: what is printed is the digits of the number, which are the fewest. Assumes nothing.
use mathlib.Core.Path.{◌∙◌}
use native.Mathlib.Omega.{arith}
use Rattle.printing.proofs.Printed.{page_as}
use Rattle.printing.proofs.Digits.{decimal_is}
use Rattle.printing.proofs.Page.number.Goals as goal

pub returns : goal.returns
returns c =
    let d = c.decimal-count in
    page_as c.args.self.now _ _ _ (d.ensures.digits ∙ decimal_is c.args.n d.result (omega (arith, c.ranges.n)) d.ensures.len) c.bytes.ensures
