-- The claim of specs/Claims.antt: an accepted row has one text. Assumes nothing.
use mathlib.Core.Path.{◌≡◌, ap}
use Rattle.rules.specs.Cells.{Text}
use Rattle.rules.specs.Castilian.{castilian}
use Rattle.rules.specs.Rows.{signs_of}
use Rattle.rules.proofs.Demands.{one_text}
use Rattle.printing.proofs.Printed.{prints_as, one_printed}
use Rattle.sign_lines.specs.Signs.{sign_lines}
use Rattle.sign_lines.specs.Claims.{OneSignsPrinted}

pub one_signs_printed : OneSignsPrinted
one_signs_printed row lent at r s new old a b =
    let same : sign_lines 0 (signs_of castilian a.text) ≡ sign_lines 0 (signs_of castilian b.text) =
    ap (λ (t : Text). sign_lines 0 (signs_of castilian t)) (one_text row a.text b.text a.reads.reads b.reads.reads) in
    one_printed lent at (sign_lines 0 (signs_of castilian b.text)) r s new old
    (prints_as lent at (sign_lines 0 (signs_of castilian a.text)) (sign_lines 0 (signs_of castilian b.text)) r new same a.prints) b.prints
