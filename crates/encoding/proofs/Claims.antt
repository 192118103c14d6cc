-- The claim of specs/Claims.antt. Assumes nothing.
use mathlib.Core.Path.{sym, ◌∙◌}
use Rattle.encoding.specs.Claims.{OneEncoded}

pub one_encoded : OneEncoded
one_encoded c lent r q new old a b = (a.count ∙ sym b.count, a.bytes ∙ sym b.bytes)
