-- The claims of specs/Claims.antt: the worked forms are computed. Assumes nothing.
use mathlib.Core.Path.{refl}
use Rattle.encoding.specs.Encoding.{encoded_of}
use Rattle.replies.specs.Claims.{WorkedForms}

pub worked_forms : WorkedForms
unfolding encoded_of
worked_forms = (refl, refl, refl, refl, refl, refl, refl)
