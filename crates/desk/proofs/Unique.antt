-- Any two outcomes that an exported promise allows are the same. Assumes nothing.
use mathlib.Core.Path.{sym, ap, ◌∙◌}
use Rattle.rules.specs.Castilian.{castilian}
use Rattle.transcriber.proofs.Claims.{one_outcome}
use Rattle.reader.proofs.Claims as reader
use Rattle.stepper.proofs.Claims as stepper
use Rattle.desk.specs.Shows.{shown_of, OneShown, read_of, OneRead, sign_of, OneSign}

pub one_shown : OneShown castilian
one_shown p lent r s new old a b =
    let e = one_outcome p lent a.answer b.answer new old a.promise b.promise in
    (a.shows ∙ ap shown_of e.0 ∙ sym b.shows, e.1)

pub one_read : OneRead castilian
one_read r lent s t new old a b =
    let e = reader.one_outcome r lent a.answer b.answer new old a.promise b.promise in
    (a.shows ∙ ap read_of e.0 ∙ sym b.shows, e.1)

pub one_sign : OneSign castilian
one_sign r place s t a b =
    a.shows ∙ ap (sign_of place) (stepper.one_shown r place a.shown b.shown a.promise b.promise) ∙ sym b.shows
