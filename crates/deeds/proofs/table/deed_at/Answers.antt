-- `table::deed_at`: at each place that is named antt computes both sides; the last arm is for the one place below the count that is none of those.
-- Assumes nothing.
use Rattle.std.proofs.Common.{rules, ℕ, get_or, sym, ap}
use Rattle.deeds.specs.Acts.{no_sign}
use Rattle.deeds.specs.Deeds.{deeds}
use Rattle.entries.proofs.Keys.{rest_none}
use Rattle.entries.proofs.Places.{upto, only_last}
use Rattle.deeds.proofs.table.deed_at.Goals as goal

-- what the table has at a place
abbrev entry : ℕ → ℕ
entry n = get_or deeds n no_sign

pub returns-in_default : goal.returns-in_default
unfolding deeds upto
returns-in_default c =
    sym (ap entry (only_last 255 c.args.place c.requires (rest_none Unit (upto 255) c.args.place (search rules)).1))
