-- The pair rule over bits (paper 01, "Pairs"; crates/rules/specs/Pairs.antt). In order: how many states there are; is a kind open; a kind
-- turned; what a mark does. Not here: that this is the rules' (proofs/Pairing.antt). Assumes nothing.
use Rattle.std.specs.Prelude.{Bool, Option, Some, None, ◌&&◌, cond, ℕ, ◌+◌, ◌-◌, ◌/◌, ◌%◌, ◌^◌, eqb, ltb}
use Rattle.rules.specs.Pairs.{kinds, Opens, may_stand}

-- a bit for each kind
abbrev pub open_states : ℕ
open_states = 2 ^ kinds

abbrev pub is_open : ℕ → ℕ → Bool
is_open o k = eqb (o / 2 ^ k % 2) 1

-- which kinds a number says are open, in the rules' words
abbrev pub opens_of : ℕ → Opens
opens_of o k = ltb k kinds && is_open o k

-- closed where it is open, opened where it is closed
abbrev pub turned_by : ℕ → ℕ → ℕ
turned_by o k = cond (is_open o k) (o - 2 ^ k) (o + 2 ^ k)

-- THE MARK is 2k + 1 for the opener of kind k, 2k + 2 for its closer: its kind, and whether it is the opener
abbrev pub kind_by : ℕ → ℕ
kind_by m = (m - 1) / 2

abbrev pub opener_by : ℕ → Bool
opener_by m = eqb (m % 2) 1

-- a mark that may stand turns its kind
unfoldable pub pairs_by : ℕ → ℕ → Option ℕ
pairs_by o m = cond (may_stand (opener_by m) (is_open o (kind_by m))) (Some (turned_by o (kind_by m))) None
