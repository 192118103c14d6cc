-- Pairs (paper 01, "Pairs"). In order: which kinds are open; what a mark asks and does; when all are closed. Kinds are numbers: a new one is
-- a number more here and two entries of the table. Nothing here knows of any other rule. Assumes nothing.
use Rattle.std.specs.Prelude.{Bool, true, false, ◌&&◌, not, cond, List, [], ◌∷◌, ℕ, zero, suc, eqb}
use Rattle.std.proofs.Math.Option.{Option, none, some}
use Rattle.rules.specs.Sorts.{Sort, letter, digit, full_stop, comma, hyphen, dash, fraction_bar, ordinal, pair_mark, percent, plain, no_sign, Item}

-- "The five kinds ¿?, ¡!, «», ‘’ and emphasis": 0 to 4, in this order
abbrev pub kinds : ℕ
kinds = 5

-- is the kind open
abbrev pub Opens : Type 0
Opens = ℕ → Bool

-- the kind of a mark, and whether it is the opener
unfoldable pub mark_of : Sort → Option (ℕ × Bool)
mark_of (letter c b) = none
mark_of (digit d) = none
mark_of (full_stop b) = none
mark_of comma = none
mark_of hyphen = none
mark_of dash = none
mark_of fraction_bar = none
mark_of (ordinal b) = none
mark_of (pair_mark k b w) = some (k, b)
mark_of (percent w) = none
mark_of (plain w) = none
mark_of no_sign = none

-- "An opener stands only where its kind is closed, a closer only where it is open": from whether it is the opener and whether its kind is open
abbrev pub may_stand : Bool → Bool → Bool
may_stand opener is_open = cond opener (not is_open) is_open

-- an opener leaves its kind open, a closer closed, whatever it was
abbrev pub leaves_open : Bool → Bool → Bool
leaves_open opener was_open = opener

abbrev pub mark_fits : Opens → Option (ℕ × Bool) → Bool
mark_fits o none = true
mark_fits o (some m) = may_stand m.1 (o m.0)

-- a mark turns its own kind and no other: "Kinds may cross."
abbrev pub mark_turns : Option (ℕ × Bool) → Opens → Opens
mark_turns none o = o
mark_turns (some m) o = λ k. cond (eqb k m.0) (leaves_open m.1 (o k)) (o k)

unfoldable pub fits : Opens → Sort → Bool
unfolding mark_of
fits o s = mark_fits o (mark_of s)

unfoldable pub turn : Sort → Opens → Opens
unfolding mark_of
turn s o = mark_turns (mark_of s) o

-- which kinds are open after what stands before a place, the nearest first
unfoldable pub open_after : List Item → Opens
unfolding turn
open_after [] = λ k. false
open_after (i ∷ b) = turn i.1 (open_after b)

unfoldable pub closed_below : ℕ → Opens → Bool
closed_below zero o = true
closed_below (suc k) o = not (o k) && closed_below k o

-- "and all are closed at the end"
unfoldable pub closed : Opens → Bool
unfolding closed_below
closed o = closed_below kinds o
