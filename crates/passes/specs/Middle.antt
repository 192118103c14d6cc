-- The first pass in the middle of a text, for any table: the signs drawn, with what is still to come, give the whole answer (`Mid`), or they do so once a run is
-- found not to be of capitals only (`Supposing`); what a part of the pass leaves of that (`Carried`). Only inner promises name these. Assumes nothing.
use Rattle.std.specs.Prelude.{Some, None, true, false, cond, List, ◌++◌, ◌≡◌, ℕ, ◌-◌, ◌*◌, ◌≤◌, ◌<◌, eqb, length, take, set, get_or}
use Rattle.rules.specs.Sorts.{Table}
use Rattle.rules.specs.Rows.{verdict_of}
use Rattle.rules.proofs.States.{Past}
use Rattle.rules.proofs.Sides.{mixed_next, row_on, verdict_on}
use Rattle.rules.proofs.Rows.{whole_row}
use Rattle.entries.specs.States.{capitals, mixed, states}
use Rattle.entries.specs.Entries.{entry_of, usual_in}
use Rattle.entries.specs.Numbers.{state_number}
use Rattle.entries.specs.declared.Entry.{Entry}
use Rattle.pairs.specs.Opened.{open_states, opens_of}
use Rattle.deeds.specs.Stages.{stage_at}
use Rattle.turns.specs.Ahead.{items_from, future_at}
use Rattle.writing.specs.Joined.{joined}
use Rattle.passes.specs.Passes.{alone_of}
use Rattle.passes.specs.declared.Reached.{Reached}

-- what `signs`, `opened`, `state`, `n` and `i` are between two turns; the past is what the state stands for
pub record Mid (tb : Table) (text signs₀ signs : List ℕ) (opened state n i : ℕ) : Type 0 where
  pub past : Past
  pub inside : i ≤ length text
  pub room : length text ≤ length signs
  pub same : length signs ≡ length signs₀
  pub few : opened < open_states
  pub at : state ≡ stage_at past (future_at tb text i)
  pub low : n ≤ 3 * i
  pub count : n ≡ length (joined (take i signs))
  pub drawn : joined (take i signs) ++ row_on past (items_from tb text i) ≡ whole_row tb text
  pub whole : verdict_on past (opens_of opened) i (items_from tb text i) ≡ verdict_of tb text

-- the same where a run of capitals only may be supposed: it is so if there is none, or if no small letter is ahead in it; and if one is, it is so once the sign of
-- the run's first capital, the last that was drawn, is made anew, with one cell less
pub record Supposing (tb : Table) (text signs₀ signs : List ℕ) (opened state n i : ℕ) : Type 0 where
  pub inside : i ≤ length text
  pub room : length text ≤ length signs
  pub same : length signs ≡ length signs₀
  pub small : state < states
  pub low : n ≤ 3 * i
  pub right : (state ≡ capitals → mixed_next (future_at tb text i) ≡ false) → Mid tb text signs₀ signs opened state n i
  pub wrong : state ≡ capitals → mixed_next (future_at tb text i) ≡ true
      → (1 ≤ i) × (1 ≤ n) × Mid tb text signs₀ (set signs (i - 1) (alone_of (get_or signs (i - 1) 0))) opened mixed (n - 1) i

-- THE PLACE REACHED from place i, with the state and the count of cells there: whatever pairs are open, they stay so; nothing before i is written; what stands there is
-- not written as usual; the state is that of a run of capitals only where it was so before, and as long as it is, whether a small letter is ahead in that run is open
pub record Carried (tb : Table) (text signs new : List ℕ) (state n i : ℕ) (r : Reached) : Type 0 where
  pub on : i ≤ r.place
  pub word : (w : Entry) → r.entry ≡ Some w → (r.place < length text) × (w.word ≡ entry_of tb (get_or text r.place 0))
  pub no_word : r.entry ≡ None → length text ≤ r.place
  pub asks : r.place < length text → usual_in (entry_of tb (get_or text r.place 0)) (state_number r.state) ≡ false
  pub same : length new ≡ length signs
  pub kept : take i new ≡ take i signs
  pub still : state_number r.state ≡ capitals → state ≡ capitals
  pub run : state ≡ capitals → mixed_next (future_at tb text i) ≡ cond (eqb (state_number r.state) capitals) (mixed_next (future_at tb text r.place)) false
  pub carries : (signs₀ : List ℕ) (opened : ℕ) → Mid tb text signs₀ signs opened state n i → Mid tb text signs₀ new opened (state_number r.state) r.cells r.place
