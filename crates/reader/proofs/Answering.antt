-- From what a walk finds to the promise. In order: the row's refusals; a row that is read; the ends of `read`; an empty row, and one of one cell. All over plain values.
-- Assumes nothing.
use mathlib.Core.Path.{◌≡◌, refl, sym, ap, ◌∙◌, subst}
use mathlib.Core.List.{List, [], ◌∷◌}
use mathlib.Core.Option.{none}
use Prim.Native.Nat.{ℕ, ◌≤◌, ◌<◌, zero-le}
use native.Mathlib.Omega.{arith}
use native.Mathlib.Nat.{min-eq_left, not-suc-le-zero}
use lib.ListN.{length}
use Rattle.rules.specs.Cells.{Text, Row}
use Rattle.rules.specs.Signs.{print_of}
use Rattle.rules.specs.Rows.{Reads}
use Rattle.rules.specs.Refusals.{too_long, needs_room, not_a_cell, no_text, longest_text, longest_row, reported}
use Rattle.rules.specs.Answers as rules
use Rattle.rules.specs.Answers.{refuses, ProperRow, ReadsAs, RowRefused, long_row, refused_not_a_cell, refused_no_text, long_text, RowAnswer, text_needs_room}
use Rattle.rules.specs.Castilian.{castilian}
use Rattle.rules.proofs.Machine.{at_rest}
use Rattle.rules.proofs.Signs.{cells_of_text}
use Rattle.rules.proofs.Castilian.{sane}
use Rattle.rows.specs.Laid.{laid}
use Rattle.readings.specs.Left.{left}
use Rattle.readings.proofs.Turning.{end_left}
use Rattle.reader.specs.Promise.{Answer, Read, done, refused}
use Rattle.reader.specs.Passes.{FirstHigh, RefusesRow, Settled, settled_done, settled_refused}
use Rattle.std.specs.Prelude.{Ok, Err}
use Rattle.reader.specs.declared.Refusal.{Refusal}
use Rattle.reader.specs.declared.Refusal.TheVariants.{TooLong, NotACell, NoText, NeedsRoom}
use Rattle.walks.specs.Walks.{CellsFrom}
use Rattle.reader.proofs.Whole.{left_text, left_none, no_longer, Told}

-- THE ROW'S REFUSALS
module _ (r : Row) where
  pub row_long : (n : ℕ) → longest_row < length r → n ≡ reported (length r) → RefusesRow castilian r (TooLong n)
  row_long n l e = (too_long n, refl, subst (λ (k : ℕ). RowRefused castilian r (too_long k)) (sym e) (long_row l))

  pub row_no_text : ProperRow r → ((t : Text) → Reads castilian r t → ⊥) → RefusesRow castilian r NoText
  row_no_text proper none_reads = (no_text, refl, refused_no_text proper none_reads)

  -- what `unread` is asked for, from the row's front
  pub unread_from_front : length r ≤ longest_row → left 0 0 r ≡ none
      → (length r ≤ longest_row) × (0 ≤ length r) × CellsFrom r 0 0 × ((t : Text) → Reads castilian r t → ⊥)
  unread_from_front short e = (short, zero-le, λ i h l. absurd (not-suc-le-zero l), left_none r e)

  module _ (short : length r ≤ longest_row) where
    pub row_not_cells : (n : ℕ) → FirstHigh r n → n < length r → RefusesRow castilian r (NotACell n)
    row_not_cells n f l = (not_a_cell n, refl, refused_not_a_cell n short l (f.there l) f.below)

    pub row_proper : (n : ℕ) → FirstHigh r n → length r ≤ n → ProperRow r
    row_proper n f all = record { short = short; cells = λ m h. f.below m (omega (arith, h, all)) }

    -- a row that has a text is of cells
    proper : (t : Text) → Reads castilian r t → ProperRow r
    proper t e = record { short = short; cells = cells_of_text castilian sane t r e }

    -- A ROW THAT IS READ: what a walk told of it
    module _ {c : ℕ} (told : Told (left 0 0 r) c) where
      abbrev text : Text
      text = print_of told.signs

      has : Reads castilian r text
      has = (left_text r told.signs told.are).0

      pub row_long_text : longest_text < c → RefusesRow castilian r (TooLong c)
      row_long_text h =
          let e : reported c ≡ c = min-eq_left (omega (arith, no_longer r text has, told.count)) in (
            too_long c,
            refl,
            subst (λ (n : ℕ). RowRefused castilian r (too_long n)) (ap reported (sym told.count) ∙ e)
                (long_text text (proper text has) has (omega (arith, told.count))),
          )

      pub accepted : c ≤ longest_text → ReadsAs castilian r text
      accepted h = record { proper = proper text has; reads = has; short = omega (arith, told.count) }

      -- THE ENDS OF `read` that are no refusal of the row
      pub read_cramped : (lent new : List ℕ) → new ≡ lent → c ≤ longest_text → length lent < c → Read castilian r lent (Err (NeedsRoom c)) new
      read_cramped lent new same h j =
          subst (Read castilian r lent (Err (NeedsRoom c))) (sym same)
          (refused (Err (NeedsRoom c)) (needs_room c) refl
          (subst (λ (n : ℕ). RowAnswer castilian r (length lent) (refuses (needs_room n))) (sym told.count)
          (text_needs_room text (accepted h) (omega (arith, told.count)))))

      pub read_done : (lent new : List ℕ) → new ≡ laid text lent → c ≤ longest_text → c ≤ length lent → Read castilian r lent (Ok c) new
      read_done lent new is h j =
          subst (Read castilian r lent (Ok c)) (sym is)
          (subst (λ (n : ℕ). Read castilian r lent (Ok n) (laid text lent)) (sym told.count)
          (done text (rules.read text (accepted h) (omega (arith, told.count)))))

      -- the answer that is no refusal of the row, by the room
      module _ (room : ℕ) where
        pub settle_cramped : c ≤ longest_text → room < c → Settled castilian r room (Err (NeedsRoom c))
        settle_cramped h j =
            settled_refused (NeedsRoom c) (needs_room c) refl
            (subst (λ (n : ℕ). RowAnswer castilian r room (refuses (needs_room n))) (sym told.count)
            (text_needs_room text (accepted h) (omega (arith, told.count))))

        pub settle_done : c ≤ longest_text → c ≤ room → Settled castilian r room (Ok c)
        settle_done h j =
            subst (λ (n : ℕ). Settled castilian r room (Ok n)) (sym told.count)
            (settled_done text (rules.read text (accepted h) (omega (arith, told.count))))

  -- a refusal of the row is one whatever the room
  pub settle_refused : (a : Refusal) → RefusesRow castilian r a → (room : ℕ) → Settled castilian r room (Err a)
  settle_refused a h room = settled_refused a h.0 h.1 (rules.row_refused h.0 h.2)

  -- THE ENDS OF `read`: nothing is written
  pub read_undone : (a : Answer) (lent new : List ℕ) → Settled castilian r (length lent) a → ((n : ℕ) → a ≡ Ok n → ⊥) → new ≡ lent
      → Read castilian r lent a new
  read_undone a lent new (settled_done t answer) other same = absurd (other _ refl)
  read_undone a lent new (settled_refused b x e answer) other same = subst (Read castilian r lent (Err b)) (sym same) (refused (Err b) x e answer)

  pub read_refused : (a : Refusal) → RefusesRow castilian r a → (lent new : List ℕ) → new ≡ lent → Read castilian r lent (Err a) new
  read_refused a h lent new same =
      subst (Read castilian r lent (Err a)) (sym same) (refused (Err a) h.0 h.1 (rules.row_refused h.0 h.2))

  not_done : {a : Refusal} (n : ℕ) → ◌≡◌ {A = Answer} (Err a) (Ok n) → ⊥
  not_done n e = let z : ◌≡◌ {A = ℕ} 0 1 = cc in omega arith

  pub read_not_settled : (a : Refusal) (lent : List ℕ) → Settled castilian r (length lent) (Err a) → Read castilian r lent (Err a) lent
  read_not_settled a lent h = read_undone (Err a) lent lent h not_done refl

  -- or the text that has the row
  pub settled_text : {n room : ℕ} → Settled castilian r room (Ok n) → (t : Text) × (n ≡ length t) × ReadsAs castilian r t × (length t ≤ room)
  settled_text (settled_done t (rules.read x h room)) = (t, refl, h, room)

  pub read_text : {n : ℕ} (t : Text) → n ≡ length t → ReadsAs castilian r t → (lent new : List ℕ) → new ≡ laid t lent → length t ≤ length lent
      → Read castilian r lent (Ok n) new
  read_text t e h lent new is room =
      subst (Read castilian r lent (Ok _)) (sym is)
      (subst (λ (n : ℕ). Read castilian r lent (Ok n) (laid t lent)) (sym e) (done t (rules.read t h room)))

-- AN EMPTY ROW has the empty text
nothing_told : Told (left 0 0 []) 0
unfolding at_rest
nothing_told = record { signs = []; are = end_left [] 0 0 0 zero-le (omega arith); count = refl }

pub read_empty : (r : Row) → length r ≡ 0 → (lent : List ℕ) → Read castilian r lent (Ok 0) lent
unfolding nothing_told
read_empty [] e lent = read_text [] [] refl (accepted [] (omega arith) nothing_told (omega arith)) lent lent refl zero-le
read_empty (c ∷ r) e lent = absurd (omega arith)
