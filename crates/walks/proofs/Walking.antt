-- Signs one after another (`Leads`). In order: signs joined; a turn more; a walk in the middle of a part (`Runs`); what a stretch found; a quick reading; cells that are
-- only counted; the sign at a place of signs joined. Assumes nothing.
use mathlib.Core.Path.{◌≡◌, refl, sym, ap, ◌∙◌, subst}
use mathlib.Core.Bool.{Bool, true, false, cond, true≢false}
use mathlib.Core.List.{List, [], ◌∷◌, ◌++◌, append_assoc, append-nil}
use mathlib.Core.Logic.{◌⊎◌, inl, inr, ⊎_elim}
use mathlib.Core.Option.{Option, none, some}
use Prim.Native.Nat.{ℕ, zero, suc, ◌+◌, ◌-◌, ◌*◌, ◌≤◌, ◌<◌, zero-le}
use native.Mathlib.Omega.{arith}
use native.Mathlib.Nat.{add-zero}
use lib.Dec.{T, eqb, leb}
use lib.ListN.{length, drop, get_or, length-append}
use borrow.Author.Tests.{eq-eqb, ne_eqb, le-leb, lt-leb, leb-true}
use Rattle.rules.specs.Cells.{Row}
use Rattle.rules.specs.Pairs.{kinds}
use Rattle.rules.specs.Signs.{Sign, print_of, cells_of}
use Rattle.rules.specs.Screen.{sign_at}
use Rattle.rules.proofs.Finite.{le_or_lt, below, at_below}
use Rattle.readings.proofs.Settling.{is_true}
use Rattle.pairs.specs.Opened.{open_states}
use Rattle.readings.specs.Modes.{mode_count, number_of, free, mixed, owing, dash, whole2, num, low, under, mid}
use Rattle.readings.specs.Fields.{point_in, then_in, kind_in, usual_in, cell_of}
use Rattle.readings.specs.Words.{word_of}
use Rattle.readings.specs.Readings.{no_point, a_step, step_of, step_at, usual_by, a_mark, one}
use Rattle.readings.specs.Left.{left, add_sign}
use Rattle.readings.specs.Print.{points}
use Rattle.signs.specs.Runs.{no_run, run_of, field_of, Quick, InRun}
use Rattle.signs.proofs.Cases.{alone_modes, alone_step, as_usual_lem, word_there, kind_known}
use Rattle.readings.specs.declared.Step.{Step}
use Rattle.readings.specs.declared.Mode.{Mode}
use Rattle.std.specs.declared.option.Option as rust
use Rattle.std.specs.Prelude.{Some, None, Result, Ok, Err}
use Rattle.readings.proofs.Turning.{Turn, turn_of, none_left}
use Rattle.readings.proofs.Numbers.{number_back, number_small}
use Rattle.walks.specs.Walks.{Wrote, Room, Stands, uncounted, Kin, Alike, Reads, Strides, strides_on, strides_nowhere, most_points, add_signs, Starts, CellsFrom, Leads, Runs, Goes, goes_on, goes_nowhere, AllCells, Alone, Tallied}
use Rattle.walks.specs.declared.Stand.{Stand}
use Rattle.walks.specs.declared.NoText.{NoText}
use Rattle.readings.proofs.Print.{points_width}
use Rattle.walks.proofs.Writing.{wrote_none, wrote_on, wrote_full}

-- SIGNS JOINED
pub print_join : (ss xs : List Sign) → print_of (ss ++ xs) ≡ print_of ss ++ print_of xs
print_join [] xs = refl
print_join (s ∷ ss) xs = ap (λ (p : List ℕ). s.shown ++ p) (print_join ss xs) ∙ sym (append_assoc s.shown (print_of ss) (print_of xs))

cells_join : (ss xs : List Sign) → length (cells_of (ss ++ xs)) ≡ length (cells_of ss) + length (cells_of xs)
cells_join [] xs = omega arith
cells_join (s ∷ ss) xs = omega (arith, length-append s.taken (cells_of (ss ++ xs)), length-append s.taken (cells_of ss), cells_join ss xs)

adds_join : (ss xs : List Sign) (y : Option (List Sign)) → add_signs (ss ++ xs) y ≡ add_signs ss (add_signs xs y)
adds_join [] xs y = refl
adds_join (s ∷ ss) xs y = ap (add_sign s) (adds_join ss xs y)

starts_join : (stop at : ℕ) (ss xs : List Sign) → Starts stop at ss → Starts stop (at + length (cells_of ss)) xs → Starts stop at (ss ++ xs)
starts_join stop at [] xs h k = subst (λ (n : ℕ). Starts stop n xs) (add-zero at) k
starts_join stop at (s ∷ ss) xs h k = (
  h.0,
  h.1,
  h.2,
  starts_join stop (at + length s.taken) ss xs h.3
      (subst (λ (n : ℕ). Starts stop n xs) (omega (arith, length-append s.taken (cells_of ss))) k),
)

starts_wider : (stop stop' at : ℕ) (ss : List Sign) → stop ≤ stop' → Starts stop at ss → Starts stop' at ss
starts_wider stop stop' at [] h k = tt
starts_wider stop stop' at (s ∷ ss) h k = (omega (arith, h, k.0), k.1, k.2, starts_wider stop stop' (at + length s.taken) ss h k.3)

-- at most two code points a sign, and a cell or more
pub two_each : (stop at : ℕ) (ss : List Sign) → Starts stop at ss → length (print_of ss) ≤ 2 * length (cells_of ss)
two_each stop at [] h = omega arith
two_each stop at (x ∷ ss) h =
    let c = h.2 in
    omega (arith, length-append x.shown (print_of ss), length-append x.taken (cells_of ss), two_each stop (at + length x.taken) ss h.3, h.1, ap length c.2, (points_width c.0 c.1).1)

pub adds_none : (ss : List Sign) → add_signs ss none ≡ none
adds_none [] = refl
adds_none (s ∷ ss) = ap (add_sign s) (adds_none ss)

-- A TURN MORE, and as many as another list has
pub leads_none : (row : Row) (stop at m o : ℕ) → at ≤ length row → m < mode_count → o < open_states → Leads row stop at m o at m o []
leads_none row stop at m o h f g =
    record {
      left_is = refl;
      next_is = sym (add-zero at);
      starts = tt;
      within = h;
      cells = λ i j k. absurd (omega (arith, j, k));
      mode = f;
      opens = g;
    }

leads_one : {row : Row} {stop at m o : ℕ} {l : rust.Option ℕ} {p k n u : ℕ} → at < stop → (turn : Turn row at m o l p k n u) → Leads row stop at m o k n u (turn.sign ∷ [])
leads_one {l = l} {p = p} h turn =
    record {
      left_is = turn.signs_left;
      next_is = turn.next_is ∙ ap (λ (c : Row). _ + length c) (sym (append-nil turn.sign.taken));
      starts = (h, omega (arith, turn.next_is, turn.forward), (l, p, turn.shows), tt);
      within = turn.within;
      cells = turn.cells;
      mode = turn.mode;
      opens = turn.opens;
    }

module _ {row : Row} {stop from m₀ o₀ at m o : ℕ} {ss : List Sign} (leads : Leads row stop from m₀ o₀ at m o ss) where
  pub leads_few : length (print_of ss) + 2 * from ≤ 2 * at
  leads_few = omega (arith, two_each stop from ss leads.starts, leads.next_is)

  pub cells_join_on : {k : ℕ} → CellsFrom row at k → CellsFrom row from k
  cells_join_on more i h l = ⊎_elim (λ j. more i j l) (λ j. leads.cells i h j) (le_or_lt at i)

  pub leads_join : {k n u : ℕ} {xs : List Sign} → Leads row stop at m o k n u xs → Leads row stop from m₀ o₀ k n u (ss ++ xs)
  leads_join {k} {n} {u} {xs} more =
      record {
        left_is = leads.left_is ∙ ap (add_signs ss) more.left_is ∙ sym (adds_join ss xs (left n u (drop k row)));
        next_is = omega (arith, leads.next_is, more.next_is, cells_join ss xs);
        starts = starts_join stop from ss xs leads.starts (subst (λ (i : ℕ). Starts stop i xs) leads.next_is more.starts);
        within = more.within;
        cells = cells_join_on more.cells;
        mode = more.mode;
        opens = more.opens;
      }

  -- a turn more, and how many code points there are then
  leads_turn : {l : rust.Option ℕ} {p k n u : ℕ} (turn : Turn row at m o l p k n u) → at < stop
      → (xs : List Sign) × Leads row stop from m₀ o₀ k n u xs × (length (print_of xs) ≡ length (print_of ss) + length (points l p))
  leads_turn turn h =
      let s = turn.sign ∷ [] in (
        ss ++ s,
        leads_join (leads_one h turn),
        omega (arith, ap length (print_join ss s), length-append (print_of ss) (print_of s), ap length (append-nil turn.sign.shown), ap length turn.shows),
      )

  pub leads_wider : {stop' : ℕ} → stop ≤ stop' → Leads row stop' from m₀ o₀ at m o ss
  leads_wider {stop'} h =
      record {
        left_is = leads.left_is;
        next_is = leads.next_is;
        starts = starts_wider stop stop' from ss h leads.starts;
        within = leads.within;
        cells = leads.cells;
        mode = leads.mode;
        opens = leads.opens;
      }

  pub leads_nowhere : left m o (drop at row) ≡ none → left m₀ o₀ (drop from row) ≡ none
  leads_nowhere e = leads.left_is ∙ ap (add_signs ss) e ∙ adds_none ss

-- A RUN is of modes that are counted
run_small : (n : ℕ) → run_of n < no_run → n < mode_count
unfolding run_of
run_small n some_run = ⊎_elim (λ h. absurd (omega (arith, some_run, none h))) (λ h. h) (le_or_lt mode_count n)
  where
    none : mode_count ≤ n → run_of n ≡ no_run
    none h =
        rw (
          ne_eqb n num (λ e. omega (arith, h, e)),
          ne_eqb n mid (λ e. omega (arith, h, e)),
          ne_eqb n under (λ e. omega (arith, h, e)),
          ne_eqb n whole2 (λ e. omega (arith, h, e)),
          ne_eqb n low (λ e. omega (arith, h, e)),
        ) refl

run_most : T (below (λ n. leb (run_of n) no_run) mode_count)
unfolding run_of
run_most = tt

pub some_run : (m : Mode) (r : ℕ) → field_of (run_of (number_of m)) ≡ Some r → (r ≡ run_of (number_of m)) × (r < no_run)
some_run m r = go (eqb (run_of (number_of m)) no_run) refl
  where
    go : (b : Bool) → eqb (run_of (number_of m)) no_run ≡ b → cond b None (Some (run_of (number_of m))) ≡ Some r → (r ≡ run_of (number_of m)) × (r < no_run)
    go true e f = let z : ◌≡◌ {A = ℕ} 0 1 = cc in absurd (omega arith)
    go false e f =
        let g : run_of (number_of m) ≡ r = cc in
        let most = leb-true (run_of (number_of m)) no_run (is_true (leb (run_of (number_of m)) no_run) (at_below (λ n. leb (run_of n) no_run) mode_count run_most (number_of m) (number_small m))) in
        let other : run_of (number_of m) ≡ no_run → ⊥ = λ z. true≢false (sym (eq-eqb (run_of (number_of m)) no_run z) ∙ e) in
        (sym g, omega (arith, g, most, other))

-- the two modes that are in none
pub owing_alone : run_of owing ≡ no_run
unfolding run_of
owing_alone = refl

pub dash_alone : run_of dash ≡ no_run
unfolding run_of
dash_alone = refl

-- WHERE A WALK IS behind a step that gives a sign, r code points being counted then
abbrev pub TurnOf : Row → Stand → Step → Type 0
TurnOf row w x = Turn row w.at (number_of w.mode) w.opened x.lead x.point x.next (number_of x.mode) x.opened

abbrev pub behind : Step → ℕ → Stand
behind x r = record { at = x.next; mode = x.mode; opened = x.opened; count = r }

-- no sign starts there
abbrev pub Nowhere : Row → Stand → Type 0
Nowhere row w = left (number_of w.mode) w.opened (drop w.at row) ≡ none

module _ (row : Row) (w : Stand) (inside : w.at < length row) (few : w.opened < open_states) where
  pub turn_there : (x : Step) → step_at row w.at (number_of w.mode) w.opened ≡ Some x → TurnOf row w x
  turn_there x = turn_of row w.at (number_of w.mode) w.opened inside (number_small w.mode) few x

  pub nowhere_there : step_at row w.at (number_of w.mode) w.opened ≡ None → Nowhere row w
  nowhere_there = none_left row w.at (number_of w.mode) w.opened inside (number_small w.mode) few

same_step : {x y : Step} → Some x ≡ Some y → x ≡ y
same_step e = cc

-- a sign that is read as usual has one code point too
pub usual_one : (at o w : ℕ) (x : Step) → Some x ≡ step_of at o (usual_by w) → x.lead ≡ None
usual_one at o w x = go (eqb (point_in w) no_point)
  where
    go : (b : Bool) → Some x ≡ step_of at o (cond b (a_mark (kind_in w) 1) (one (point_in w) 1 (then_in w))) → x.lead ≡ None
    go true e = ap (λ (s : Step). s.lead) (same_step e)
    go false e = ap (λ (s : Step). s.lead) (same_step e)

-- IN THE MIDDLE of a part (`Runs`): the signs so far, behind those that are counted, their count, and that they are written
pub runs_none : (row : Row) (stop : ℕ) (v : Stand) (t : List ℕ) → Stands row v → Runs row stop v t t v
runs_none row stop v t h =
    record {
      signs = [];
      leads = leads_none row stop v.at (number_of v.mode) v.opened h.1 (number_small v.mode) h.2;
      count = sym (add-zero v.count);
      wrote = wrote_none t v.count;
    }

module _ {row : Row} {stop : ℕ} {v w : Stand} {t₀ t : List ℕ} (mid : Runs row stop v t₀ t w) where
  pub runs_few : v.count ≤ 2 * v.at → w.count ≤ 2 * w.at
  runs_few h = omega (arith, mid.count, leads_few mid.leads, h)

  pub runs_stands : Stands row v → Stands row w
  runs_stands h = (h.0, mid.leads.within, mid.leads.opens, runs_few h.3)

  pub runs_forward : v.at ≤ w.at
  runs_forward = omega (arith, mid.leads.next_is)

  -- what `put` asks for, at a place before which there is room
  pub runs_put : Stands row v → (limit : ℕ) → Room limit w.at w.count (length t₀) → w.at < limit → (w.count ≤ most_points) × (w.count < length t)
  runs_put h limit room l = (omega (arith, runs_few h.3, mid.leads.within, h.0), omega (arith, mid.wrote.0, room, l))

  -- more signs, and one
  pub runs_join : {u : Stand} {t' : List ℕ} → Runs row stop w t t' u → Runs row stop v t₀ t' u
  runs_join {u} {t'} more =
      let e = print_join mid.signs more.signs in
      record {
        signs = mid.signs ++ more.signs;
        leads = leads_join mid.leads more.leads;
        count = omega (arith, more.count, mid.count, ap length e, length-append (print_of mid.signs) (print_of more.signs));
        wrote = subst (Wrote t₀ t' v.count) (sym e) (wrote_on t₀ t t' v.count w.count (print_of mid.signs) (print_of more.signs) mid.wrote mid.count more.wrote);
      }

  pub runs_turn : (x : Step) → TurnOf row w x → w.at < stop → {r : ℕ} {t' : List ℕ} → (r ≡ w.count + length (points x.lead x.point)) × Wrote t t' w.count (points x.lead x.point)
      → Runs row stop v t₀ t' (behind x r)
  runs_turn x turn h {r} {t'} put =
      let e : points x.lead x.point ≡ print_of (turn.sign ∷ []) = sym (append-nil turn.sign.shown ∙ turn.shows) in
      runs_join
      (record {
        signs = turn.sign ∷ [];
        leads = leads_one h turn;
        count = put.0 ∙ ap (λ (q : List ℕ). w.count + length q) e;
        wrote = subst (Wrote t t' w.count) e put.1;
      })

  pub runs_wider : {stop' : ℕ} → stop ≤ stop' → Runs row stop' v t₀ t w
  runs_wider h = record { signs = mid.signs; leads = leads_wider mid.leads h; count = mid.count; wrote = mid.wrote }

  -- where no sign starts, no text has the row
  runs_astray : Nowhere row w → Strides row stop v t₀ t (Err (record { cells = w.at }))
  runs_astray e = strides_nowhere w.at mid.leads.within mid.leads.cells (leads_nowhere mid.leads e) mid.wrote.0

  -- the sign that starts there, before a place up to which there is room; and one that is read as usual, which has one code point
  module _ {limit : ℕ} (here : w.at < limit) (upto : limit ≤ stop) (all : stop ≤ length row) where
    pub inside_here : w.at < length row
    inside_here = omega (arith, here, upto, all)

    pub turn_here : (x : Step) → step_at row w.at (number_of w.mode) w.opened ≡ Some x → TurnOf row w x
    turn_here = turn_there row w inside_here mid.leads.opens

    pub put_here : (x : Step) → step_at row w.at (number_of w.mode) w.opened ≡ Some x
        → {r : ℕ} {t' : List ℕ} → (r ≡ w.count + length (points x.lead x.point)) × Wrote t t' w.count (points x.lead x.point) → Runs row stop v t₀ t' (behind x r)
    put_here x e = runs_turn x (turn_here x e) (omega (arith, here, upto))

    module _ (word : ℕ) (its : word ≡ word_of (get_or row w.at 0)) where
      pub word_here : word ≡ word_of (cell_of row w.at)
      word_here = its ∙ word_there row w.at inside_here

      module _ (u : usual_in word (number_of w.mode) ≡ true) where
        pub kind_here : point_in word ≡ no_point → kind_in word < kinds
        kind_here = kind_known row w.at (number_of w.mode) word (number_small w.mode) word_here u

        pub usual_here : (x : Step) → Some x ≡ step_of w.at w.opened (usual_by word) → (step_at row w.at (number_of w.mode) w.opened ≡ Some x) × (length (points x.lead x.point) ≡ 1)
        usual_here x e = (
          sym (e ∙ as_usual_lem row w.at (number_of w.mode) w.opened word word_here u),
          ap (λ (l : rust.Option ℕ). length (points l x.point)) (usual_one w.at w.opened word x e),
        )

    pub astray_here : step_at row w.at (number_of w.mode) w.opened ≡ None → Strides row stop v t₀ t (Err (record { cells = w.at }))
    astray_here e = runs_astray (nowhere_there row w inside_here mid.leads.opens e)

  pub runs_strayed : {t' : List ℕ} {e : NoText} → Strides row stop w t t' (Err e) → Goes row stop v t₀ t' (Err e)
  runs_strayed (strides_nowhere k within cells none_left same) =
      goes_nowhere k within (cells_join_on mid.leads cells) (leads_nowhere mid.leads none_left) (same ∙ mid.wrote.0)

  pub runs_uncounted : {e : NoText} → Strides row stop (uncounted w) [] [] (Err e) → Goes row stop v t₀ t (Err e)
  runs_uncounted (strides_nowhere k within cells none_left same) =
      goes_nowhere k within (cells_join_on mid.leads cells) (leads_nowhere mid.leads none_left) mid.wrote.0

-- WHAT A STRETCH FOUND, and the same of a text that has no room
pub strides_runs : {row : Row} {stop : ℕ} {v w : Stand} {t t' : List ℕ} → Strides row stop v t t' (Ok w) → Runs row stop v t t' w × (v.at < stop → v.at < w.at)
strides_runs (strides_on ss u leads further count wrote) = (record { signs = ss; leads = leads; count = count; wrote = wrote }, further)

pub unwritten_runs : {row : Row} {stop : ℕ} (v w : Stand) (t : List ℕ) → length t ≤ v.count → Strides row stop (uncounted v) [] [] (Ok w)
    → Runs row stop v t t (record { at = w.at; mode = w.mode; opened = w.opened; count = v.count + w.count }) × (v.at < stop → v.at < w.at)
unwritten_runs v w t full (strides_on ss u leads further count wrote) =
    (record { signs = ss; leads = leads; count = omega (arith, count); wrote = wrote_full t v.count (print_of ss) full }, further)

pub goes_runs : {row : Row} {stop : ℕ} {v w : Stand} {t t' : List ℕ} → Goes row stop v t t' (Ok w) → Runs row stop v t t' w × (stop ≤ w.at)
goes_runs (goes_on ss u leads reached count wrote) = (record { signs = ss; leads = leads; count = count; wrote = wrote }, reached)

pub goes_lost : {row : Row} {stop : ℕ} {v : Stand} {t t' : List ℕ} {e : NoText} → Goes row stop v t t' (Err e) → Nowhere row v × (length t' ≡ length t)
goes_lost (goes_nowhere k within cells none_left same) = (none_left, same)

pub strides_unwritten : {row : Row} {stop : ℕ} {v : Stand} {t t' : List ℕ} (r : Result Stand NoText) → Strides row stop v t t' r → Strides row stop v [] [] r
strides_unwritten {v = v} r (strides_on ss w leads further count wrote) = strides_on ss w leads further count (wrote_full [] v.count (print_of ss) zero-le)
strides_unwritten r (strides_nowhere k within cells none_left same) = strides_nowhere k within cells none_left refl

-- A QUICK READING that gives a sign is a turn, and that of one code point
pub alike_turn : (row : Row) (w v : Stand) → w.at < length row → w.opened < open_states → w.opened ≡ v.opened → (x : Step) → Alike row w.at w.mode v (Some x)
    → TurnOf row w x × (x.lead ≡ None) × (x.opened ≡ v.opened) × Kin (number_of x.mode) (number_of v.mode)
alike_turn row w v inside few same x (inl e) = let z : ◌≡◌ {A = ℕ} 0 1 = cc in absurd (omega arith)
alike_turn row w v inside few same x (inr (e, (y, f, none_before, opened, kin))) =
    let g : y ≡ x = sym (same_step f) in (
      turn_there row w inside few x (ap (step_at row w.at (number_of w.mode)) same ∙ sym e),
      ap (λ (s : Step). s.lead) (sym g) ∙ none_before,
      ap (λ (s : Step). s.opened) (sym g) ∙ opened,
      subst (λ (s : Step). Kin (number_of s.mode) (number_of v.mode)) g kin,
    )

module _ {row : Row} {stop : ℕ} {v w : Stand} {t₀ t : List ℕ} (mid : Runs row stop v t₀ t w) (here : w.at < stop) (all : stop ≤ length row) (same : w.opened ≡ v.opened)
    (kin : Kin (number_of w.mode) (number_of v.mode)) {pre : ℕ → Mode → Type 0} {post : ℕ → Mode → rust.Option Step → Type 0} (reads : Reads pre post row v)
    {s : rust.Option Step} (read : post w.at w.mode s) (x : Step) (some : s ≡ Some x) where
  pub again_turn : TurnOf row w x × (x.lead ≡ None) × (x.opened ≡ v.opened) × Kin (number_of x.mode) (number_of v.mode)
  again_turn =
      let inside : w.at < length row = omega (arith, here, all) in
      alike_turn row w v inside mid.leads.opens same x (subst (Alike row w.at w.mode v) some ((reads w.at w.mode inside kin).1 s read))

  pub runs_again : (room : ℕ) {r : ℕ} {t' : List ℕ} → Room stop w.at w.count room → (r ≡ w.count + length (points x.lead x.point)) × Wrote t t' w.count (points x.lead x.point)
      → Runs row stop v t₀ t' (record { at = x.next; mode = x.mode; opened = v.opened; count = r }) × Room stop x.next r room × Kin (number_of x.mode) (number_of v.mode)
  runs_again room {r} {t'} roomy put = (
    subst (λ (o : ℕ). Runs row stop v t₀ t' (record { at = x.next; mode = x.mode; opened = o; count = r })) again_turn.2 (runs_turn mid x again_turn.0 here put),
    omega (arith, roomy, again_turn.0.forward, put.0, ap (λ (l : rust.Option ℕ). length (points l x.point)) again_turn.1),
    again_turn.3,
  )

-- and each of the three is one
module _ (row : Row) (at : ℕ) (m : Mode) (w : Stand) (s : rust.Option Step) where
  quick_alike : (n : ℕ) → n < mode_count → Kin n (number_of w.mode) → Quick row at (number_of m) n w.opened s → Alike row at m w s
  quick_alike n small kin (inl e) = inl e
  quick_alike n small kin (inr (e, is_mode, (p, k, f))) =
      inr (e, (a_step no_point p k n w.opened, f, refl, refl, subst (λ (i : ℕ). Kin i (number_of w.mode)) (sym (number_back n small)) kin))

  pub same_alike : (n : ℕ) → run_of n ≡ no_run → number_of w.mode ≡ n → Kin (number_of m) (number_of w.mode) → Quick row at n n w.opened s → Alike row at m w s
  same_alike n alone f kin h =
      let e : number_of m ≡ n = kin.1 (ap run_of f ∙ alone) ∙ f in
      quick_alike n (subst (λ (i : ℕ). i < mode_count) e (number_small m)) (subst (λ (i : ℕ). Kin n i) (sym f) (refl, λ z. refl))
      (subst (λ (i : ℕ). Quick row at i n w.opened s) (sym e) h)

  pub run_alike : run_of (number_of m) ≡ run_of (number_of w.mode) → run_of (number_of w.mode) < no_run → InRun row at (number_of m) w.opened s → Alike row at m w s
  run_alike e some_run (n, f, h) =
      quick_alike n (run_small n (omega (arith, f, e, some_run))) (f ∙ e, λ z. absurd (omega (arith, z, some_run))) h

-- CELLS THAT ARE ONLY COUNTED: each is a turn, whether nothing is begun or a run with a small letter is
module _ (row : Row) (all : AllCells row) (at o : ℕ) (few : o < open_states) where
  -- the mode behind j of them
  abbrev mode_on : ℕ → ℕ → ℕ
  mode_on m zero = m
  mode_on m (suc j) = then_in (word_of (get_or row (at + j) 0))

  counted : (m j : ℕ) → (m ≡ free) ⊎ (m ≡ mixed) → Alone row at (at + j)
      → (ss : List Sign) × Leads row (length row) at m o (at + j) (mode_on m j) o ss × (length (print_of ss) ≡ j) × ((mode_on m j ≡ free) ⊎ (mode_on m j ≡ mixed))
  counted m zero e are =
      ([], subst (λ (k : ℕ). Leads row (length row) at m o k m o []) (sym (add-zero at)) (leads_none row (length row) at m o (omega (arith, are.within)) (⊎_elim (λ h. omega (arith, h)) (λ h. omega (arith, h)) e) few), refl, e)
  counted m (suc j) e are =
      let before = counted m j e (record { forward = omega arith; within = omega (arith, are.within); alone = λ i h l. are.alone i h (omega (arith, l)) }) in
      let inside : at + j < length row = omega (arith, are.within) in
      let is = are.alone (at + j) (omega arith) (omega arith) in
      let cell = get_or row (at + j) 0 in
      let modes = alone_modes cell (all (at + j) inside) is in
      let step = alone_step row (at + j) (mode_on m j) o inside is before.3 in
      let x : Step = a_step no_point (point_in (word_of (get_or row (at + j) 0))) (at + j + 1) (then_in (word_of (get_or row (at + j) 0))) o in
      let back = number_back (then_in (word_of cell)) (⊎_elim (λ h. omega (arith, h)) (λ h. omega (arith, h)) modes) in
      let turn = turn_of row (at + j) (mode_on m j) o inside before.1.mode few x step in
      let on = leads_turn before.1 turn inside in (
        on.0,
        subst (λ (k : ℕ). Leads row (length row) at m o k (then_in (word_of (get_or row (at + j) 0))) o on.0) (omega arith)
            (subst (λ (i : ℕ). Leads row (length row) at m o (at + j + 1) i o on.0) back on.1),
        omega (arith, on.2, before.2),
        modes,
      )

  pub tallied_runs : (v : Stand) → v.at ≡ at → v.opened ≡ o → (k : ℕ) (md : Mode) (room : ℕ) → Tallied row v room k → (k ≡ v.at → ⊥) → number_of md ≡ then_in (word_of (get_or row (k - 1) 0))
      → (t : List ℕ) → length t ≡ room → Runs row (length row) v t t (record { at = k; mode = md; opened = v.opened; count = v.count + (k - v.at) })
  tallied_runs v here opened k md room tallied other is t long =
      let j : ℕ = k - at - 1 in
      let e : at + suc j ≡ k = omega (arith, other, here, tallied.are.forward) in
      let f : at + j ≡ k - 1 = omega (arith, other, here, tallied.are.forward) in
      let only = tallied.only (omega (arith, other, tallied.are.forward)) in
      let c = counted (number_of v.mode) (suc j) only.1 (subst (Alone row at) (sym e) (subst (λ (i : ℕ). Alone row i k) here tallied.are)) in
      record {
        signs = c.0;
        leads =
            subst (λ (i : ℕ). Leads row (length row) i (number_of v.mode) v.opened k (number_of md) v.opened c.0) (sym here)
            (subst (λ (i : ℕ). Leads row (length row) at (number_of v.mode) i k (number_of md) i c.0) (sym opened)
            (subst (λ (i : ℕ). Leads row (length row) at (number_of v.mode) o i (number_of md) o c.0) e
            (subst (λ (i : ℕ). Leads row (length row) at (number_of v.mode) o (at + suc j) i o c.0) (ap (λ (i : ℕ). then_in (word_of (get_or row i 0))) f ∙ sym is) c.1)));
        count = omega (arith, c.2, e, here);
        wrote = wrote_full t v.count (print_of c.0) (omega (arith, long, only.0));
      }

pub adds_some : (ss xs : List Sign) → add_signs ss (some xs) ≡ some (ss ++ xs)
adds_some [] xs = refl
adds_some (s ∷ ss) xs = ap (add_sign s) (adds_some ss xs)

-- THE SIGN AT A PLACE
module _ (s : Sign) (ss : List Sign) (n : ℕ) where
  abbrev by_tests : Bool → Bool → Option Sign
  by_tests x y = elim x as (λ _. Option Sign) [ true ↦ some s | false ↦ elim y as (λ _. Option Sign) [ true ↦ sign_at ss (n - length s.taken) | false ↦ none ] ]

  tests : (x y : Bool) → eqb n 0 ≡ x → leb (length s.taken) n ≡ y → sign_at (s ∷ ss) n ≡ by_tests x y
  unfolding sign_at
  tests x y e f = ap (λ (b : Bool). by_tests b (leb (length s.taken) n)) e ∙ ap (by_tests x) f

  pub sign_first : n ≡ 0 → sign_at (s ∷ ss) n ≡ some s
  sign_first e = tests true (leb (length s.taken) n) (eq-eqb n 0 e) refl

  sign_within : (n ≡ 0 → ⊥) → n < length s.taken → sign_at (s ∷ ss) n ≡ none
  sign_within e l = tests false false (ne_eqb n 0 e) (lt-leb (length s.taken) n l)

  sign_later : (n ≡ 0 → ⊥) → length s.taken ≤ n → sign_at (s ∷ ss) n ≡ sign_at ss (n - length s.taken)
  sign_later e l = tests false true (ne_eqb n 0 e) (le-leb (length s.taken) n l)

-- behind signs that all stand before the place
pub sign_behind : (stop at : ℕ) (ss xs : List Sign) (n : ℕ) → Starts stop at ss → length (cells_of ss) ≤ n
    → sign_at (ss ++ xs) n ≡ sign_at xs (n - length (cells_of ss))
sign_behind stop at [] xs n h l = ap (sign_at xs) (omega arith)
sign_behind stop at (s ∷ ss) xs n h l =
    let e : length (cells_of (s ∷ ss)) ≡ length s.taken + length (cells_of ss) = length-append s.taken (cells_of ss) in
    sign_later s (ss ++ xs) n (λ z. omega (arith, e, h.1, z, l)) (omega (arith, e, l))
    ∙ sign_behind stop (at + length s.taken) ss xs (n - length s.taken) h.3 (omega (arith, e, l)) ∙ ap (sign_at xs) (omega (arith, e))

-- none, where the last of them starts before the place and ends behind it
pub sign_over : (at : ℕ) (ss xs : List Sign) (n : ℕ) → Starts (at + n) at ss → n < length (cells_of ss) → sign_at (ss ++ xs) n ≡ none
sign_over at [] xs n h l = absurd (omega (arith, l))
sign_over at (s ∷ ss) xs n h l =
    let e : length (cells_of (s ∷ ss)) ≡ length s.taken + length (cells_of ss) = length-append s.taken (cells_of ss) in
    let f : n ≡ 0 → ⊥ = λ z. omega (arith, h.0, z) in
    ⊎_elim
    (λ k. sign_later s (ss ++ xs) n f k
    ∙ sign_over (at + length s.taken) ss xs (n - length s.taken) (subst (λ (i : ℕ). Starts i (at + length s.taken) ss) (omega (arith, k)) h.3) (omega (arith, e, l)))
    (λ k. sign_within s (ss ++ xs) n f k) (le_or_lt (length s.taken) n)

pub sign_none : (n : ℕ) → sign_at [] n ≡ none
unfolding sign_at
sign_none n = refl

-- signs that start before a place which is not behind the first: there is none, or one where it is the next place
pub starts_nowhere : (at : ℕ) (ss : List Sign) → Starts at at ss → ss ≡ []
starts_nowhere at [] h = refl
starts_nowhere at (s ∷ ss) h = absurd (omega (arith, h.0))

pub starts_once : (at : ℕ) (s : Sign) (ss : List Sign) → Starts (at + 1) at (s ∷ ss) → ss ≡ []
starts_once at s [] h = refl
starts_once at s (x ∷ ss) h = absurd (omega (arith, h.1, h.3.0))
