-- Laws of a walk that the pages name, over `Runs`, which says where a walk is in the middle of a part: the start; how many code points at most, and what `put` asks for;
-- a turn; more signs; a part within; a stretch, written or only counted; the ends of a stretch and of a walk; a quick reading that gives a sign. Assumes nothing.
use mathlib.Core.Path.{◌≡◌, sym, ap, ◌∙◌}
use mathlib.Core.Logic.{inl, inr}
use mathlib.Core.Option.{none}
use mathlib.Core.List.{List, []}
use Prim.Native.Nat.{ℕ, ◌+◌, ◌*◌, ◌≤◌, ◌<◌}
use native.Mathlib.Omega.{arith}
use native.Mathlib.Nat.{add-zero}
use lib.ListN.{length, drop}
use Rattle.std.specs.declared.option.Option as rust
use Rattle.std.specs.Prelude.{Some, Ok, Err}
use Rattle.rules.specs.Cells.{Row}
use Rattle.rules.specs.Refusals.{longest_row}
use Rattle.pairs.specs.Opened.{open_states}
use Rattle.readings.specs.Modes.{mode_count, number_of, mode_at}
use Rattle.readings.specs.Left.{left}
use Rattle.readings.specs.Print.{points}
use Rattle.readings.specs.declared.Step.{Step}
use Rattle.readings.proofs.Numbers.{number_back, number_small}
use Rattle.readings.proofs.Turning.{Turn, turn_of}
use Rattle.signs.specs.Runs.{run_of, Quick, InRun}
use Rattle.walks.specs.Walks.{Wrote, Room, most_points, uncounted, Strides, strides_on, strides_nowhere, Runs, Goes, goes_on, goes_nowhere}
use Rattle.walks.specs.declared.Stand.{Stand}
use Rattle.walks.specs.declared.NoText.{NoText}
use Rattle.walks.proofs.Writing.{wrote_none}
use Rattle.walks.proofs.Walking.{leads_none, TurnOf, behind, runs_few, runs_turn, runs_join, runs_wider, strides_runs, unwritten_runs, goes_runs, leads_nowhere, cells_join_on}

pub mid_start : (row : Row) (stop : ℕ) (v : Stand) (t : List ℕ) → v.at ≤ length row → v.opened < open_states → Runs row stop v t t v
mid_start row stop v t within few =
    record {
      signs = [];
      leads = leads_none row stop v.at (number_of v.mode) v.opened within (number_small v.mode) few;
      count = sym (add-zero v.count);
      wrote = wrote_none t v.count;
    }

module _ {row : Row} {stop : ℕ} {v w : Stand} {t₀ t : List ℕ} (mid : Runs row stop v t₀ t w) where
  pub mid_few : v.count ≤ 2 * v.at → w.count ≤ 2 * w.at
  mid_few = runs_few mid

  pub mid_put : length row ≤ longest_row → v.count ≤ 2 * v.at → (limit : ℕ) → Room limit w.at w.count (length t₀) → w.at < limit → (w.count ≤ most_points) × (w.count < length t)
  mid_put short few limit room l = (omega (arith, mid_few few, mid.leads.within, short), omega (arith, mid.wrote.0, room, l))

  pub mid_on : (x : Step) → TurnOf row w x → w.at < stop → {r : ℕ} {t' : List ℕ} → (r ≡ w.count + length (points x.lead x.point)) × Wrote t t' w.count (points x.lead x.point)
      → Runs row stop v t₀ t' (behind x r)
  mid_on = runs_turn mid

  pub mid_more : {u : Stand} {t' : List ℕ} → Runs row stop w t t' u → Runs row stop v t₀ t' u
  mid_more = runs_join mid

  pub mid_part : {stop' : ℕ} {u : Stand} {t' : List ℕ} → stop' ≤ stop → Goes row stop' w t t' (Ok u) → Runs row stop v t₀ t' u × (stop' ≤ u.at)
  mid_part h g = let r = goes_runs g in (runs_join mid (runs_wider r.0 h), r.1)

  pub mid_stride : {u : Stand} {t' : List ℕ} → Strides row stop w t t' (Ok u) → Runs row stop v t₀ t' u × (w.at < stop → w.at < u.at)
  mid_stride s = let r = strides_runs s in (runs_join mid r.0, r.1)

  pub mid_unwritten : {u : Stand} → length t ≤ w.count → Strides row stop (uncounted w) [] [] (Ok u)
      → Runs row stop v t₀ t (record { at = u.at; mode = u.mode; opened = u.opened; count = w.count + u.count }) × (w.at < stop → w.at < u.at)
  mid_unwritten {u} full s = let r = unwritten_runs w u t full s in (runs_join mid r.0, r.1)

  pub mid_strayed : {n : ℕ} {u u' t' : List ℕ} {e : NoText} → Strides row stop (record { at = w.at; mode = w.mode; opened = w.opened; count = n }) u u' (Err e)
      → (length u' ≡ length u → length t' ≡ length t) → Goes row stop v t₀ t' (Err e)
  mid_strayed (strides_nowhere k within cells none_left same) long =
      goes_nowhere k within (cells_join_on mid.leads cells) (leads_nowhere mid.leads none_left) (long same ∙ mid.wrote.0)

  pub mid_strides : (v.at < stop → v.at < w.at) → Strides row stop v t₀ t (Ok w)
  mid_strides further = strides_on mid.signs w mid.leads further mid.count mid.wrote

  pub mid_astray : left (number_of w.mode) w.opened (drop w.at row) ≡ none → Strides row stop v t₀ t (Err (record { cells = w.at }))
  mid_astray e = strides_nowhere w.at mid.leads.within mid.leads.cells (leads_nowhere mid.leads e) mid.wrote.0

  pub mid_end : stop ≤ w.at → Goes row stop v t₀ t (Ok w)
  mid_end h = goes_on mid.signs w mid.leads h mid.count mid.wrote

same_step : {x y : Step} → Some x ≡ Some y → x ≡ y
same_step e = cc

-- a quick reading that gives a sign is a turn, and that sign has one code point; in a run the mode that it leaves is in the same run
pub quick_turn : (row : Row) (at m m' o : ℕ) → at < length row → m < mode_count → o < open_states → (s : rust.Option Step) → Quick row at m m' o s
    → (x : Step) → s ≡ Some x
    → (number_of x.mode ≡ m') × (x.mode ≡ mode_at m') × (x.opened ≡ o) × Turn row at m o x.lead x.point x.next (number_of x.mode) x.opened × (length (points x.lead x.point) ≡ 1)
quick_turn row at m m' o inside small few s (inl e) x q = let z : ◌≡◌ {A = ℕ} 0 1 = cc in absurd (omega (arith, z))
quick_turn row at m m' o inside small few s (inr (h, is_mode, (p, k, f))) x q =
    let g = same_step (sym q ∙ f) in
    let e : x.mode ≡ mode_at m' = ap (λ (s : Step). s.mode) g in (
      ap number_of e ∙ number_back m' is_mode,
      e,
      ap (λ (s : Step). s.opened) g,
      turn_of row at m o inside small few x (sym h ∙ q),
      ap (λ (s : Step). length (points s.lead s.point)) g,
    )

pub run_turn : (row : Row) (at m o : ℕ) → at < length row → m < mode_count → o < open_states → (s : rust.Option Step) → InRun row at m o s
    → (x : Step) → s ≡ Some x
    → (run_of (number_of x.mode) ≡ run_of m) × (x.opened ≡ o) × Turn row at m o x.lead x.point x.next (number_of x.mode) x.opened × (length (points x.lead x.point) ≡ 1)
run_turn row at m o inside small few s (n, e, h) x q = let t = quick_turn row at m n o inside small few s h x q in (ap run_of t.0 ∙ e, t.2, t.3, t.4)
