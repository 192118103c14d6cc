-- The first pass in the middle of a text: the signs drawn, with what is still to come, give the whole answer (`Mid`). One turn is the pair rule (`Passed`)
-- and the sign (`Went`); each end of the pass is a law here, and the proof of `draw` only cites them. For any table that is `Held`. Assumes nothing.
use mathlib.Core.Path.{◌≡◌, refl, sym, ap, ◌∙◌, subst}
use mathlib.Core.Bool.{Bool, true, false, cond}
use mathlib.Core.List.{List, ◌++◌, append_assoc, append-nil}
use mathlib.Core.Logic.{⊎_elim}
use mathlib.Core.Option.{Option, none, some}
use Prim.Native.Nat.{ℕ, ◌+◌, ◌*◌, ◌/◌, ◌%◌, ◌≤◌, ◌<◌, zero-le}
use native.Mathlib.Omega.{arith}
use lib.Dec.{eqb}
use lib.ListN.{length, take, set, get_or, length-append, length-set}
use borrow.Author.Tests.{eq-eqb, ne_eqb, eqb-true, eqb-false}
use Rattle.rules.specs.Cells.{Row}
use Rattle.rules.specs.Sorts.{Table, class}
use Rattle.rules.specs.Pairs.{Opens, mark_of, fits, turn}
use Rattle.rules.specs.Places.{lacks_sign, breaks_pair, outside_form, shares_cells, Outcome, fault, silent, sign}
use Rattle.rules.specs.Rows.{sort_in, Verdict, good, bad, judge, verdict_of}
use Rattle.rules.proofs.Finite.{le_or_lt}
use Rattle.rules.proofs.States.{Past, free}
use Rattle.rules.proofs.Sides.{outcome_cells, row_on, verdict_on}
use Rattle.rules.proofs.Rows.{whole_row}
use Rattle.entries.specs.States.{free as free_state, states}
use Rattle.entries.specs.SignWords.{cells_in, count_of}
use Rattle.entries.specs.Entries.{entry_of, class_in, sign_in, then_in, mark_in, usual_in, marks, mark_number}
use Rattle.entries.specs.Numbers.{mark_told}
use Rattle.entries.proofs.SignWords.{cells_length}
use Rattle.pairs.specs.Opened.{open_states, opens_of, kind_by, opener_by, pairs_by}
use Rattle.std.specs.declared.option.Option as rust
use Rattle.std.specs.Prelude.{Ok, Err, Some, None}
use Rattle.pairs.proofs.Pairing.{kind_small, mark_says, Means, pairs_mean, closed_is, none_open}
use Rattle.deeds.specs.Acts as act
use Rattle.deeds.specs.Stages.{stage_at, deed_of, settled_by, act_of}
use Rattle.deeds.proofs.Machine.{stage_small, then_small, parted, faultless, never_paired, done_low}
use Rattle.turns.specs.Ahead.{items_from, future_at}
use Rattle.writing.specs.Joined.{joined}
use Rattle.writing.proofs.Joined.{joined_more}
use Rattle.passes.specs.Passes.{sign_by, fault_by, shown, measured_of, Drawn}
use Rattle.passes.specs.Middle.{Mid}
use Rattle.passes.specs.declared.Refusal.TheVariants.{PairBroken}
use Rattle.passes.proofs.Going.{Held, sort_here, next, ahead, outcome_here, act_here, deed_is, usual_deed, state_after, cells_here, no_fault, row_here, verdict_here, row_end, verdict_end, row_start, verdict_start, judge_on}

-- the code point at place i may stand there, as far as pairs go, and then these kinds are open
pub record Passed (tb : Table) (text : List ℕ) (opened i opens : ℕ) : Type 0 where
  pub stands : fits (opens_of opened) (sort_in tb (get_or text i 0)) ≡ true
  pub turns : turn (sort_in tb (get_or text i 0)) (opens_of opened) ≡ opens_of opens
  pub few : opens < open_states

-- a number that is not 0
pub some_number : (m : ℕ) → (m ≡ 0 → ⊥) → 0 < m
some_number m e = ⊎_elim (λ l. absurd (e (omega (arith, l)))) (λ l. l) (le_or_lt m 0)

-- a mark that an entry tells of is its number, and is not 0; and none is 0
pub told_mark : (n m : ℕ) → mark_told n ≡ Some m → (m ≡ n) × (0 < m)
told_mark n m e = go (eqb n 0) refl e
  where
    go : (b : Bool) → eqb n 0 ≡ b → ◌≡◌ {A = rust.Option ℕ} (cond b None (Some n)) (Some m) → (m ≡ n) × (0 < m)
    go true q e = (cc, cc)
    go false q e = let s : n ≡ m = cc in (sym s, subst (λ (k : ℕ). 0 < k) s (some_number n (eqb-false n 0 q)))

pub told_none : (n : ℕ) → mark_told n ≡ None → n ≡ 0
told_none n e = go (eqb n 0) refl e
  where
    go : (b : Bool) → eqb n 0 ≡ b → ◌≡◌ {A = rust.Option ℕ} (cond b None (Some n)) None → n ≡ 0
    go true q e = eqb-true n 0 q
    go false q e = cc

module _ (tb : Table) (h : Held tb) (text : List ℕ) where
  mark_none : (x : Option (ℕ × Bool)) → mark_number x ≡ 0 → x ≡ none
  unfolding mark_number
  mark_none none e = refl
  mark_none (some m) e = go m.1 e
    where
      go : (b : Bool) → 2 * m.0 + cond b 1 2 ≡ 0 → some m ≡ none
      go true e = absurd (omega (arith, e))
      go false e = absurd (omega (arith, e))

  module _ (opened i : ℕ) (few : opened < open_states) where
    abbrev c : ℕ
    c = get_or text i 0

    pub passed_none : mark_in (entry_of tb c) ≡ 0 → (opens : ℕ) → opens ≡ opened → Passed tb text opened i opens
    unfolding fits turn
    passed_none e opens same =
        let q : mark_of (sort_in tb c) ≡ none = mark_none (mark_of (sort_in tb c)) (sym (h.words.mark_is c) ∙ e) in
        subst (Passed tb text opened i) (sym same) (record { stands = rw q; turns = rw q; few = few })

    module _ (m : ℕ) (is_m : m ≡ mark_in (entry_of tb c)) (some_mark : 0 < m) where
      number : m ≡ mark_number (mark_of (sort_in tb c))
      number = is_m ∙ h.words.mark_is c

      pub mark_small : m < marks
      mark_small = subst (λ (k : ℕ). k < marks) (sym is_m) (h.words.mark_small c)

      says : mark_of (sort_in tb c) ≡ some (kind_by m, opener_by m)
      says =
          mark_says (mark_of (sort_in tb c)) (subst (λ (k : ℕ). 0 < k) number some_mark) (subst (λ (k : ℕ). k < marks) number mark_small)
          ∙ ap (λ (k : ℕ). some (kind_by k, opener_by k)) (sym number)

      mean : (p : rust.Option ℕ) → pairs_by opened m ≡ p → Means opened (kind_by m) few (kind_small m mark_small) (opener_by m) p
      mean p e = subst (Means opened (kind_by m) few (kind_small m mark_small) (opener_by m)) e (pairs_mean opened m few mark_small)

      pub passed_mark : (opens : ℕ) → pairs_by opened m ≡ Some opens → Passed tb text opened i opens
      unfolding fits turn
      passed_mark opens e = let t = mean (Some opens) e in record { stands = rw says t.0; turns = rw says t.1; few = t.2 }

      pub not_passed : pairs_by opened m ≡ None → fits (opens_of opened) (sort_in tb c) ≡ false
      unfolding fits
      not_passed e = rw says (mean None e)

  -- what is done at place i: no fault; the cells of its sign; the state after it
  pub record Went (past : Past) (i w s : ℕ) : Type 0 where
    pub fine : faultless (outcome_here tb h text i past) ≡ true
    pub cells : cells_in w ≡ outcome_cells (outcome_here tb h text i past) (sort_here tb h text i past)
    pub leads : s ≡ stage_at (next tb h text i past) (ahead tb h text i past)

  module _ (past : Past) (i state : ℕ) (at : state ≡ stage_at past (future_at tb text i)) where
    abbrev e : ℕ
    e = entry_of tb (get_or text i 0)

    pub state_small : state < states
    state_small = subst (λ (s : ℕ). s < states) (sym at) (stage_small past (future_at tb text i))

    module _ (d : ℕ) (is_d : d ≡ settled_by (deed_of state (class_in e)) (ahead tb h text i past)) where
      pub act_is : d ≡ act_here tb h text i past
      act_is = deed_is tb h text i past state d at is_d

      -- by its deed
      pub went_deed : d < act.questions → (w s : ℕ) → w ≡ sign_by (d % act.ways) e → s ≡ d / act.ways → Went past i w s
      went_deed l w s is_w is_s =
          record {
            fine = no_fault tb h text i past d act_is l;
            cells = ap cells_in is_w ∙ cells_here tb h text i past d act_is l;
            leads = is_s ∙ state_after tb h text i past d act_is l;
          }

    -- as usual: its own cells, and the state that its word leads to
    module _ (u : usual_in e state ≡ true) where
      pub passed_usual : (opened : ℕ) → opened < open_states → (opens : ℕ) → opens ≡ opened → Passed tb text opened i opens
      passed_usual opened few = passed_none opened i few (h.words.usual_unmarked (get_or text i 0) state state_small u)

      pub went_usual : (w s : ℕ) → w ≡ sign_in e → s ≡ then_in e → Went past i w s
      unfolding sign_by
      went_usual w s is_w is_s =
          let t : then_in e < states = subst (λ (n : ℕ). n < states) (sym (h.words.then_is (get_or text i 0))) (then_small (class (sort_here tb h text i past))) in
          let q = parted (then_in e) act.bare_way t (omega arith) in
          went_deed (then_in e * act.ways + act.bare_way) (usual_deed tb h text i past state state_small u) q.0 w s
          (is_w ∙ ap (λ (k : ℕ). sign_by k e) (sym q.2)) (is_s ∙ sym q.1)

  -- A TURN
  pub mid_start : (signs : List ℕ) → length text ≤ length signs → Mid tb text signs signs 0 free_state 0 0
  unfolding stage_at
  mid_start signs room =
      record {
        past = free;
        inside = zero-le;
        room = room;
        same = refl;
        few = omega arith;
        at = refl;
        low = zero-le;
        count = refl;
        drawn = row_start tb h text;
        whole = ap (λ (o : Opens). verdict_on free o 0 (items_from tb text 0)) (sym none_open) ∙ verdict_start tb h text;
      }

  -- an answer, from the verdict
  told : (v : Verdict) → v ≡ verdict_of tb text → shown v (length (whole_row tb text)) ≡ measured_of tb text
  unfolding measured_of
  told v e = rw e

  module _ (signs₀ signs : List ℕ) (opened state n i : ℕ) (m : Mid tb text signs₀ signs opened state n i) where
    module _ (l : i < length text) where
      pub mid_broken : fits (opens_of opened) (sort_in tb (get_or text i 0)) ≡ false → Err (PairBroken i) ≡ measured_of tb text
      mid_broken e = told (bad breaks_pair i) (sym (verdict_here tb h text i m.past l (opens_of opened) ∙ rw e) ∙ m.whole)

      module _ (opens : ℕ) (p : Passed tb text opened i opens) where
        judged : (v : Verdict) → verdict_on (next tb h text i m.past) (opens_of opens) (i + 1) (items_from tb text (i + 1)) ≡ v
            → verdict_of tb text ≡ judge true (outcome_here tb h text i m.past) i v
        judged v e =
            sym m.whole ∙ verdict_here tb h text i m.past l (opens_of opened)
            ∙ rw (p.stands, p.turns, e)

        pub mid_fault : (d : ℕ) → d ≡ act_here tb h text i m.past
            → act.questions ≤ d → Err (fault_by d i) ≡ measured_of tb text
        unfolding act_of fault_by
        mid_fault d is_d q = go (outcome_here tb h text i m.past) refl
          where
            v : Verdict
            v = verdict_on (next tb h text i m.past) (opens_of opens) (i + 1) (items_from tb text (i + 1))

            high : faultless (outcome_here tb h text i m.past) ≡ true → ⊥
            high e =
                let k = done_low (class (sort_here tb h text i m.past)) (outcome_here tb h text i m.past) _ (stage_small (next tb h text i m.past) (ahead tb h text i m.past)) e in
                omega (arith, k, is_d, q)

            at_fault_lem : (x : Outcome) → outcome_here tb h text i m.past ≡ x
                → (d ≡ act_of (class (sort_here tb h text i m.past)) x (stage_at (next tb h text i m.past) (ahead tb h text i m.past))) × (verdict_of tb text ≡ judge true x i v)
            at_fault_lem x e = (
              is_d ∙ ap (λ (y : Outcome). act_of (class (sort_here tb h text i m.past)) y (stage_at (next tb h text i m.past) (ahead tb h text i m.past))) e,
              judged v refl ∙ ap (λ (y : Outcome). judge true y i v) e,
            )

            go : (x : Outcome) → outcome_here tb h text i m.past ≡ x → Err (fault_by d i) ≡ measured_of tb text
            go (fault lacks_sign) e =
                let f = at_fault_lem (fault lacks_sign) e in ap (λ (k : ℕ). Err (fault_by k i)) f.0 ∙ told (bad lacks_sign i) (sym f.1)
            go (fault breaks_pair) e = absurd (never_paired m.past (class (sort_here tb h text i m.past)) (ahead tb h text i m.past) e)
            go (fault outside_form) e =
                let f = at_fault_lem (fault outside_form) e in ap (λ (k : ℕ). Err (fault_by k i)) f.0 ∙ told (bad outside_form i) (sym f.1)
            go (fault shares_cells) e =
                let f = at_fault_lem (fault shares_cells) e in ap (λ (k : ℕ). Err (fault_by k i)) f.0 ∙ told (bad shares_cells i) (sym f.1)
            go silent e = absurd (high (ap faultless e))
            go (sign w) e = absurd (high (ap faultless e))

        -- the sign is stored, and its cells counted
        mid_next : (w s k : ℕ) → Went m.past i w s → k ≡ count_of w → Mid tb text signs₀ (set signs i w) opens s (n + k) (i + 1)
        mid_next w s k g is_k =
            let here : Row = outcome_cells (outcome_here tb h text i m.past) (sort_here tb h text i m.past) in
            let rest : Row = row_on (next tb h text i m.past) (items_from tb text (i + 1)) in
            let more : joined (take (i + 1) (set signs i w)) ≡ joined (take i signs) ++ cells_in w =
            joined_more signs i w (omega (arith, m.room)) in
            record {
              past = next tb h text i m.past;
              inside = omega arith;
              room = simp length-set m.room;
              same = length-set signs i w ∙ m.same;
              few = p.few;
              at = g.leads;
              low = omega (arith, m.low, is_k);
              count =
                  omega (arith, m.count, is_k, cells_length w, ap length more, length-append (joined (take i signs)) (cells_in w));
              drawn =
                  ap (λ (r : Row). r ++ rest) (more ∙ ap (λ (r : Row). joined (take i signs) ++ r) g.cells)
                  ∙ append_assoc (joined (take i signs)) here rest
                  ∙ ap (λ (r : Row). joined (take i signs) ++ r) (sym (row_here tb h text i m.past l)) ∙ m.drawn;
              whole =
                  let v : Verdict = verdict_on (next tb h text i m.past) (opens_of opens) (i + 1) (items_from tb text (i + 1)) in
                  sym (judged v refl ∙ judge_on (outcome_here tb h text i m.past) i v g.fine);
            }

        pub mid_on : (w s k : ℕ) → Went m.past i w s → k ≡ count_of w → (new : List ℕ) (count : ℕ) → new ≡ set signs i w → count ≡ n + k
            → Mid tb text signs₀ new opens s count (i + 1)
        mid_on w s k g is_k new count is_new is_count =
            subst (λ (j : ℕ). Mid tb text signs₀ new opens s j (i + 1)) (sym is_count)
            (subst (λ (x : List ℕ). Mid tb text signs₀ x opens s (n + k) (i + 1)) (sym is_new) (mid_next w s k g is_k))

    module _ (l : length text ≤ i) where
      all_drawn : joined (take i signs) ≡ whole_row tb text
      all_drawn = sym (append-nil (joined (take i signs))) ∙ ap (λ (r : Row). joined (take i signs) ++ r) (sym (row_end tb h text i m.past l)) ∙ m.drawn

      ended : cond (eqb opened 0) good (bad breaks_pair i) ≡ verdict_of tb text
      ended =
          ap (λ (b : Bool). cond b good (bad breaks_pair i)) (sym (closed_is opened m.few))
          ∙ sym (verdict_end tb h text i m.past (opens_of opened) l) ∙ m.whole

      pub mid_done : opened ≡ 0 → (Ok n ≡ measured_of tb text) × Drawn (Ok n) tb text (take (length text) signs)
      mid_done e =
          let k : i ≡ length text = omega (arith, m.inside) in (
            ap Ok (m.count ∙ ap length all_drawn)
                ∙ told good (ap (λ (b : Bool). cond b good (bad breaks_pair i)) (sym (eq-eqb opened 0 e)) ∙ ended),
            ap (λ (j : ℕ). joined (take j signs)) (sym k) ∙ all_drawn,
          )

      pub mid_open : (opened ≡ 0 → ⊥) → Err (PairBroken i) ≡ measured_of tb text
      mid_open e = told (bad breaks_pair i) (ap (λ (b : Bool). cond b good (bad breaks_pair i)) (sym (ne_eqb opened 0 e)) ∙ ended)
