-- What the three parts of a step tell: whether the row has a text, how long that is, and which sign starts at the place. In order: nothing is left behind the
-- parts; the text of all three; no sign at the place; the sign there, and its print. All over plain values. Assumes nothing.
use mathlib.Core.Path.{◌≡◌, refl, sym, ap, ◌∙◌, subst}
use mathlib.Core.Bool.{true, ◌&&◌}
use mathlib.Core.List.{List, [], ◌∷◌, ◌++◌, append-nil}
use mathlib.Core.Logic.{◌⊎◌, inl, inr}
use mathlib.Core.Option.{none, some}
use Prim.Native.Nat.{ℕ, ◌+◌, ◌-◌, ◌*◌, ◌≤◌, ◌<◌}
use native.Mathlib.Omega.{arith}
use lib.Dec.{eqb}
use lib.ListN.{length, drop, get_or, length-append}
use Rattle.rules.specs.Cells.{Row}
use Rattle.rules.specs.Signs.{Sign, print_of, cells_of}
use Rattle.rules.specs.Refusals.{longest_row}
use Rattle.rules.specs.Screen.{sign_at}
use Rattle.rules.proofs.Machine.{at_rest}
use Rattle.rows.specs.Laid.{laid}
use Rattle.readings.specs.Modes.{mode_of, number_of}
use Rattle.readings.specs.Left.{left}
use Rattle.readings.specs.Print.{points}
use Rattle.std.specs.Prelude.{Some, None}
use Rattle.std.specs.declared.option.Option as rust
use Rattle.walks.specs.Walks.{Wrote, add_signs, uncounted, CodedSign, Starts}
use Rattle.walks.specs.declared.Stand.{Stand}
use Rattle.reader.specs.Passes.{at_start}
use Rattle.walks.proofs.Walking.{adds_some, adds_none, print_join, leads_few, sign_first, sign_behind, sign_over, sign_none, starts_nowhere, starts_once}
use Rattle.reader.proofs.Whole.{Told}
use Rattle.reader.proofs.Parts.{Went, to_end}

-- THE THREE PARTS OF A STEP: up to the place, over the sign there, to the end
module _ {row : Row} {before : ℕ} {v₁ : Stand} (w₁ : Went row before at_start v₁) {behind : ℕ} {v₂ : Stand} (w₂ : Went row behind (uncounted v₁) v₂) where
  -- nothing is left behind them
  pub lost_behind : left (number_of v₂.mode) v₂.opened (drop v₂.at row) ≡ none → left 0 0 row ≡ none
  lost_behind e =
      w₁.leads.left_is ∙ ap (add_signs w₁.signs) (w₂.leads.left_is ∙ ap (add_signs w₂.signs) e ∙ adds_none w₂.signs) ∙ adds_none w₁.signs

  module _ {v₃ : Stand} (w₃ : Went row (length row) (uncounted v₂) v₃) where
    pub few_parts : length row ≤ longest_row → v₁.count + v₂.count + v₃.count ≤ 6 * longest_row
    few_parts short =
        omega (arith, w₁.count, leads_few w₁.leads, w₁.leads.within, w₂.count, leads_few w₂.leads, w₂.leads.within, w₃.count, leads_few w₃.leads, w₃.leads.within, short)

    module _ (ended : (at_rest (mode_of (number_of v₃.mode)) && eqb v₃.opened 0) ≡ true) where
      abbrev pub told_parts : Told (left 0 0 row) (v₁.count + v₂.count + v₃.count)
      told_parts =
          record {
            signs = w₁.signs ++ (w₂.signs ++ w₃.signs);
            are =
                w₁.leads.left_is
                ∙ ap (add_signs w₁.signs) (w₂.leads.left_is ∙ ap (add_signs w₂.signs) (to_end w₃ ended) ∙ adds_some w₂.signs w₃.signs)
                ∙ adds_some w₁.signs (w₂.signs ++ w₃.signs);
            count =
                omega (arith, w₁.count, w₂.count, w₃.count, ap length (print_join w₁.signs (w₂.signs ++ w₃.signs)), length-append (print_of w₁.signs) (print_of (w₂.signs ++ w₃.signs)), ap length (print_join w₂.signs w₃.signs), length-append (print_of w₂.signs) (print_of w₃.signs));
          }

      module _ (place : ℕ) (is_before : ((place < length row) × (before ≡ place)) ⊎ ((length row ≤ place) × (before ≡ length row)))
          (is_behind : ((v₁.at ≡ place) × (v₁.at < length row) × (behind ≡ v₁.at + 1)) ⊎ (((v₁.at ≡ place) → length row ≤ v₁.at) × (behind ≡ v₁.at))) where
        -- where no sign is read at the place, none starts there
        pub no_sign_seen : v₂.at ≡ v₁.at → sign_at told_parts.signs place ≡ none
        no_sign_seen same = go is_before is_behind
          where
            xs : List Sign
            xs = w₂.signs ++ w₃.signs

            go : ((place < length row) × (before ≡ place)) ⊎ ((length row ≤ place) × (before ≡ length row))
                → ((v₁.at ≡ place) × (v₁.at < length row) × (behind ≡ v₁.at + 1)) ⊎ (((v₁.at ≡ place) → length row ≤ v₁.at) × (behind ≡ v₁.at))
                → sign_at (w₁.signs ++ xs) place ≡ none
            go x (inl y) = absurd (omega (arith, w₂.reached, y.2, same))
            go (inl x) (inr y) =
                let far : v₁.at ≡ place → ⊥ = λ e. omega (arith, y.0 e, e, x.0) in
                let over : place < length (cells_of w₁.signs) = omega (arith, far, w₁.reached, x.1, w₁.leads.next_is) in
                sign_over 0 w₁.signs xs place (subst (λ (i : ℕ). Starts i 0 w₁.signs) (omega (arith, x.1)) w₁.leads.starts) over
            go (inr x) (inr y) =
                let a : v₁.at ≡ length row = omega (arith, w₁.reached, x.1, w₁.leads.within) in
                let e : w₂.signs ≡ [] = starts_nowhere v₁.at w₂.signs (subst (λ (i : ℕ). Starts i v₁.at w₂.signs) y.1 w₂.leads.starts) in
                let f : w₃.signs ≡ [] =
                starts_nowhere v₂.at w₃.signs (subst (λ (i : ℕ). Starts i v₂.at w₃.signs) (omega (arith, a, same)) w₃.leads.starts) in
                sign_behind before 0 w₁.signs xs place w₁.leads.starts (omega (arith, w₁.leads.next_is, a, x.0))
                ∙ ap (λ (zs : List Sign). sign_at zs (place - length (cells_of w₁.signs))) (ap (λ (zs : List Sign). zs ++ w₃.signs) e ∙ f)
                ∙ sign_none (place - length (cells_of w₁.signs))

        -- and else it is the one that starts there
        pub record Seen : Type 0 where
          pub sign : Sign
          pub there : sign_at told_parts.signs place ≡ some sign
          pub next_is : v₂.at ≡ place + length sign.taken
          pub is_coded : CodedSign sign
          pub width : v₂.count ≡ length sign.shown
          pub print : print_of w₂.signs ≡ sign.shown

        pub sign_seen : (v₂.at ≡ v₁.at → ⊥) → Seen
        sign_seen other = go is_behind w₂.signs refl
          where
            go : ((v₁.at ≡ place) × (v₁.at < length row) × (behind ≡ v₁.at + 1)) ⊎ (((v₁.at ≡ place) → length row ≤ v₁.at) × (behind ≡ v₁.at)) → (zs : List Sign) → w₂.signs ≡ zs → Seen
            go (inr y) zs e =
                let f : w₂.signs ≡ [] = starts_nowhere v₁.at w₂.signs (subst (λ (i : ℕ). Starts i v₁.at w₂.signs) y.1 w₂.leads.starts) in
                absurd (other (omega (arith, w₂.leads.next_is, ap (λ (xs : List Sign). length (cells_of xs)) f)))
            go (inl y) [] e = absurd (other (omega (arith, w₂.leads.next_is, ap (λ (xs : List Sign). length (cells_of xs)) e)))
            go (inl y) (s ∷ zs) e =
                let h : Starts (v₁.at + 1) v₁.at (s ∷ zs) =
                subst (λ (xs : List Sign). Starts (v₁.at + 1) v₁.at xs) e (subst (λ (i : ℕ). Starts i v₁.at w₂.signs) y.2 w₂.leads.starts) in
                let f : w₂.signs ≡ s ∷ [] = e ∙ ap (λ (xs : List Sign). s ∷ xs) (starts_once v₁.at s zs h) in
                let p : print_of w₂.signs ≡ s.shown = ap print_of f ∙ append-nil s.shown in
                record {
                  sign = s;
                  there =
                      sign_behind before 0 w₁.signs (w₂.signs ++ w₃.signs) place w₁.leads.starts (omega (arith, w₁.leads.next_is, y.0))
                      ∙ ap (λ (xs : List Sign). sign_at (xs ++ w₃.signs) (place - length (cells_of w₁.signs))) f
                      ∙ sign_first s w₃.signs (place - length (cells_of w₁.signs)) (omega (arith, w₁.leads.next_is, y.0));
                  next_is =
                      omega (arith, w₂.leads.next_is, y.0, ap (λ (xs : List Sign). length (cells_of xs)) f, ap length (append-nil s.taken));
                  is_coded = h.2;
                  width = omega (arith, w₂.count, ap length p);
                  print = p;
                }

        -- its print, from the elements that it was written to
        module _ (other : v₂.at ≡ v₁.at → ⊥) {t' : List ℕ} (wrote : Wrote (0 ∷ 0 ∷ []) t' 0 (print_of w₂.signs)) where
          abbrev seen : Seen
          seen = sign_seen other

          held : (q : List ℕ) → seen.sign.shown ≡ q → length q ≤ 2 → t' ≡ laid q (0 ∷ 0 ∷ [])
          held q e h =
              let f : print_of w₂.signs ≡ q = seen.print ∙ e in
              wrote.1 (omega (arith, ap length f, h)) ∙ ap (λ (x : List ℕ). laid x (0 ∷ 0 ∷ [])) f

          pub one_point : v₂.count ≡ 1 → seen.sign.shown ≡ points None (get_or t' 0 0)
          one_point h = go seen.is_coded.0 seen.is_coded.1 seen.is_coded.2
            where
              go : (l : rust.Option ℕ) (p : ℕ) → seen.sign.shown ≡ points l p → seen.sign.shown ≡ points None (get_or t' 0 0)
              go None p e = e ∙ ap (λ (n : ℕ). n ∷ []) (sym (ap (λ (xs : List ℕ). get_or xs 0 0) (held (p ∷ []) e (omega arith))))
              go (Some l) p e = absurd (omega (arith, seen.width, ap length e, h))

          pub two_points : (v₂.count ≡ 1 → ⊥) → seen.sign.shown ≡ points (Some (get_or t' 0 0)) (get_or t' 1 0)
          two_points h = go seen.is_coded.0 seen.is_coded.1 seen.is_coded.2
            where
              go : (l : rust.Option ℕ) (p : ℕ) → seen.sign.shown ≡ points l p → seen.sign.shown ≡ points (Some (get_or t' 0 0)) (get_or t' 1 0)
              go None p e = absurd (h (omega (arith, seen.width, ap length e)))
              go (Some l) p e =
                  let f : t' ≡ l ∷ p ∷ [] = held (l ∷ p ∷ []) e (omega arith) in
                  e ∙ sym (cc (ap (λ (xs : List ℕ). get_or xs 0 0) f, ap (λ (xs : List ℕ). get_or xs 1 0) f))
