-- The proofing screen walks an accepted row. The invariant of the walk: what starts at a place from here on is what starts among the signs that
-- are left (`Left`), and they have as many cells as the row has left. It goes on over one sign since each has a cell. Assumes nothing.
use mathlib.Core.Path.{◌≡◌, refl, sym, ◌∙◌, ap, subst}
use mathlib.Core.Bool.{Bool, true, false}
use mathlib.Core.List.{List, [], ◌∷◌, ◌++◌, map}
use mathlib.Core.Option.{Option, none, some}
use Prim.Native.Nat.{ℕ, ◌+◌, ◌-◌, ◌≤◌}
use native.Mathlib.Omega.{arith}
use lib.Dec.{T, eqb, eqb→eq, leb, le→leb}
use lib.ListN.{length, length-append}
use Rattle.rules.specs.Cells.{Text, Row}
use Rattle.rules.specs.Sorts.{Table}
use Rattle.rules.specs.Signs.{Sign, print_of, cells_of}
use Rattle.rules.specs.Rows.{signs_of}
use Rattle.rules.specs.Answers.{ReadsAs}
use Rattle.rules.specs.Screen.{sign_at, shown_by, shows, Stepped, stepped}
use Rattle.rules.specs.Demands.{Walks, joined, StepsShowText}
use Rattle.rules.proofs.Profile.{Sane}
use Rattle.rules.proofs.Signs.{signs_join, Filled, filled_signs}

-- past a sign, the next ones start
sign_past : (s : Sign) (ss : List Sign) (n : ℕ) → 1 ≤ length s.taken → sign_at (s ∷ ss) (length s.taken + n) ≡ sign_at ss n
unfolding sign_at
sign_past s ss n f = go (eqb (k + n) 0) refl (leb k (k + n)) (le→leb k (k + n) (omega arith))
  where
    k : ℕ
    k = length s.taken

    go : (x : Bool) → eqb (length s.taken + n) 0 ≡ x → (y : Bool) → T y
        → ◌≡◌ {A = Option Sign} (elim x as (λ _. Option Sign)
        [ true ↦ some s | false ↦ elim y as (λ _. Option Sign) [ true ↦ sign_at ss (length s.taken + n - length s.taken) | false ↦ none ] ])
        (sign_at ss n)
    go true e y t = let z : length s.taken + n ≡ 0 = eqb→eq (length s.taken + n) 0 (subst T (sym e) tt) in absurd (omega arith)
    go false e true t = ap (sign_at ss) (omega arith)
    go false e false t = absurd t

module _ (tb : Table) (sane : Sane tb) (r : Row) (t : Text) (h : ReadsAs tb r t) where
  -- from place n on, these signs are left
  abbrev pub Left : ℕ → List Sign → Type 0
  Left n ss = ((k : ℕ) → sign_at (signs_of tb t) (n + k) ≡ sign_at ss k) × (n + length (cells_of ss) ≡ length r)

  pub left_on : (n : ℕ) (s : Sign) (ss : List Sign) → 1 ≤ length s.taken → Left n (s ∷ ss) → Left (n + length s.taken) ss
  left_on n s ss f l = (
    λ k. ap (sign_at (signs_of tb t)) (omega arith) ∙ l.0 (length s.taken + k) ∙ sign_past s ss k f,
    omega (arith, l.1, length-append s.taken (cells_of ss)),
  )

  pub step_here : (n : ℕ) (s : Sign) (ss : List Sign) → Left n (s ∷ ss)
      → Stepped tb r n (shows (record { points = s.shown; next = n + length s.taken }))
  unfolding sign_at
  step_here n s ss l =
      let e : sign_at (signs_of tb t) n ≡ some s = ap (sign_at (signs_of tb t)) (omega arith) ∙ l.0 0 in
      subst (λ (x : Option Sign). Stepped tb r n (shows (shown_by x n))) e (stepped t h)

  pub walks : (n : ℕ) (ss : List Sign) → Filled tb sane ss → Left n ss → Walks tb r n (map (λ (s : Sign). s.shown) ss)
  walks n [] f l = omega (arith, l.1)
  walks n (s ∷ ss) f l =
      (n + length s.taken, step_here n s ss l, omega (arith, f.0), walks (n + length s.taken) ss f.1 (left_on n s ss f.0 l))

pub joined_signs : (ss : List Sign) → joined (map (λ (s : Sign). s.shown) ss) ≡ print_of ss
joined_signs [] = refl
joined_signs (s ∷ ss) = ap (λ (u : Text). s.shown ++ u) (joined_signs ss)

pub steps_show_text : (tb : Table) → Sane tb → StepsShowText tb
steps_show_text tb sane r t h =
    let ss : List Sign = signs_of tb t in
    let j = signs_join tb sane t r h.reads in (
      map (λ (s : Sign). s.shown) ss,
      walks tb sane r t h 0 ss (filled_signs tb sane t r h.reads) (λ k. ap (sign_at ss) (omega arith), omega (arith, ap length j.1)),
      joined_signs ss ∙ j.0,
    )
