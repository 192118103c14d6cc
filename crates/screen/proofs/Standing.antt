-- What is shown of a reader is what is shown of the row and the place where it stands. Assumes nothing.
use mathlib.Core.List.{List}
use mathlib.Core.Path.{◌≡◌, sym, ap, subst}
use Prim.Native.Nat.{ℕ}
use denote.Ref.{Bor}
use Rattle.rules.specs.Castilian.{castilian}
use Rattle.stepper.specs.Promise.{Shown, Shows}
use Rattle.screen.specs.declared.Reader.{Reader}
use Rattle.screen.specs.Claims.{Stands}

pub shown_also : (r u : List ℕ) (m n : ℕ) (s : Shown) → r ≡ u → m ≡ n → Shows castilian r m s → Shows castilian u n s
shown_also r u m n s e f h = subst (λ (x : List ℕ). Shows castilian x n s) e (subst (λ (k : ℕ). Shows castilian r k s) f h)

module _ (q : Reader) (row : Bor (List ℕ)) (n : ℕ) (h : Stands q row n) (s : Shown) where
  cells_same : q.row.now ≡ row.now
  cells_same = ap (λ (x : Bor (List ℕ)). x.now) h.0

  pub shown_of_reader : Shows castilian q.row.now q.place s → Shows castilian row.now n s
  shown_of_reader = shown_also q.row.now row.now q.place n s cells_same h.1

  pub shown_by_reader : Shows castilian row.now n s → Shows castilian q.row.now q.place s
  shown_by_reader = shown_also row.now q.row.now n q.place s (sym cells_same) (sym h.1)
