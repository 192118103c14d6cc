-- What is stored one behind another (`sets`), as far as there is room: behind the end nothing; from the front on, what there is room for. Assumes nothing.
use mathlib.Core.List.{List, [], ◌∷◌, ◌++◌}
use mathlib.Core.Path.{◌≡◌, refl, ap, ◌∙◌}
use Prim.Native.Nat.{ℕ, zero, suc, ◌+◌, ◌≤◌}
use native.Mathlib.Omega.{arith}
use native.Mathlib.Nat.{zero-add}
use lib.ListN.{length, take, drop, set, length-take, length-set}
use lib.Seq.{set_out, sets, sets-eq}
use Rattle.rows.specs.Laid.{laid}

pub stored_past : (vs l : List ℕ) (i : ℕ) → length l ≤ i → sets l i vs ≡ l
stored_past [] l i h = refl
stored_past (v ∷ vs) l i h = rw (set_out l i v h) (stored_past vs l (suc i) (omega (arith, h)))

stored_fit : (vs l : List ℕ) (i n : ℕ) → i + n ≡ length l → sets l i vs ≡ sets l i (take n vs)
stored_fit vs l i zero e = stored_past vs l i (omega (arith, e))
stored_fit [] l i (suc n) e = refl
stored_fit (v ∷ vs) l i (suc n) e = stored_fit vs (set l i v) (suc i) n (rw length-set (omega (arith, e)))

pub stored_is : (vs l : List ℕ) → sets l 0 vs ≡ laid (take (length l) vs) l
stored_is vs l =
    let w : List ℕ = take (length l) vs in
    let room : 0 + length w ≤ length l = simp length-take (omega arith) in
    stored_fit vs l 0 (length l) (zero-add (length l)) ∙ sets-eq w l 0 room ∙ ap (λ (k : ℕ). w ++ drop k l) (zero-add (length w))
