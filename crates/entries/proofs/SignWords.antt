-- The cells of a sign by its count, over plain numbers: what each end of a function that writes a sign cites; how many they are; and the sign of one, two and
-- three cells has them. Assumes nothing.
use mathlib.Core.Path.{◌≡◌, refl, sym, ap, ◌∙◌}
use mathlib.Core.Bool.{Bool, true, false}
use mathlib.Core.List.{[], ◌∷◌}
use mathlib.Core.Logic.{⊎_elim}
use Prim.Native.Nat.{ℕ, ◌<◌}
use native.Mathlib.Omega.{arith}
use lib.Dec.{eqb}
use lib.ListN.{length}
use borrow.Author.Tests.{eqb-true, eqb-false}
use Rattle.rules.proofs.Finite.{le_or_lt}
use Rattle.entries.specs.SignWords.{cell_places, count_of, first_of, second_of, third_of, cells_in, sign_of_one, sign_of_two, sign_of_three}
use Rattle.entries.specs.Entries.{sign_in, first_in, lower_in}

module _ (w : ℕ) where
  pub own_none : count_of w ≡ 0 → cells_in w ≡ []
  unfolding cells_in
  own_none q = rw q

  pub own_one : (a : ℕ) → a ≡ first_of w → count_of w ≡ 1 → cells_in w ≡ a ∷ []
  unfolding cells_in
  own_one a p q = rw (p, q)

  pub own_two : (a b : ℕ) → a ≡ first_of w → b ≡ second_of w → count_of w ≡ 2 → cells_in w ≡ a ∷ b ∷ []
  unfolding cells_in
  own_two a b p r q = rw (p, r, q)

  pub own_three : (a b c : ℕ) → a ≡ first_of w → b ≡ second_of w → c ≡ third_of w → count_of w ≡ 3 → cells_in w ≡ a ∷ b ∷ c ∷ []
  unfolding cells_in
  own_three a b c p r s q = rw (p, r, s, q)

  -- the count is below four, so one that is none of 0, 1 and 2 is 3
  pub count_three : (count_of w ≡ 0 → ⊥) → (count_of w ≡ 1 → ⊥) → (count_of w ≡ 2 → ⊥) → count_of w ≡ 3
  count_three a b c =
      ⊎_elim (λ l. ⊎_elim (λ k. ⊎_elim (λ j. absurd (a (omega (arith, j)))) (λ j. absurd (b (omega (arith, j, k)))) (le_or_lt (count_of w) 0))
      (λ k. absurd (c (omega (arith, k, l)))) (le_or_lt (count_of w) 1)) (λ l. omega (arith, l)) (le_or_lt (count_of w) 2)

  pub cells_length : length (cells_in w) ≡ count_of w
  cells_length = go (eqb (count_of w) 0) refl (eqb (count_of w) 1) refl (eqb (count_of w) 2) refl
    where
      go : (x : Bool) → eqb (count_of w) 0 ≡ x → (y : Bool) → eqb (count_of w) 1 ≡ y → (z : Bool) → eqb (count_of w) 2 ≡ z → length (cells_in w) ≡ count_of w
      go true p y q z r = let h = eqb-true (count_of w) 0 p in ap length (own_none h) ∙ sym h
      go false p true q z r = let h = eqb-true (count_of w) 1 q in ap length (own_one (first_of w) refl h) ∙ sym h
      go false p false q true r = let h = eqb-true (count_of w) 2 r in ap length (own_two (first_of w) (second_of w) refl refl h) ∙ sym h
      go false p false q false r =
          let h = count_three (eqb-false (count_of w) 0 p) (eqb-false (count_of w) 1 q) (eqb-false (count_of w) 2 r) in
          ap length (own_three (first_of w) (second_of w) (third_of w) refl refl refl h) ∙ sym h

-- THE SIGN OF CELLS has them
module _ (a : ℕ) (k : a < cell_places) where
  pub cells_one : cells_in (sign_of_one a) ≡ a ∷ []
  cells_one = own_one (sign_of_one a) a (omega (arith, k)) (omega arith)

  module _ (b : ℕ) (l : b < cell_places) where
    pub cells_two : cells_in (sign_of_two a b) ≡ a ∷ b ∷ []
    cells_two = own_two (sign_of_two a b) a b (omega (arith, k, l)) (omega (arith, k, l)) (omega arith)

    pub cells_three : (c : ℕ) → c < cell_places → cells_in (sign_of_three a b c) ≡ a ∷ b ∷ c ∷ []
    cells_three c m =
        own_three (sign_of_three a b c) a b c (omega (arith, k, l, m)) (omega (arith, k, l, m)) (omega (arith, k, l, m)) (omega arith)

-- THE CELLS OF A WORD are cells
module _ (e : ℕ) where
  pub first_small : first_in e < cell_places
  first_small = omega arith

  pub lower_small : lower_in e < cell_places
  lower_small = omega arith

  -- the first of its sign
  pub first_is : first_of (sign_in e) ≡ first_in e
  first_is = omega arith
