-- What a look-up of src/ gives for a byte: the last arm of one that names all others is for the number that is left (`one_left`); a byte that is none of the cells (`past_cells`) has no word in a table of
-- theirs (`no_word`), and a byte that is none of some keys does not have a field that they alone have (`no_field`); a table has what is said of each of its places (`table_told`). And what a cell is
-- inside a number, by its fields within a run. Assumes nothing.
use mathlib.Core.Path.{◌≡◌, refl, sym, ◌∙◌, ap, subst}
use mathlib.Core.Bool.{Bool, true, false, ◌||◌}
use mathlib.Core.List.{List, [], ◌∷◌}
use mathlib.Core.Logic.{⊎_elim}
use Prim.Native.Nat.{ℕ, suc, ◌+◌, ◌/◌, ◌%◌, ◌≤◌, ◌<◌}
use native.Mathlib.Omega.{arith}
use lib.Dec.{T, eqb, ltb, ltb→lt, eqb→eq}
use lib.ListN.{length, get_or, get_or-eq_default}
use Rattle.rules.proofs.Finite.{every, and_left, and_right, below, at_below, le_or_lt}
use Rattle.entries.proofs.Keys.{among, Rest, rest_none}
use Rattle.entries.proofs.Places.{upto, none_below}
use Rattle.readings.specs.Fields.{inside_in, run_in, no_cell}
use Rattle.readings.specs.Words.{words, word_of}

-- what is as great as all keys are less than is none of them
none_as_great : (n c : ℕ) → n ≤ c → (A : Type 0) → A → (ks : List ℕ) → T (every (λ k. ltb k n) ks) → Rest A ks c
none_as_great n c l A a [] t = a
none_as_great n c l A a (k ∷ ks) t =
    none_as_great n c l (A × (c ≡ k → ⊥))
    (a, λ q. omega (arith, q, l, ltb→lt k n (and_left (ltb k n) (every (λ k. ltb k n) ks) t))) ks (and_right (ltb k n) (every (λ k. ltb k n) ks) t)

-- so a byte past the cells is none of them
pub past_cells : (c : ℕ) → no_cell ≤ c → Rest Unit (upto no_cell) c
unfolding upto
past_cells c l = none_as_great no_cell c l Unit tt (upto no_cell) tt

-- of any list of the cells' words
module _ (ws : List ℕ) (full : length ws ≡ no_cell) where
  past_list : (c : ℕ) → no_cell < suc c → get_or ws c 0 ≡ 0
  past_list c l = get_or-eq_default ws 0 {n = c} (omega (arith, full, l))

  pub no_word : (n : ℕ) → no_cell ≤ n → (c : ℕ) → Rest Unit (upto n) c → 0 ≡ get_or ws c 0
  no_word n h c r = sym (past_list c (omega (arith, h, none_below n c (rest_none Unit (upto n) c r).1)))

pub past_words : (c : ℕ) → no_cell < suc c → word_of c ≡ 0
unfolding words
past_words c l = past_list words refl c l

-- a test that holds of what is none of the keys
none_of_keys : (b x : Bool) → b ≡ false → T (b || x) → T x
none_of_keys true x e t = absurd (subst T e tt)
none_of_keys false x e t = t

-- a field of a cell that is none of the keys: those that have it are all among them
pub no_field : (g : ℕ → ℕ) → g 0 ≡ 0 → (ks : List ℕ) → T (below (λ c. among ks c || eqb (g (word_of c)) 0) no_cell) → (c : ℕ) → Rest Unit ks c
    → 0 ≡ g (word_of c)
no_field g z ks t c r =
    ⊎_elim
    (λ l. sym (eqb→eq (g (word_of c)) 0 (none_of_keys (among ks c) (eqb (g (word_of c)) 0) (rest_none Unit ks c r).1 (at_below (λ c. among ks c || eqb (g (word_of c)) 0) no_cell t c l))))
    (λ l. sym (ap g (past_words c l) ∙ z)) (le_or_lt (suc c) no_cell)

-- and the one number below a bound that is none of the keys
pub one_left : (n k : ℕ) (ks : List ℕ) → T (below (λ x. among ks x || eqb x k) n) → (x : ℕ) → x < n → Rest Unit ks x → x ≡ k
one_left n k ks t x l r =
    eqb→eq x k (none_of_keys (among ks x) (eqb x k) (rest_none Unit ks x r).1 (at_below (λ x. among ks x || eqb x k) n t x l))

-- a table of the code has at each place what is said of it, if it is so of the places, one by one
pub table_told : (xs : List ℕ) (f : ℕ → ℕ) (count : ℕ) → T (below (λ n. eqb (get_or xs n 0) (f n)) count) → (n : ℕ) → n < count → get_or xs n 0 ≡ f n
table_told xs f count t n l = eqb→eq (get_or xs n 0) (f n) (at_below (λ n. eqb (get_or xs n 0) (f n)) count t n l)

-- inside a number a cell is its digit or what it is between two: no cell is both, so that their fields within a run make one
pub inside_told : (c : ℕ) → run_in (word_of c) % 65536 + run_in (word_of c) / 281474976710656 ≡ inside_in (word_of c)
unfolding words
inside_told c =
    ⊎_elim
    (λ l. eqb→eq (run_in (word_of c) % 65536 + run_in (word_of c) / 281474976710656) (inside_in (word_of c))
    (at_below (λ c. eqb (run_in (word_of c) % 65536 + run_in (word_of c) / 281474976710656) (inside_in (word_of c))) no_cell tt c l))
    (λ l. let e = past_words c l in
    ap (λ (w : ℕ). run_in w % 65536 + run_in w / 281474976710656) e ∙ sym (ap inside_in e)) (le_or_lt (suc c) no_cell)
