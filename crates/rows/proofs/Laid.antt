-- Rows laid over the front of a lent slice: the lemmas that each writer cites.
-- Assumes nothing.
use mathlib.Core.Path.{◌≡◌, refl, sym, ap, ◌∙◌}
use mathlib.Core.List.{List, [], ◌∷◌, ◌++◌, append_assoc, append-nil}
use Prim.Native.Nat.{ℕ, ◌+◌, ◌-◌, ◌≤◌}
use native.Mathlib.Omega.{arith}
use native.Mathlib.Nat.{not-suc-le-zero, le_of_suc-le-suc, add_assoc}
use lib.ListN.{length, take, drop, set, length-append, length-take, length-drop, take-append-drop, drop_of_length-le}
use lib.Seq.{take-append_seam, take_at, drop_at, drop-drop, length-take-le, take_all}
use borrow.Rule.Slice.PartMut.{put_mid}
use Rattle.rows.specs.Laid.{laid}

-- stores at 0, 1 and 2 lay a row of one, two, three
pub laid1 : (a : ℕ) (l : List ℕ) → 1 ≤ length l → set l 0 a ≡ laid (a ∷ []) l
laid1 a [] h = absurd (not-suc-le-zero h)
laid1 a (x ∷ l) h = refl

pub laid2 : (a b : ℕ) (l : List ℕ) → 2 ≤ length l → set (set l 0 a) 1 b ≡ laid (a ∷ b ∷ []) l
laid2 a b [] h = absurd (not-suc-le-zero h)
laid2 a b (x ∷ []) h = absurd (not-suc-le-zero (le_of_suc-le-suc h))
laid2 a b (x ∷ y ∷ l) h = refl

pub laid3 : (a b c : ℕ) (l : List ℕ) → 3 ≤ length l → set (set (set l 0 a) 1 b) 2 c ≡ laid (a ∷ b ∷ c ∷ []) l
laid3 a b c [] h = absurd (not-suc-le-zero h)
laid3 a b c (x ∷ []) h = absurd (not-suc-le-zero (le_of_suc-le-suc h))
laid3 a b c (x ∷ y ∷ []) h = absurd (not-suc-le-zero (le_of_suc-le-suc (le_of_suc-le-suc h)))
laid3 a b c (x ∷ y ∷ z ∷ l) h = refl

-- what a writer of up to three cells shows at each end: the row is laid
module _ (row l : List ℕ) where
  pub wrote_none : row ≡ [] → l ≡ laid row l
  wrote_none e = rw e refl

  module _ (room : length row ≤ length l) where
    pub wrote_one : (a : ℕ) → row ≡ a ∷ [] → set l 0 a ≡ laid row l
    wrote_one a e = let k : 1 ≤ length l = omega (arith, ap length e) in rw e (laid1 a l k)

    pub wrote_two : (a b : ℕ) → row ≡ a ∷ b ∷ [] → set (set l 0 a) 1 b ≡ laid row l
    wrote_two a b e = let k : 2 ≤ length l = omega (arith, ap length e) in rw e (laid2 a b l k)

    pub wrote_three : (a b c : ℕ) → row ≡ a ∷ b ∷ c ∷ [] → set (set (set l 0 a) 1 b) 2 c ≡ laid row l
    wrote_three a b c e = let k : 3 ≤ length l = omega (arith, ap length e) in rw e (laid3 a b c l k)

pub length_laid : (row l : List ℕ) → length row ≤ length l → length (laid row l) ≡ length l
length_laid row l h = simp (length-append, length-drop) (omega arith)

-- a row laid from n, then one laid behind it, is the two laid at once
pub laid_step :
    (l : List ℕ) (n : ℕ) (a b : List ℕ) → n ≤ length l →
    take (n + length a) (take n l ++ laid a (drop n l)) ++ laid b (drop (n + length a) (take n l ++ laid a (drop n l)))
    ≡ take n l ++ laid (a ++ b) (drop n l)
laid_step l n a b h =
    let e : length (take n l ++ a) ≡ n + length a = length-append (take n l) a ∙ ap (λ (k : ℕ). k + length a) (length-take-le n l h) in
    let s : take n l ++ laid a (drop n l) ≡ (take n l ++ a) ++ drop (length a) (drop n l) = sym (append_assoc (take n l) a (drop (length a) (drop n l))) in
    rw (s, take_at (take n l ++ a) (drop (length a) (drop n l)) (n + length a) e, drop_at (take n l ++ a) (drop (length a) (drop n l)) (n + length a) e)
    (simp (append_assoc, length-append, drop-drop, add_assoc))

-- nothing left to lay: the slice as it is
pub laid_none : (l : List ℕ) (n : ℕ) → take n l ++ laid [] (drop n l) ≡ l
laid_none l n = take-append-drop n l

-- what a writer that was lent `&mut out[n..]` left in the part is laid behind n elements of the whole
pub laid_part : (l : List ℕ) (n : ℕ) (a ys : List ℕ) → n + length a ≤ length l → ys ≡ laid a (take (length l - n) (drop n l))
    → put_mid n (length l - n) l ys ≡ take n l ++ laid a (drop n l)
laid_part l n a ys room wrote =
    let part_is : take (length l - n) (drop n l) ≡ drop n l = take_all (length l - n) (drop n l) (rw length-drop (omega arith)) in
    let none_left : drop (length l - n) (drop n l) ≡ [] = drop_of_length-le (drop n l) {i = length l - n} (rw length-drop (omega arith)) in
    rw (wrote, part_is, none_left, append-nil)

-- What a loop that lends `&mut out[n..]` to the writer of one sign has at the end of a turn. l is the lent row at the turn's start,
-- ys what the writer left in the part, a the sign's cells and b those still to come.
module _ (l : List ℕ) (n : ℕ) (a b ys : List ℕ) (r : ℕ) (room : n + length (a ++ b) ≤ length l)
    (count : r ≡ length a) (wrote : ys ≡ laid a (take (length l - n) (drop n l))) where
  fits : n + length a + length b ≤ length l
  fits = omega (arith, length-append a b)

  back : put_mid n (length l - n) l ys ≡ take n l ++ laid a (drop n l)
  back = laid_part l n a ys (omega (arith, fits)) wrote

  pub turn_length : length (put_mid n (length l - n) l ys) ≡ length l
  turn_length = rw back (simp (length-append, length-take-le n l (omega (arith, fits)), length-drop) (omega (arith, fits)))

  pub turn_row : take (n + r) (put_mid n (length l - n) l ys) ++ laid b (drop (n + r) (put_mid n (length l - n) l ys)) ≡ take n l ++ laid (a ++ b) (drop n l)
  turn_row = rw (count, back) (laid_step l n a b (omega (arith, fits)))

  pub turn_count : n + r + length b ≡ n + length (a ++ b)
  turn_count = omega (arith, length-append a b)

-- what a sign is lent has room for it
pub turn_room : (l : List ℕ) (n : ℕ) (a b : List ℕ) → n + length (a ++ b) ≤ length l → length a ≤ length (take (length l - n) (drop n l))
turn_room l n a b room = simp (length-take, length-drop) (omega (arith, length-append a b))

-- where nothing is left to lay, the count and the row are whole
pub turn_end : (l l₀ : List ℕ) (n : ℕ) (row all : List ℕ) → row ≡ [] → n + length row ≡ length all
    → take n l ++ laid row (drop n l) ≡ laid all l₀ → (n ≡ length all) × (l ≡ laid all l₀)
turn_end l l₀ n row all e count is =
    (omega (arith, ap length e), sym (laid_none l n) ∙ ap (λ (r : List ℕ). take n l ++ laid r (drop n l)) (sym e) ∙ is)

-- the front of what was laid is the row
pub front : (row l new : List ℕ) (k : ℕ) → k ≡ length row → new ≡ laid row l → take k new ≡ row
front row l new k e f = rw (e, f) (take-append_seam row (drop (length row) l))
