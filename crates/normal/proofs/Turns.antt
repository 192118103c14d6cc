-- The loop that copies print, by what is still to come: behind place i it has the normalised print of the rest, d telling whether a digit stands directly before. A
-- turn takes what the code point at i becomes off its front (`normal_turn`), and at the end nothing is left (`normal_end`). So between two turns the text, with the
-- normalised print of the rest laid behind what is written, is the text as it is to be in the end (`Copying`). Assumes nothing.
use mathlib.Core.Path.{◌≡◌, refl, sym, ap, ◌∙◌}
use mathlib.Core.Bool.{Bool, false}
use mathlib.Core.List.{List, [], ◌++◌}
use Prim.Native.Nat.{ℕ, ◌+◌, ◌-◌, ◌≤◌, ◌<◌}
use native.Mathlib.Nat.{zero-add}
use native.Mathlib.Numerals.{add-one}
use native.Mathlib.Omega.{arith}
use lib.ListN.{length, take, drop, get_or, drop_of_length-le}
use lib.Seq.{drop-cons}
use borrow.Rule.Slice.PartMut.{put_mid}
use Rattle.rules.specs.Cells.{Text}
use Rattle.rules.specs.Normal.{is_digit_point, becomes, normal_after, normal_of}
use Rattle.rows.specs.Laid.{laid}
use Rattle.rows.proofs.Laid.{turn_room, turn_length, turn_row, turn_count, turn_end}

module _ (p : Text) (i : ℕ) (d : Bool) where
  pub normal_turn : i < length p → normal_after d (drop i p) ≡ becomes d (get_or p i 0) ++ normal_after (is_digit_point (get_or p i 0)) (drop (i + 1) p)
  unfolding normal_after
  normal_turn h = rw (add-one, drop-cons p i 0)

  pub normal_end : length p ≤ i → normal_after d (drop i p) ≡ []
  unfolding normal_after
  normal_end h = rw (drop_of_length-le p h)

-- what the text, d, n and i are between two turns
pub record Copying (print text₀ text : List ℕ) (d : Bool) (n i : ℕ) : Type 0 where
  pub same : length text ≡ length text₀
  pub count : n + length (normal_after d (drop i print)) ≡ length (normal_of print)
  pub laid_on : take n text ++ laid (normal_after d (drop i print)) (drop n text) ≡ laid (normal_of print) text₀

module _ (print text₀ : List ℕ) where
  pub copying_start : Copying print text₀ text₀ false 0 0
  unfolding normal_of
  copying_start = record { same = refl; count = zero-add _; laid_on = refl }

  module _ (text : List ℕ) (d : Bool) (n i : ℕ) (m : Copying print text₀ text d n i) (room₀ : length (normal_of print) ≤ length text₀) where
    module _ (l : i < length print) where
      -- the code point at hand, and what is still to come
      abbrev here : Text
      here = becomes d (get_or print i 0)

      abbrev rest : Text
      rest = normal_after (is_digit_point (get_or print i 0)) (drop (i + 1) print)

      text_is : normal_after d (drop i print) ≡ here ++ rest
      text_is = normal_turn print i d l

      fits : n + length (here ++ rest) ≤ length text
      fits = omega (arith, ap length text_is, m.count, m.same)

      -- what the writer of the code point is lent has room for it
      pub copying_room : length here ≤ length (take (length text - n) (drop n text))
      copying_room = turn_room text n here rest fits

      pub copying_on : (r : ℕ) (left : List ℕ) (b : Bool) → r ≡ length here → left ≡ laid here (take (length text - n) (drop n text))
          → b ≡ is_digit_point (get_or print i 0) → Copying print text₀ (put_mid n (length text - n) text left) b (n + r) (i + 1)
      copying_on r left b count wrote is_b =
          rw is_b (record {
            same = turn_length text n here rest left r fits count wrote ∙ m.same;
            count = turn_count text n here rest left r fits count wrote ∙ ap (λ (x : Text). n + length x) (sym text_is) ∙ m.count;
            laid_on = turn_row text n here rest left r fits count wrote ∙ ap (λ (x : Text). take n text ++ laid x (drop n text)) (sym text_is) ∙ m.laid_on;
          })

    pub copying_end : length print ≤ i → (n ≡ length (normal_of print)) × (text ≡ laid (normal_of print) text₀)
    copying_end l = turn_end text text₀ n _ (normal_of print) (normal_end print i d l) m.count m.laid_on
