-- Table 3-7 by the first byte. The lines stand in the order of their first bytes, so a first byte passes over the lines before its own, and those behind
-- its own cannot have it. In order: lines passed over; a byte of a line (`line_is`); a byte of none (`gap_is`). Assumes nothing.
use mathlib.Core.Bool.{Bool, false, cond}
use mathlib.Core.List.{List, [], ◌∷◌, ◌++◌}
use mathlib.Core.Path.{◌≡◌, refl, ap, ◌∙◌}
use Prim.Native.Nat.{ℕ, zero, suc, ◌-◌, ◌≤◌, ◌<◌}
use native.Mathlib.Omega.{arith}
use lib.Dec.{T, leb, ltb, leb→le, ltb→lt}
use lib.ListN.{length}
use borrow.Author.Tests.{le-leb, lt-leb}
use Rattle.rules.proofs.Finite.{every, and_left, and_right, and_false}
use Rattle.sequences.specs.Forms.{Form, forms, ◌to◌, begin, mark_of}
use Rattle.sequences.specs.Points.{length_in}
use Rattle.sequences.specs.Leads.{later_form, room_of, Begun}

-- all first bytes of a line are below n; all are above n
abbrev pub ends_below : ℕ → Form → Bool
ends_below n [] = false
ends_below n (r ∷ f) = ltb r.1 n

abbrev pub starts_above : ℕ → Form → Bool
starts_above n [] = false
starts_above n (r ∷ f) = ltb n r.0

pub passed : (fs gs : List Form) (n b : ℕ) (bs : List ℕ) → T (every (ends_below n) fs) → n ≤ b → length_in (fs ++ gs) (b ∷ bs) ≡ length_in gs (b ∷ bs)
passed [] gs n b bs t h = refl
passed ([] ∷ fs) gs n b bs t h = absurd t
passed ((r ∷ f) ∷ fs) gs n b bs t h =
    let below : r.1 < n = ltb→lt r.1 n (and_left (ltb r.1 n) (every (ends_below n) fs) t) in
    rw (lt-leb b r.1 (omega (arith, below, h)), and_false (leb r.0 b)) (passed fs gs n b bs (and_right (ltb r.1 n) (every (ends_below n) fs) t) h)

pub not_in : (fs : List Form) (n b : ℕ) (bs : List ℕ) → T (every (starts_above n) fs) → b ≤ n → length_in fs (b ∷ bs) ≡ 0
not_in [] n b bs t h = refl
not_in ([] ∷ fs) n b bs t h = absurd t
not_in ((r ∷ f) ∷ fs) n b bs t h =
    let above : n < r.0 = ltb→lt n r.0 (and_left (ltb n r.0) (every (starts_above n) fs) t) in
    rw (lt-leb r.0 b (omega (arith, above, h))) (not_in fs n b bs (and_right (ltb n r.0) (every (starts_above n) fs) t) h)

-- a byte of a line, between lines that end below it and lines that start above it
pub line_is : (fs gs : List Form) (f : Form) (low high b : ℕ) (bs : List ℕ) → T (every (ends_below low) fs) → T (every (starts_above high) gs)
    → low ≤ b → b ≤ high → length_in (fs ++ (low to high ∷ f) ∷ gs) (b ∷ bs) ≡ cond (begin f bs) (suc (length f)) 0
line_is fs gs f low high b bs t u l h =
    passed fs ((low to high ∷ f) ∷ gs) low b bs t l
    ∙ rw (le-leb low b l, le-leb b high h) (ap (λ (n : ℕ). cond (begin f bs) (suc (length f)) n) (not_in gs high b bs u h))

-- a byte between two lines
pub gap_is : (fs gs : List Form) (low high b : ℕ) (bs : List ℕ) → T (every (ends_below low) fs) → T (every (starts_above high) gs) → low ≤ b → b ≤ high
    → length_in (fs ++ gs) (b ∷ bs) ≡ 0
gap_is fs gs low high b bs t u l h = passed fs gs low b bs t l ∙ not_in gs high b bs u h

pub length_later : (n low high : ℕ) → length (later_form n low high) ≡ n
length_later zero low high = refl
length_later (suc n) low high = ap suc (length_later n 0x80 0xbf)

-- WHAT A LINE SAYS of its first bytes, from `from` to `last`. What is asked of the numbers alone is computed where this is cited.
pub begun : (fs gs : List Form) (n low high mark from last b : ℕ) → forms ≡ fs ++ (from to last ∷ later_form n low high) ∷ gs
    → T (every (ends_below from) fs) → T (every (starts_above last) gs) → from ≤ b → b ≤ last
    → T (leb n 3) → T (leb 0x80 low) → T (leb high 0xbf) → mark ≡ mark_of (suc n) → T (leb mark from) → T (ltb (last - mark) (room_of n))
    → Begun b n low high mark
begun fs gs n low high mark from last b e t u l h few lowest highest marked above room = record {
  sequence = λ bs. ap (λ (x : List Form). length_in x (b ∷ bs)) e
      ∙ line_is fs gs (later_form n low high) from last b bs t u l h
      ∙ ap (λ (k : ℕ). cond (begin (later_form n low high) bs) (suc k) 0) (length_later n low high);
  marked = marked;
  above = omega (arith, leb→le mark from above, l);
  fitting = record {
    few = leb→le n 3 few;
    lowest = leb→le 0x80 low lowest;
    highest = leb→le high 0xbf highest;
    room = omega (arith, ltb→lt (last - mark) (room_of n) room, h, l);
  };
}
