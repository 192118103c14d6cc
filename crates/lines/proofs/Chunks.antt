-- An input by chunks. A chunk in front of other bytes has the lines that end in it, and then those of what it leaves unfinished and the rest (`lines_append`);
-- so the division into chunks does not matter. A chunk is cut at its first line end, or not at all (`cut_ended`, `cut_left`): so a call of `take_in` is one
-- cut of it. Assumes nothing.
use mathlib.Core.Bool.{true, false}
use mathlib.Core.List.{List, [], ◌∷◌, ◌++◌, append_assoc, append-nil}
use mathlib.Core.Logic.{⊎_elim}
use mathlib.Core.Path.{◌≡◌, refl, sym, ◌∙◌}
use Prim.Native.Nat.{ℕ}
use native.Mathlib.Omega.{arith}
use lib.ListN.{length, drop, drop_of_length-le}
use lib.Seq.{drop-drop}
use Rattle.lines.specs.Lines.{lines_from}
use Rattle.lines.specs.Held.{part_of, ends_in, passed, TakesIn}
use Rattle.lines.specs.Chunks.{add_line, cut_all, lines_by_chunks, joined}
use Rattle.lines.specs.declared.Taken.{Taken}
use Rattle.lines.proofs.Ends.{end_or_not, lines_end, cut_end, part_end, ends_end, passed_end, lines_on, cut_on, part_on, ends_on, passed_on}

-- a chunk in front of other bytes
pub lines_append : (c r s : List ℕ) → lines_from s (c ++ r) ≡ (cut_all s c).lines ++ lines_from (cut_all s c).rest r
lines_append [] r s = refl
lines_append (b ∷ c) r s =
    ⊎_elim
    (λ e. rw (lines_end b (c ++ r) e s, cut_end b c e s, lines_append c r []))
    (λ n. rw (lines_on b (c ++ r) n s, cut_on b c n s) (lines_append c r (s ++ b ∷ [])))
    (end_or_not b)

pub chunks_from : (cs : List (List ℕ)) (s : List ℕ) → lines_by_chunks s cs ≡ lines_from s (joined cs)
chunks_from [] s = refl
chunks_from (c ∷ cs) s = rw (chunks_from cs (cut_all s c).rest) (sym (lines_append c (joined cs) s))

not_both : {B : Type 0} → false ≡ true → B
not_both e = let z : ◌≡◌ {A = ℕ} 0 1 = cc in absurd (omega arith)

-- cut at the first line end
cut_ended : (bs s : List ℕ) → ends_in bs ≡ true → cut_all s bs ≡ add_line (s ++ part_of bs) (cut_all [] (drop (passed bs) bs))
cut_ended [] s h = not_both h
cut_ended (b ∷ bs) s h =
    ⊎_elim
    (λ e. rw (cut_end b bs e s, passed_end b bs e, part_end b bs e, append-nil))
    (λ n.
    rw (cut_on b bs n s, passed_on b bs n, part_on b bs n)
    (rw append_assoc at (cut_ended bs (s ++ b ∷ []) (sym (ends_on b bs n) ∙ h))))
    (end_or_not b)

-- no line end: all is passed, and left
part_all : (bs : List ℕ) → ends_in bs ≡ false → part_of bs ≡ bs
part_all [] h = refl
part_all (b ∷ bs) h =
    ⊎_elim (λ e. not_both (sym h ∙ ends_end b bs e)) (λ n. rw (part_on b bs n, part_all bs (sym (ends_on b bs n) ∙ h))) (end_or_not b)

passed_all : (bs : List ℕ) → ends_in bs ≡ false → passed bs ≡ length bs
passed_all bs h = rw (h, part_all bs h) (omega arith)

cut_left : (bs s : List ℕ) → ends_in bs ≡ false → cut_all s bs ≡ record { lines = []; rest = s ++ part_of bs }
cut_left [] s h = rw append-nil
cut_left (b ∷ bs) s h =
    ⊎_elim (λ e. not_both (sym h ∙ ends_end b bs e))
    (λ n. rw (cut_on b bs n s, part_on b bs n) (rw append_assoc at (cut_left bs (s ++ b ∷ []) (sym (ends_on b bs n) ∙ h))))
    (end_or_not b)

-- what is behind a call
module _ (bytes : List ℕ) (from : ℕ) (room : List ℕ) (held : ℕ) (t : Taken) (new : List ℕ) (p : TakesIn bytes from room held t new) where
  behind : drop t.next bytes ≡ drop (passed (drop from bytes)) (drop from bytes)
  behind = rw p.next (sym (drop-drop (passed (drop from bytes)) from bytes))

  pub turn_ends : t.ended ≡ true → (s : List ℕ) → cut_all s (drop from bytes) ≡ add_line (s ++ part_of (drop from bytes)) (cut_all [] (drop t.next bytes))
  turn_ends h s = rw behind (cut_ended (drop from bytes) s (sym p.ended ∙ h))

  pub turn_leaves : t.ended ≡ false
      → (drop t.next bytes ≡ []) × ((s : List ℕ) → cut_all s (drop from bytes) ≡ record { lines = []; rest = s ++ part_of (drop from bytes) })
  turn_leaves h =
      let n : ends_in (drop from bytes) ≡ false = sym p.ended ∙ h in (
        behind ∙ drop_of_length-le (drop from bytes) {i = passed (drop from bytes)} (omega (arith, passed_all (drop from bytes) n)),
        λ s. cut_left (drop from bytes) s n,
      )
