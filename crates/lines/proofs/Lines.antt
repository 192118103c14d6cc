-- The lines of an input, byte by byte, are those of the paper's sentence. One way by induction over the bytes, with the unfinished line in front of them; the
-- other way lines with their ends are cut into these lines, whatever stands behind. Assumes nothing.
use mathlib.Core.List.{List, [], ◌∷◌, ◌++◌, append_assoc, append-nil}
use mathlib.Core.Logic.{⊎_elim}
use mathlib.Core.Path.{◌≡◌, refl, sym, ◌∙◌}
use Prim.Native.Nat.{ℕ}
use native.Mathlib.Omega.{arith}
use Rattle.lines.specs.Lines.{line_end, last_line, lines_from, lines_of, NoEndIn, NoEndInAny, with_ends, AreLines, all_end_in_10, last_ends_with_the_input}
use Rattle.lines.proofs.Ends.{end_or_not, lines_end, lines_on}

no_end_append : (s t : List ℕ) → NoEndIn s → NoEndIn t → NoEndIn (s ++ t)
no_end_append [] t p q = q
no_end_append (b ∷ s) t p q = (p.0, no_end_append s t p.1 q)

-- a line and its end before lines of what is behind it
are_cons : (l r : List ℕ) (ls : List (List ℕ)) → NoEndIn l → AreLines r ls → AreLines (l ++ line_end ∷ r) (l ∷ ls)
are_cons l r ls p (all_end_in_10 ms q e) = all_end_in_10 (l ∷ ms) (p, q) (rw e)
are_cons l r ls p (last_ends_with_the_input ms last q z some e) =
    last_ends_with_the_input (l ∷ ms) last (p, q) z some (rw e (sym (append_assoc l (line_end ∷ with_ends ms) last)))

not_nil : (b : ℕ) (bs : List ℕ) → b ∷ bs ≡ [] → ⊥
not_nil b bs e = let z : ◌≡◌ {A = ℕ} 0 1 = cc in omega arith

-- what the end of the input makes of the unfinished line
last_are : (s : List ℕ) → NoEndIn s → AreLines s (last_line s)
last_are [] p = all_end_in_10 [] tt refl
last_are (b ∷ s) p = last_ends_with_the_input [] (b ∷ s) tt p (not_nil b s) refl

pub from_are : (bytes s : List ℕ) → NoEndIn s → AreLines (s ++ bytes) (lines_from s bytes)
from_are [] s p = rw append-nil (last_are s p)
from_are (b ∷ bs) s p =
    ⊎_elim
    (λ e. rw (lines_end b bs e s, e) (are_cons s bs (lines_from [] bs) p (from_are bs [] tt)))
    (λ n. rw (lines_on b bs n s) (rw append_assoc at (from_are bs (s ++ b ∷ []) (no_end_append s (b ∷ []) p (n, tt)))))
    (end_or_not b)

-- an unfinished line, then bytes without an end, then an end; then none
from_line : (l s r : List ℕ) → NoEndIn l → lines_from s (l ++ line_end ∷ r) ≡ (s ++ l) ∷ lines_from [] r
from_line [] s r p = rw append-nil (lines_end line_end r refl s)
from_line (b ∷ l) s r p = lines_on b (l ++ line_end ∷ r) p.0 s ∙ rw (from_line l (s ++ b ∷ []) r p.1, append_assoc)

from_last : (l s : List ℕ) → NoEndIn l → lines_from s l ≡ last_line (s ++ l)
from_last [] s p = rw append-nil
from_last (b ∷ l) s p = lines_on b l p.0 s ∙ rw (from_last l (s ++ b ∷ []) p.1, append_assoc)

of_ends : (ls : List (List ℕ)) (r : List ℕ) → NoEndInAny ls → lines_of (with_ends ls ++ r) ≡ ls ++ lines_of r
of_ends [] r p = refl
of_ends (l ∷ ls) r p = rw (append_assoc l (line_end ∷ with_ends ls) r, from_line l [] (with_ends ls ++ r) p.0, of_ends ls r p.1)

last_some : (l : List ℕ) → (l ≡ [] → ⊥) → last_line l ≡ l ∷ []
last_some [] some = absurd (some refl)
last_some (b ∷ l) some = refl

-- whatever lines an input has, they are these
pub lines_only : (input : List ℕ) (ls : List (List ℕ)) → AreLines input ls → lines_of input ≡ ls
lines_only input ls (all_end_in_10 ms p e) =
    let h : lines_of (with_ends ms ++ []) ≡ ms ++ [] = of_ends ms [] p in
    rw e (rw (append-nil (with_ends ms)) at (rw (append-nil ms) at h))
lines_only input ls (last_ends_with_the_input ms last p q some e) =
    rw (e, of_ends ms last p, from_last last [] q, last_some last some)
