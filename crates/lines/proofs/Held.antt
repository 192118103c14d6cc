-- A part put behind what a room holds, and the turns of `take_in`. A part put in after another is the two put in at once (`keeps_on`); so what is taken in from
-- a place is the byte there and what is taken in from the next (`takes_byte`). Assumes nothing.
use mathlib.Core.Bool.{Bool, true, false}
use mathlib.Core.List.{List, [], ◌∷◌, ◌++◌, append_assoc}
use mathlib.Core.Logic.{⊎_elim, ◌↔◌}
use mathlib.Core.Path.{◌≡◌, refl, sym, ap, ◌∙◌}
use Prim.Native.Nat.{ℕ, zero, suc, ◌+◌, ◌-◌, ◌≤◌, ◌<◌, min}
use native.Mathlib.Numerals.{add-one}
use native.Mathlib.Omega.{arith}
use lib.Dec.{ltb}
use borrow.Author.Tests.{ltb-true, ltb-false, lt-ltb, le-ltb}
use lib.ListN.{length, take, drop, set, get_or, length-append, length-take, length-drop, take-append-drop, drop_of_length-le}
use lib.Seq.{take-length, take-take, take_at, take_all, drop-cons, drop-drop}
use Rattle.std.proofs.Common.{Bor}
use Rattle.std.specs.Prelude.{Option, Some, None}
use Rattle.std.specs.Option.{UnwrapsOrElse}
use Rattle.std.specs.Slice.{IsGetRangeResult}
use Rattle.rows.specs.Laid.{laid}
use Rattle.lines.specs.Lines.{line_end}
use Rattle.lines.specs.Held.{part_of, passed, held_by, filled, Keeps, TakesIn, Moves, Holds, is_long}
use Rattle.lines.specs.declared.Taken.{Taken}
use Rattle.lines.proofs.Ends.{end_or_not, part_end, ends_end, passed_end, part_on, ends_on, passed_on}

-- THE ROOM
pub filled_none : (l : List ℕ) (n : ℕ) → filled l n [] ≡ l
filled_none l n = rw (take-append-drop n l) (take-length l)

pub length_filled : (l : List ℕ) (n : ℕ) (a : List ℕ) → length (filled l n a) ≡ length l
length_filled l n a = simp (length-take, length-append, length-drop) (omega arith)

pub filled_one : (l : List ℕ) (n b : ℕ) → set l n b ≡ filled l n (b ∷ [])
filled_one [] n b = refl
filled_one (x ∷ l) zero b = ap (λ (r : List ℕ). b ∷ r) (sym (filled_none l 0))
filled_one (x ∷ l) (suc n) b = ap (λ (r : List ℕ). x ∷ r) (filled_one l n b)

held_suc : (n m k : ℕ) → held_by (suc n) (suc m) k ≡ suc (held_by n m k)
held_suc n m k = omega arith

held_next : (m k : ℕ) → held_by 0 (suc m) (suc k) ≡ suc (held_by 0 m k)
held_next m k = omega arith

held_none : (n m : ℕ) → held_by n m 0 ≡ n
held_none n m = omega arith

pub filled_append : (l : List ℕ) (n : ℕ) (a b : List ℕ) → filled (filled l n a) (held_by n (length l) (length a)) b ≡ filled l n (a ++ b)
filled_append [] n a b = refl
filled_append (x ∷ l) zero [] b = rw (held_none 0 (length (x ∷ l))) (ap (λ (r : List ℕ). filled r 0 b) (filled_none (x ∷ l) 0))
filled_append (x ∷ l) zero (c ∷ a) b = rw (held_next (length l) (length a)) (ap (λ (r : List ℕ). c ∷ r) (filled_append l 0 a b))
filled_append (x ∷ l) (suc n) a b = rw (held_suc n (length l) (length a)) (ap (λ (r : List ℕ). x ∷ r) (filled_append l n a b))

-- A PART AND WHAT KEEPING IT LEAVES
pub keeps_none : (l : List ℕ) (n : ℕ) → Keeps l n [] n l
keeps_none l n = record { count = sym (held_none n (length l)); stored = sym (filled_none l n) }

pub keeps_length : (l : List ℕ) (n : ℕ) (a : List ℕ) (h : ℕ) (k : List ℕ) → Keeps l n a h k → length k ≡ length l
keeps_length l n a h k p = ap length p.stored ∙ length_filled l n a

pub keeps_on : (l : List ℕ) (n : ℕ) (a : List ℕ) (h : ℕ) (k : List ℕ) (b : List ℕ) (g : ℕ) (new : List ℕ) → Keeps l n a h k → Keeps k h b g new
    → Keeps l n (a ++ b) g new
keeps_on l n a h k b g new p q =
    let e = keeps_length l n a h k p in
    let count : g ≡ held_by n (length l) (length (a ++ b)) = omega (arith, p.count, q.count, length-append a b) in
    let stored : new ≡ filled l n (a ++ b) =
    q.stored ∙ ap (λ (m : ℕ). filled k m b) p.count ∙ ap (λ (r : List ℕ). filled r (held_by n (length l) (length a)) b) p.stored ∙ filled_append l n a b in
    record { count = count; stored = stored }

-- THE END OF `hold` where there is room: the byte is stored
pub hold_there : (l : List ℕ) (n b : ℕ) → n < length l → Keeps l n (b ∷ []) (n + 1) (set l n b)
hold_there l n b h = record { count = omega arith; stored = filled_one l n b }

-- THE ENDS AND TURNS OF `take_in`, whose loop goes over the bytes from a place on: none left; a line end; another byte
rest_from : (bytes : List ℕ) (from : ℕ) (r : Option (Bor (List ℕ))) (rest : Bor (List ℕ)) → IsGetRangeResult bytes from (length bytes) r
    → UnwrapsOrElse r (λ x. x.now ≡ []) rest → rest.now ≡ drop from bytes
rest_from bytes from None rest g e = e ∙ sym (drop_of_length-le bytes {i = from} (⊎_elim (λ h. omega (arith, h)) (λ h. absurd (omega (arith, h))) g.0))
rest_from bytes from (Some x) rest g e = ap (λ (y : Bor (List ℕ)). y.now) e ∙ g.0.2 ∙ take_all (length bytes - from) (drop from bytes) (omega (arith, length-drop from bytes))

module _ (bytes : List ℕ) (from : ℕ) (r : Option (Bor (List ℕ))) (left : Bor (List ℕ)) (got : IsGetRangeResult bytes from (length bytes) r)
    (or_none : UnwrapsOrElse r (λ x. x.now ≡ []) left) (k : ℕ) (room : List ℕ) (held : ℕ) where
  abbrev rest : List ℕ
  rest = left.now

  is : rest ≡ drop from bytes
  is = rest_from bytes from r left got or_none

  left_is : (i : ℕ) → drop i rest ≡ drop (from + i) bytes
  left_is i = rw is (drop-drop i from bytes)

  pub takes_none : length rest ≤ k → k ≤ length rest → TakesIn bytes (from + k) room held (record { next = from + length rest; held = held; ended = false }) room
  takes_none h l =
      let e : drop (from + k) bytes ≡ [] = sym (left_is k) ∙ drop_of_length-le rest {i = k} h in
      record {
        next = rw e (omega (arith, h, l));
        ended = rw e;
        keeps = rw e (keeps_none room held);
      }

  module _ (some : k < length rest) where
    left_more : drop (from + k) bytes ≡ get_or rest k 0 ∷ drop (from + (k + 1)) bytes
    left_more = sym (left_is k) ∙ drop-cons rest k 0 some ∙ ap (λ (t : List ℕ). get_or rest k 0 ∷ t) (rw (add-one k) (left_is (suc k)))

    pub takes_end : get_or rest k 0 ≡ line_end → TakesIn bytes (from + k) room held (record { next = from + k + 1; held = held; ended = true }) room
    takes_end e = record {
      next = rw (left_more, passed_end (get_or rest k 0) (drop (from + (k + 1)) bytes) e);
      ended = rw (left_more, ends_end (get_or rest k 0) (drop (from + (k + 1)) bytes) e);
      keeps = rw (left_more, part_end (get_or rest k 0) (drop (from + (k + 1)) bytes) e) (keeps_none room held);
    }

    pub takes_byte : (get_or rest k 0 ≡ line_end → ⊥) → (h : ℕ) (kept : List ℕ) → Keeps room held (get_or rest k 0 ∷ []) h kept
        → (t : Taken) (new : List ℕ) → TakesIn bytes (from + (k + 1)) kept h t new → TakesIn bytes (from + k) room held t new
    takes_byte n h kept q t new p = record {
      next = rw (left_more, passed_on (get_or rest k 0) (drop (from + (k + 1)) bytes) n) (omega (arith, p.next));
      ended = rw (left_more, ends_on (get_or rest k 0) (drop (from + (k + 1)) bytes) n) p.ended;
      keeps =
          rw (left_more, part_on (get_or rest k 0) (drop (from + (k + 1)) bytes) n)
          (keeps_on room held (get_or rest k 0 ∷ []) h kept (part_of (drop (from + (k + 1)) bytes)) t.held new q p.keeps);
    }

-- WHAT OF THE PROMISE A LOOP NEEDS: of some bytes at least one is passed, and never more than there are
passed_le : (bs : List ℕ) → passed bs ≤ length bs
passed_le [] = omega arith
passed_le (b ∷ bs) =
    ⊎_elim (λ e. rw (passed_end b bs e) (omega arith)) (λ n. rw (passed_on b bs n) (omega (arith, passed_le bs))) (end_or_not b)

passed_some : (bs : List ℕ) → min 1 (length bs) ≤ passed bs
passed_some [] = omega arith
passed_some (b ∷ bs) = ⊎_elim (λ e. rw (passed_end b bs e) (omega arith)) (λ n. rw (passed_on b bs n) (omega arith)) (end_or_not b)

module _ (bytes : List ℕ) (from : ℕ) (room : List ℕ) (held : ℕ) (t : Taken) (new : List ℕ) (p : TakesIn bytes from room held t new) where
  pub moves_of : Moves bytes from room t new
  moves_of =
      let few = passed_le (drop from bytes) in
      let some = passed_some (drop from bytes) in
      let left = length-drop from bytes in
      record {
        on = omega (arith, p.next);
        within = omega (arith, p.next);
        same = keeps_length room held (part_of (drop from bytes)) t.held new p.keeps;
      }

-- ONE OUTCOME
pub taken_same :
    (bytes : List ℕ) (from : ℕ) (room : List ℕ) (held : ℕ) (t u : Taken) (new old : List ℕ)
    → TakesIn bytes from room held t new → TakesIn bytes from room held u old → (t ≡ u) × (new ≡ old)
taken_same bytes from room held t u new old p q =
    let next : t.next ≡ u.next = p.next ∙ sym q.next in
    let ended : t.ended ≡ u.ended = p.ended ∙ sym q.ended in
    let count : t.held ≡ u.held = p.keeps.count ∙ sym q.keeps.count in
    (λ i. record { next = next i; held = count i; ended = ended i }, p.keeps.stored ∙ sym q.keeps.stored)

-- WHAT A ROOM SHOWS
pub holds_none : (room : List ℕ) → Holds [] room 0
holds_none room = record { count = omega arith; front = λ h. refl }

pub holds_part : (line room part new : List ℕ) (held h : ℕ) → Holds line room held → Keeps room held part h new → Holds (line ++ part) new h
holds_part line room part new held h p q =
    let size = length-append line part in
    let same = keeps_length room held part h new q in
    record {
      count = omega (arith, p.count, q.count);
      front = λ few.
          let short : length line ≤ length room = omega arith in
          let all : length line ≡ held = omega (arith, p.count) in
          let now : length (line ++ part) ≡ h = omega (arith, p.count, q.count) in
          let behind = drop (length part) (drop held room) in
          let shown : filled room held part ≡ take (length room) (line ++ part ++ behind) =
          ap (λ (l : List ℕ). take (length room) (l ++ laid part (drop held room))) (p.front short) ∙ ap (take (length room)) (sym (append_assoc line part behind)) in
          ap (take h) (q.stored ∙ shown) ∙ take-take h (length room) (line ++ part ++ behind) (omega arith) ∙ take_at (line ++ part) behind h now;
    }

pub long_same : (line room : List ℕ) (held : ℕ) → Holds line room held → is_long room held ≡ ltb (length room) (length line)
long_same line room held p = go (ltb (length room) held) refl
  where
    go : (b : Bool) → ltb (length room) held ≡ b → b ≡ ltb (length room) (length line)
    go true e = sym (lt-ltb (length room) (length line) (omega (arith, p.count, ltb-true (length room) held e)))
    go false e = sym (le-ltb (length room) (length line) (omega (arith, p.count, ltb-false (length room) held e)))

pub held_line : (line room : List ℕ) (held : ℕ) → Holds line room held → is_long room held ≡ false → take held room ≡ line
held_line line room held p e = p.front (omega (arith, p.count, ltb-false (length room) held e))

pub held_empty : (line room : List ℕ) (held : ℕ) → Holds line room held → (held ≡ 0) ↔ (line ≡ [])
held_empty [] room held p = (λ e. refl, λ e. omega (arith, p.count))
held_empty (b ∷ line) room held p = (λ e. absurd (omega (arith, p.count)), λ e. omega (arith, p.count, ap length e))
