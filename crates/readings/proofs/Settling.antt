-- Which piece the rules' reader finds at a place of a row, from a mode and the first cells. In order: the pieces that a mode takes (`cands`), and the first of them
-- that fits; that only those that begin with the cell at hand count (`bucket_picks`); what settles it (`settle`), and what that means (`settled`). No clause names a
-- sign. Assumes nothing.
use mathlib.Core.Path.{◌≡◌, refl, sym, ◌∙◌, ap, subst}
use mathlib.Core.Bool.{Bool, true, false, ◌&&◌, not, cond}
use mathlib.Core.List.{List, [], ◌∷◌}
use mathlib.Core.Option.{Option, none, some}
use Prim.Native.Nat.{ℕ, ◌+◌, ◌<◌}
use lib.Dec.{T, eqb, ltb, eqb→eq, ltb→lt}
use lib.ListN.{length}
use Rattle.rules.specs.Cells.{Row}
use Rattle.rules.specs.Pairs.{kinds, Opens, mark_of, may_stand, mark_fits, fits}
use Rattle.rules.specs.Places.{class_at}
use Rattle.rules.proofs.Finite.{every, and_left, and_right, and_both, and_false, false_of}
use Rattle.rules.proofs.States.{Mode}
use Rattle.rules.proofs.Enumerations.{mode_number}
use Rattle.rules.proofs.Machine.{step, lead_of}
use Rattle.rules.proofs.Pieces.{Piece, word}
use Rattle.rules.proofs.Reader.{Look, look_of, match, goes, hit, find}
use Rattle.pairs.specs.Opened.{open_states, opens_of, is_open, turned_by}
use Rattle.pairs.proofs.Pairing.{open_is}
use Rattle.readings.specs.Fields.{no_cell}
use Rattle.readings.specs.Readings as reading
use Rattle.readings.specs.Readings.{Reading, reads, a_mark, opener_of, closer_of, a_step, step_of}
use Rattle.readings.specs.declared.Step.{Step}
use Rattle.std.specs.declared.option.Option as rust
use Rattle.std.specs.Prelude.{Some, None}
use Rattle.readings.proofs.Sight.{Agree, low, says, says_match}

-- A PIECE THAT A MODE TAKES, with the mode after it
abbrev pub Cand : Type 0
Cand = Piece × Mode

unfoldable pub cands : Mode → List Piece → List Cand
cands m [] = []
cands m (s ∷ ss) = elim (step m s.0 (class_at s.1)) [ none ↦ cands m ss | some n ↦ (s, n) ∷ cands m ss ]

-- the first that fits
unfoldable pub pick : Opens → Row → List Cand → Option Cand
pick o r [] = none
pick o r (c ∷ cs) = cond (fits o c.0.1.1 && match (word c.0) r (look_of c.1)) (some c) (pick o r cs)

skipped : (b : Bool) (x : Option Cand) (c : Cand) → b ≡ false → cond b (some c) x ≡ x
skipped true x c e = absurd (subst T e tt)
skipped false x c e = refl

pub find_picks : (m : Mode) (o : Opens) (r : Row) (ss : List Piece) → find ss m o r ≡ pick o r (cands m ss)
unfolding find cands pick goes hit
find_picks m o r [] = refl
find_picks m o r (s ∷ ss) = go (step m s.0 (class_at s.1)) (fits o s.1.1) refl (find_picks m o r ss)
  where
    go : (x : Option Mode) (b : Bool) → fits o s.1.1 ≡ b → find ss m o r ≡ pick o r (cands m ss)
        → ◌≡◌ {A = Option Cand} (elim (hit (cond b x none) (word s) r) as (λ _. Option Cand) [ none ↦ find ss m o r | some n ↦ some (s, n) ])
        (pick o r (elim x as (λ _. List Cand) [ none ↦ cands m ss | some n ↦ (s, n) ∷ cands m ss ]))
    go none true e ih = ih
    go none false e ih = ih
    go (some n) true e ih = rw e (at (match (word s) r (look_of n)))
      where
        at : (c : Bool) → ◌≡◌ {A = Option Cand} (elim (cond c (some n) none) as (λ _. Option Cand) [ none ↦ find ss m o r | some k ↦ some (s, k) ])
            (cond c (some (s, n)) (pick o r (cands m ss)))
        at true = refl
        at false = ih
    go (some n) false e ih = rw e ih

-- ONLY THOSE THAT BEGIN WITH THE CELL AT HAND COUNT
abbrev first : Row → ℕ
first [] = no_cell
first (a ∷ w) = a

unfoldable pub bucket : ℕ → List Piece → List Piece
bucket x [] = []
bucket x (s ∷ ss) = elim (eqb (first (word s)) x) [ true ↦ s ∷ bucket x ss | false ↦ bucket x ss ]

-- a word has a cell, and its cells are cells
unfoldable pub sound_word : Row → Bool
sound_word [] = false
sound_word (a ∷ w) = every low (a ∷ w)

pub sound_low : (w : Row) → T (sound_word w) → T (every low w)
unfolding sound_word
sound_low [] t = absurd t
sound_low (a ∷ w) t = t

first_differs : (w : Row) (l : Look) (x : ℕ) (r : Row) → T (sound_word w) → Agree (x ∷ []) r → eqb (first w) x ≡ false → match w r l ≡ false
unfolding sound_word says
first_differs [] l x r t a e = absurd t
first_differs (c ∷ w) l x r t a e = says_match (c ∷ w) l (x ∷ []) r false t a (go (eqb c x) e)
  where
    go : (b : Bool) → b ≡ false → ◌≡◌ {A = Option Bool} (elim b as (λ _. Option Bool) [ true ↦ says w l [] | false ↦ some false ]) (some false)
    go true e = absurd (subst T e tt)
    go false e = refl

pub bucket_picks : (m : Mode) (o : Opens) (x : ℕ) (r : Row) (ss : List Piece) → T (every (λ (s : Piece). sound_word (word s)) ss) → Agree (x ∷ []) r
    → pick o r (cands m ss) ≡ pick o r (cands m (bucket x ss))
unfolding cands pick bucket
bucket_picks m o x r [] t a = refl
bucket_picks m o x r (s ∷ ss) t a =
    go (eqb (first (word s)) x) refl (bucket_picks m o x r ss (and_right (sound_word (word s)) (every (λ (q : Piece). sound_word (word q)) ss) t) a)
  where
    u : T (sound_word (word s))
    u = and_left (sound_word (word s)) (every (λ (q : Piece). sound_word (word q)) ss) t

    kept : (y : Option Mode) → pick o r (cands m ss) ≡ pick o r (cands m (bucket x ss))
        → pick o r (elim y as (λ _. List Cand) [ none ↦ cands m ss | some n ↦ (s, n) ∷ cands m ss ])
        ≡ pick o r (elim y as (λ _. List Cand) [ none ↦ cands m (bucket x ss) | some n ↦ (s, n) ∷ cands m (bucket x ss) ])
    kept none ih = ih
    kept (some n) ih = ap (λ (z : Option Cand). cond (fits o s.1.1 && match (word s) r (look_of n)) (some (s, n)) z) ih

    left_out : eqb (first (word s)) x ≡ false → (y : Option Mode)
        → pick o r (elim y as (λ _. List Cand) [ none ↦ cands m ss | some n ↦ (s, n) ∷ cands m ss ]) ≡ pick o r (cands m ss)
    left_out e none = refl
    left_out e (some n) =
        skipped (fits o s.1.1 && match (word s) r (look_of n)) (pick o r (cands m ss)) (s, n)
        (ap (λ (b : Bool). fits o s.1.1 && b) (first_differs (word s) (look_of n) x r u a e) ∙ and_false (fits o s.1.1))

    go : (b : Bool) → eqb (first (word s)) x ≡ b → pick o r (cands m ss) ≡ pick o r (cands m (bucket x ss))
        → pick o r (cands m (s ∷ ss)) ≡ pick o r (cands m (elim b as (λ _. List Piece) [ true ↦ s ∷ bucket x ss | false ↦ bucket x ss ]))
    go true e ih = kept (step m s.0 (class_at s.1)) ih
    go false e ih = left_out e (step m s.0 (class_at s.1)) ∙ ih

-- WHAT SETTLES IT. A candidate as a step: what it shows, the place after it, the mode and the open pairs.
abbrev pub opened_by : ℕ → Option (ℕ × Bool) → ℕ
opened_by o none = o
opened_by o (some k) = turned_by o k.0

abbrev pub step_by : ℕ → ℕ → Option Cand → rust.Option Step
step_by at o none = None
step_by at o (some c) =
    Some (a_step (lead_of c.0.0) c.0.1.0 (at + length (word c.0)) (mode_number c.1) (opened_by o (mark_of c.0.1.1)))

-- the candidate shows this, has so many cells, and leads to this mode
abbrev like : Cand → ℕ → ℕ → ℕ → ℕ → Bool
like c l p w m = eqb (lead_of c.0.0) l && (eqb c.0.1.0 p && (eqb (length (word c.0)) w && eqb (mode_number c.1) m))

abbrev same_mark : ℕ → Bool → Option (ℕ × Bool) → Bool
same_mark k true none = false
same_mark k true (some a) = eqb a.0 k && a.1
same_mark k false none = false
same_mark k false (some a) = eqb a.0 k && not a.1

-- the first that fits is the closer of this kind
unfoldable pub closes : List ℕ → ℕ → ℕ → List Cand → Bool
unfolding closer_of
closes known k w [] = false
closes known k w (c ∷ cs) =
    elim (says (word c.0) (look_of c.1) known) [
      | none ↦ false
      | some b ↦ elim b [ true ↦ same_mark k false (mark_of c.0.1.1) && like c 0 (closer_of k) w 0 | false ↦ closes known k w cs ]
    ]

-- the first that fits is what is read; where it is an opener, its closer comes next
abbrev reads_it : List ℕ → Cand → List Cand → Option (ℕ × Bool) → Reading → Bool
reads_it known c cs a reading.nothing = false
reads_it known c cs none (reads l p w m) = like c l p w m
reads_it known c cs (some a) (reads l p w m) = false
reads_it known c cs none (a_mark k w) = false
reads_it known c cs (some a) (a_mark k w) =
    same_mark k true (some a) && (ltb k kinds && (like c 0 (opener_of k) w 0 && closes known k w cs))

abbrev is_nothing : Reading → Bool
is_nothing reading.nothing = true
is_nothing (reads l p w m) = false
is_nothing (a_mark k w) = false

unfoldable pub settle : List ℕ → List Cand → Reading → Bool
unfolding closes opener_of closer_of
settle known [] x = is_nothing x
settle known (c ∷ cs) x =
    elim (says (word c.0) (look_of c.1) known) [
      | none ↦ false
      | some b ↦ elim b [ true ↦ reads_it known c cs (mark_of c.0.1.1) x | false ↦ settle known cs x ]
    ]

-- WHAT IT MEANS
abbrev Sound : List Cand → Bool
Sound cs = every (λ (c : Cand). sound_word (word c.0)) cs

pub cands_sound : (m : Mode) (ss : List Piece) → T (every (λ (s : Piece). sound_word (word s)) ss) → T (Sound (cands m ss))
unfolding cands
cands_sound m [] t = tt
cands_sound m (s ∷ ss) t =
    go (step m s.0 (class_at s.1)) (cands_sound m ss (and_right (sound_word (word s)) (every (λ (q : Piece). sound_word (word q)) ss) t))
  where
    go : (x : Option Mode) → T (Sound (cands m ss)) → T (Sound (elim x as (λ _. List Cand) [ none ↦ cands m ss | some n ↦ (s, n) ∷ cands m ss ]))
    go none ih = ih
    go (some n) ih = and_both (sound_word (word s)) (Sound (cands m ss)) (and_left (sound_word (word s)) (every (λ (q : Piece). sound_word (word q)) ss) t) ih

pub bucket_sound : (x : ℕ) (ss : List Piece) → T (every (λ (s : Piece). sound_word (word s)) ss) → T (every (λ (s : Piece). sound_word (word s)) (bucket x ss))
unfolding bucket
bucket_sound x [] t = tt
bucket_sound x (s ∷ ss) t = go (eqb (first (word s)) x) (bucket_sound x ss (and_right (sound_word (word s)) (every (λ (q : Piece). sound_word (word q)) ss) t))
  where
    go : (b : Bool) → T (every (λ (q : Piece). sound_word (word q)) (bucket x ss))
        → T (every (λ (q : Piece). sound_word (word q)) (elim b as (λ _. List Piece) [ true ↦ s ∷ bucket x ss | false ↦ bucket x ss ]))
    go true ih =
        and_both (sound_word (word s)) (every (λ (q : Piece). sound_word (word q)) (bucket x ss))
        (and_left (sound_word (word s)) (every (λ (q : Piece). sound_word (word q)) ss) t) ih
    go false ih = ih

pub is_true : (b : Bool) → T b → b ≡ true
is_true true t = refl
is_true false t = absurd t

taken : (b d : Bool) (x : Option Cand) (c : Cand) → b ≡ true → d ≡ true → cond (b && d) (some c) x ≡ some c
taken true true x c e f = refl
taken true false x c e f = absurd (subst T (sym f) tt)
taken false d x c e f = absurd (subst T (sym e) tt)

-- a candidate that is like it, as a step
like_step : (c : Cand) (l p w m at o u : ℕ) → T (like c l p w m) → opened_by o (mark_of c.0.1.1) ≡ u → step_by at o (some c) ≡ Some (a_step l p (at + w) m u)
like_step c l p w m at o u t e =
    let a : lead_of c.0.0 ≡ l = eqb→eq (lead_of c.0.0) l (and_left (eqb (lead_of c.0.0) l) _ t) in
    let t1 = and_right (eqb (lead_of c.0.0) l) (eqb c.0.1.0 p && (eqb (length (word c.0)) w && eqb (mode_number c.1) m)) t in
    let b : c.0.1.0 ≡ p = eqb→eq c.0.1.0 p (and_left (eqb c.0.1.0 p) _ t1) in
    let t2 = and_right (eqb c.0.1.0 p) (eqb (length (word c.0)) w && eqb (mode_number c.1) m) t1 in
    let d : length (word c.0) ≡ w = eqb→eq (length (word c.0)) w (and_left (eqb (length (word c.0)) w) _ t2) in
    let f : mode_number c.1 ≡ m = eqb→eq (mode_number c.1) m (and_right (eqb (length (word c.0)) w) (eqb (mode_number c.1) m) t2) in
    cc (a, b, d, f, e)

-- the mark of this kind and side
mark_is : (k : ℕ) (b : Bool) (x : Option (ℕ × Bool)) → T (same_mark k b x) → x ≡ some (k, b)
mark_is k true none t = absurd t
mark_is k true (some a) t =
    let e : a.0 ≡ k = eqb→eq a.0 k (and_left (eqb a.0 k) a.1 t) in
    let f : a.1 ≡ true = is_true a.1 (and_right (eqb a.0 k) a.1 t) in
    λ i. some (e i, f i)
mark_is k false none t = absurd t
mark_is k false (some a) t =
    let e : a.0 ≡ k = eqb→eq a.0 k (and_left (eqb a.0 k) (not a.1) t) in
    let f : a.1 ≡ false = false_of a.1 (and_right (eqb a.0 k) (not a.1) t) in
    λ i. some (e i, f i)

module _ (known : List ℕ) (r : Row) (at o : ℕ) (few : o < open_states) (agree : Agree known r) where
  abbrev Here : Cand → List Cand → Bool → Type 0
  Here c cs b = says (word c.0) (look_of c.1) known ≡ some b

  matched : (c : Cand) (cs : List Cand) (b : Bool) → T (Sound (c ∷ cs)) → Here c cs b → match (word c.0) r (look_of c.1) ≡ b
  matched c cs b u e =
      says_match (word c.0) (look_of c.1) known r b (sound_low (word c.0) (and_left (sound_word (word c.0)) (Sound cs) u)) agree e

  missed : (c : Cand) (cs : List Cand) → T (Sound (c ∷ cs)) → Here c cs false → pick (opens_of o) r (c ∷ cs) ≡ pick (opens_of o) r cs
  unfolding pick
  missed c cs u e =
      skipped (fits (opens_of o) c.0.1.1 && match (word c.0) r (look_of c.1)) (pick (opens_of o) r cs) c
      (ap (λ (b : Bool). fits (opens_of o) c.0.1.1 && b) (matched c cs false u e) ∙ and_false (fits (opens_of o) c.0.1.1))

  barred : (c : Cand) (cs : List Cand) → fits (opens_of o) c.0.1.1 ≡ false → pick (opens_of o) r (c ∷ cs) ≡ pick (opens_of o) r cs
  unfolding pick
  barred c cs e =
      skipped (fits (opens_of o) c.0.1.1 && match (word c.0) r (look_of c.1)) (pick (opens_of o) r cs) c
      (ap (λ (b : Bool). b && match (word c.0) r (look_of c.1)) e)

  hits : (c : Cand) (cs : List Cand) → T (Sound (c ∷ cs)) → Here c cs true → fits (opens_of o) c.0.1.1 ≡ true → pick (opens_of o) r (c ∷ cs) ≡ some c
  unfolding pick
  hits c cs u e f = taken (fits (opens_of o) c.0.1.1) (match (word c.0) r (look_of c.1)) (pick (opens_of o) r cs) c f (matched c cs true u e)

  tail : (c : Cand) (cs : List Cand) → T (Sound (c ∷ cs)) → T (Sound cs)
  tail c cs u = and_right (sound_word (word c.0)) (Sound cs) u

  mark_fits_lem : (c : Cand) (k : ℕ) (b x : Bool) → k < kinds → mark_of c.0.1.1 ≡ some (k, b) → is_open o k ≡ x
      → fits (opens_of o) c.0.1.1 ≡ may_stand b x
  unfolding fits
  mark_fits_lem c k b x l e f = ap (mark_fits (opens_of o)) e ∙ ap (may_stand b) (open_is o k few l ∙ f)

  -- the closer
  closed_here : (k w : ℕ) → k < kinds → is_open o k ≡ true → (cs : List Cand) → T (Sound cs) → T (closes known k w cs)
      → step_by at o (pick (opens_of o) r cs) ≡ Some (a_step 0 (closer_of k) (at + w) 0 (turned_by o k))
  unfolding closes
  closed_here k w l opened [] u t = absurd t
  closed_here k w l opened (c ∷ cs) u t = go (says (word c.0) (look_of c.1) known) refl t (closed_here k w l opened cs (tail c cs u))
    where
      go : (x : Option Bool) → says (word c.0) (look_of c.1) known ≡ x
          → T (elim x as (λ _. Bool) [
            | none ↦ false
            | some b ↦ elim b as (λ _. Bool) [ true ↦ same_mark k false (mark_of c.0.1.1) && like c 0 (closer_of k) w 0 | false ↦ closes known k w cs ]
          ])
          → (T (closes known k w cs) → step_by at o (pick (opens_of o) r cs) ≡ Some (a_step 0 (closer_of k) (at + w) 0 (turned_by o k)))
          → step_by at o (pick (opens_of o) r (c ∷ cs)) ≡ Some (a_step 0 (closer_of k) (at + w) 0 (turned_by o k))
      go none e t ih = absurd t
      go (some true) e t ih =
          let q : mark_of c.0.1.1 ≡ some (k, false) = mark_is k false (mark_of c.0.1.1) (and_left (same_mark k false (mark_of c.0.1.1)) (like c 0 (closer_of k) w 0) t) in
          ap (step_by at o) (hits c cs u e (mark_fits_lem c k false true l q opened))
          ∙ like_step c 0 (closer_of k) w 0 at o (turned_by o k) (and_right (same_mark k false (mark_of c.0.1.1)) (like c 0 (closer_of k) w 0) t) (ap (opened_by o) q)
      go (some false) e t ih = ap (step_by at o) (missed c cs u e) ∙ ih t

  -- a candidate that fits
  fitted : (c : Cand) (cs : List Cand) → T (Sound (c ∷ cs)) → Here c cs true → (a : Option (ℕ × Bool)) → mark_of c.0.1.1 ≡ a → (x : Reading)
      → T (reads_it known c cs a x) → step_by at o (pick (opens_of o) r (c ∷ cs)) ≡ step_of at o x
  unfolding fits
  fitted c cs u e none q reading.nothing t = absurd t
  fitted c cs u e (some a) q reading.nothing t = absurd t
  fitted c cs u e none q (reads l p w m) t =
      ap (step_by at o) (hits c cs u e (ap (mark_fits (opens_of o)) q)) ∙ like_step c l p w m at o o t (ap (opened_by o) q)
  fitted c cs u e (some a) q (reads l p w m) t = absurd t
  fitted c cs u e none q (a_mark k w) t = absurd t
  fitted c cs u e (some a) q (a_mark k w) t =
      let rest1 : Bool = like c 0 (opener_of k) w 0 && closes known k w cs in
      let z : mark_of c.0.1.1 ≡ some (k, true) = q ∙ mark_is k true (some a) (and_left (same_mark k true (some a)) (ltb k kinds && rest1) t) in
      let t1 : T (ltb k kinds && rest1) = and_right (same_mark k true (some a)) (ltb k kinds && rest1) t in
      let l : k < kinds = ltb→lt k kinds (and_left (ltb k kinds) rest1 t1) in
      let t2 : T rest1 = and_right (ltb k kinds) rest1 t1 in
      go l z (and_left (like c 0 (opener_of k) w 0) (closes known k w cs) t2) (and_right (like c 0 (opener_of k) w 0) (closes known k w cs) t2) (is_open o k) refl
    where
      go : k < kinds → mark_of c.0.1.1 ≡ some (k, true) → T (like c 0 (opener_of k) w 0) → T (closes known k w cs) → (x : Bool) → is_open o k ≡ x
          → step_by at o (pick (opens_of o) r (c ∷ cs)) ≡ Some (a_step 0 (cond x (closer_of k) (opener_of k)) (at + w) 0 (turned_by o k))
      go l z h g true f =
          ap (step_by at o) (barred c cs (mark_fits_lem c k true true l z f)) ∙ closed_here k w l f cs (tail c cs u) g
      go l z h g false f =
          ap (step_by at o) (hits c cs u e (mark_fits_lem c k true false l z f)) ∙ like_step c 0 (opener_of k) w 0 at o (turned_by o k) h (ap (opened_by o) z)

  pub settled : (cs : List Cand) (x : Reading) → T (Sound cs) → T (settle known cs x) → step_by at o (pick (opens_of o) r cs) ≡ step_of at o x
  unfolding settle pick
  settled [] reading.nothing u t = refl
  settled [] (reads l p w m) u t = absurd t
  settled [] (a_mark k w) u t = absurd t
  settled (c ∷ cs) x u t = go (says (word c.0) (look_of c.1) known) refl t (settled cs x (tail c cs u))
    where
      go : (y : Option Bool) → says (word c.0) (look_of c.1) known ≡ y
          → T (elim y as (λ _. Bool) [
            | none ↦ false
            | some b ↦ elim b as (λ _. Bool) [ true ↦ reads_it known c cs (mark_of c.0.1.1) x | false ↦ settle known cs x ]
          ])
          → (T (settle known cs x) → step_by at o (pick (opens_of o) r cs) ≡ step_of at o x) → step_by at o (pick (opens_of o) r (c ∷ cs)) ≡ step_of at o x
      go none e t ih = absurd t
      go (some true) e t ih = fitted c cs u e (mark_of c.0.1.1) refl x t
      go (some false) e t ih = ap (step_by at o) (missed c cs u e) ∙ ih t
