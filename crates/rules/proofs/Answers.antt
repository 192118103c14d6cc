-- The answers: every print, row and step has one, and one only. For each there is a function that computes it (`answer`, `reading`); what the
-- function gives is allowed, and what is allowed is what it gives. The first needs nothing of the table, the others that it is sane.
-- Assumes nothing.
use mathlib.Core.Path.{◌≡◌, refl, sym, ◌∙◌, ap, subst}
use mathlib.Core.Logic.{◌⊎◌, inl, inr, ⊎_elim}
use mathlib.Core.Bool.{Bool, true, false, cond}
use mathlib.Core.List.{[], ◌∷◌}
use mathlib.Core.Option.{Option, none, some}
use Prim.Native.Nat.{ℕ, zero, suc, ◌*◌, ◌≤◌, ◌<◌}
use native.Mathlib.Nat.{le_of_suc-le-suc, not-suc-le-zero}
use native.Mathlib.Omega.{arith}
use lib.Dec.{T, leb, leb→le, le→leb}
use lib.ListN.{length, get_or}
use Rattle.rules.specs.Cells.{Text, Row, last_cell}
use Rattle.rules.specs.Sorts.{Table}
use Rattle.rules.specs.Normal.{normal_of}
use Rattle.rules.specs.Places.{Cause, lacks_sign, breaks_pair, outside_form, shares_cells}
use Rattle.rules.specs.Rows.{Reads, Accepted, Fault, FirstFault, Faultless, LeftOpen, Verdict, good, bad, verdict_of, signs_of}
use Rattle.rules.specs.Refusals.{Refusal, too_long, at_fault, needs_room, not_a_cell, no_text, longest_text, longest_row, reported}
use Rattle.rules.specs.Answers.{Answer, gives, refuses, PrintRefused, refused_too_long, no_sign, pair_broken, left_open, refused_outside_form, refused_shares_cells, row_needs_room, PrintAnswer, print_refused, transcribed, ProperRow, RowRefused, long_row, refused_not_a_cell, refused_no_text, long_text, ReadsAs, RowAnswer, row_refused, text_needs_room, read}
use Rattle.rules.specs.Screen.{sign_at, shown_by, StepAnswer, shows, stays, Stepped, stepped, stayed}
use Rattle.rules.specs.Demands.{EveryPrintAnswered, EveryRowAnswered, EveryStepAnswered, OnePrintAnswer, OneRowAnswer, OneStepAnswer, RefusedExactly, ReadsBack, NoTextExactly, VerdictMeans}
use Rattle.rules.proofs.Finite.{nothing, le_or_lt}
use Rattle.rules.proofs.Rows.{whole_row, reads_good, good_reads, verdict_is_least, row_exactly, one_fault_each}
use Rattle.rules.proofs.Profile.{Sane, decode, reads_back, reads_right}
use Rattle.rules.proofs.Signs.{cells_of_text, three_cells_each}

-- a test on numbers, by the order
unfoldable pub choose : {A : Type 0} → ℕ → ℕ → A → A → A
choose m n x y = cond (leb m n) x y

pub choose_le : {A : Type 0} (m n : ℕ) (x y : A) → m ≤ n → choose m n x y ≡ x
unfolding choose
choose_le m n x y l = go (leb m n) (le→leb m n l)
  where
    go : (b : Bool) → T b → cond b x y ≡ x
    go true t = refl
    go false t = absurd t

pub choose_lt : {A : Type 0} (m n : ℕ) (x y : A) → n < m → choose m n x y ≡ y
unfolding choose
choose_lt m n x y l = go (leb m n) refl
  where
    go : (b : Bool) → leb m n ≡ b → cond b x y ≡ y
    go true e = absurd (let h : m ≤ n = leb→le m n (subst T (sym e) tt) in omega arith)
    go false e = refl

-- PRINT. The verdict is the first fault, or that something is left open.
abbrev pub by_verdict : Verdict → Row → ℕ → Answer
by_verdict good r room = choose (length r) room (gives r) (refuses (needs_room (length r)))
by_verdict (bad c n) r room = refuses (at_fault c n)

module _ (tb : Table) where
  one_first : (t : Text) (m n : ℕ) (c d : Cause) → FirstFault tb t m c → FirstFault tb t n d → bad c m ≡ bad d n
  one_first t m n c d f g =
      ⊎_elim
      (λ l. ⊎_elim
      (λ k. let e : m ≡ n = omega arith in
      ap (bad c) e ∙ ap (λ (x : Cause). bad x n) (one_fault_each tb t n c d (subst (λ (i : ℕ). Fault tb t i c) e f.there) g.there))
      (λ k. absurd (g.least m k c f.there)) (le_or_lt n m))
      (λ l. absurd (f.least n l d g.there)) (le_or_lt m n)

  first_verdict : (t : Text) (n : ℕ) (c : Cause) → FirstFault tb t n c → verdict_of tb t ≡ bad c n
  first_verdict t n c f = go (verdict_of tb t) refl (verdict_is_least tb t)
    where
      go : (v : Verdict) → verdict_of tb t ≡ v → VerdictMeans tb t v → verdict_of tb t ≡ bad c n
      go good e h = absurd (((row_exactly tb t).0 h).0 n c f.there)
      go (bad d m) e (inl g) = e ∙ one_first t m n d c g f
      go (bad d m) e (inr g) = absurd (g.2 n c f.there)

  open_verdict : (t : Text) → Faultless tb t → LeftOpen tb t → verdict_of tb t ≡ bad breaks_pair (length t)
  open_verdict t f o = go (verdict_of tb t) refl (verdict_is_least tb t)
    where
      go : (v : Verdict) → verdict_of tb t ≡ v → VerdictMeans tb t v → verdict_of tb t ≡ bad breaks_pair (length t)
      go good e h = absurd (((row_exactly tb t).0 h).1 o)
      go (bad c n) e (inl g) = absurd (f n c g.there)
      go (bad c n) e (inr g) = e ∙ ap (λ (x : Cause). bad x n) g.0 ∙ ap (bad breaks_pair) g.1

  -- the answer, computed
  unfoldable pub answer : Text → ℕ → Answer
  answer p room =
      choose (length (normal_of p)) longest_text (by_verdict (verdict_of tb (normal_of p)) (whole_row tb (normal_of p)) room)
      (refuses (too_long (reported (length (normal_of p)))))

  refused_by : (t : Text) (room n : ℕ) (c : Cause) → length t ≤ longest_text → FirstFault tb t n c → PrintRefused tb t room (at_fault c n)
  refused_by t room n lacks_sign l f = no_sign n l f
  refused_by t room n breaks_pair l f = pair_broken n l f
  refused_by t room n outside_form l f = refused_outside_form n l f
  refused_by t room n shares_cells l f = refused_shares_cells n l f

  pub answered : (p : Text) (room : ℕ) → PrintAnswer tb p room (answer p room)
  unfolding answer
  answered p room =
      ⊎_elim
      (λ l. subst (PrintAnswer tb p room) (sym (choose_le (length t) longest_text (by_verdict (verdict_of tb t) (whole_row tb t) room) _ l))
      (short l (verdict_of tb t) (verdict_is_least tb t) refl))
      (λ l. subst (PrintAnswer tb p room) (sym (choose_lt (length t) longest_text (by_verdict (verdict_of tb t) (whole_row tb t) room) _ l))
      (print_refused _ (refused_too_long l)))
      (le_or_lt (length t) longest_text)
    where
      t : Text
      t = normal_of p

      short : length (normal_of p) ≤ longest_text → (v : Verdict) → VerdictMeans tb (normal_of p) v → verdict_of tb (normal_of p) ≡ v
          → PrintAnswer tb p room (by_verdict v (whole_row tb (normal_of p)) room)
      short l good h e =
          ⊎_elim
          (λ k. subst (PrintAnswer tb p room) (sym (choose_le _ _ _ _ k)) (transcribed (whole_row tb (normal_of p)) l (good_reads tb (normal_of p) e) k))
          (λ k. subst (PrintAnswer tb p room) (sym (choose_lt _ _ _ _ k)) (print_refused _ (row_needs_room (whole_row tb (normal_of p)) l (good_reads tb (normal_of p) e) k)))
          (le_or_lt (length (whole_row tb (normal_of p))) room)
      short l (bad c n) (inl f) e = print_refused _ (refused_by (normal_of p) room n c l f)
      short l (bad c n) (inr f) e =
          subst (λ (x : Cause). PrintAnswer tb p room (refuses (at_fault x n))) (sym f.0)
          (subst (λ (m : ℕ). PrintAnswer tb p room (refuses (at_fault breaks_pair m))) (sym f.1) (print_refused _ (left_open l f.2 f.3)))

  -- a short text's answer is by its verdict
  pub short_answer : (p : Text) (room : ℕ) (v : Verdict) → length (normal_of p) ≤ longest_text → verdict_of tb (normal_of p) ≡ v
      → answer p room ≡ by_verdict v (whole_row tb (normal_of p)) room
  unfolding answer
  short_answer p room v l e =
      choose_le (length (normal_of p)) longest_text (by_verdict (verdict_of tb (normal_of p)) (whole_row tb (normal_of p)) room) _ l
      ∙ ap (λ (u : Verdict). by_verdict u (whole_row tb (normal_of p)) room) e

  read_answer : (p : Text) (room : ℕ) (r : Row) → length (normal_of p) ≤ longest_text → Reads tb r (normal_of p)
      → answer p room ≡ choose (length r) room (gives r) (refuses (needs_room (length r)))
  read_answer p room r l e =
      let h = reads_good tb r (normal_of p) e in
      short_answer p room good l h.0 ∙ ap (λ (x : Row). choose (length x) room (gives x) (refuses (needs_room (length x)))) h.1

  pub allowed_answer : (p : Text) (room : ℕ) (a : Answer) → PrintAnswer tb p room a → answer p room ≡ a
  unfolding answer
  allowed_answer p room a (print_refused x (refused_too_long l)) =
      choose_lt (length (normal_of p)) longest_text (by_verdict (verdict_of tb (normal_of p)) (whole_row tb (normal_of p)) room) _ l
  allowed_answer p room a (print_refused x (no_sign n l f)) = short_answer p room _ l (first_verdict (normal_of p) n lacks_sign f)
  allowed_answer p room a (print_refused x (pair_broken n l f)) = short_answer p room _ l (first_verdict (normal_of p) n breaks_pair f)
  allowed_answer p room a (print_refused x (left_open l f o)) = short_answer p room _ l (open_verdict (normal_of p) f o)
  allowed_answer p room a (print_refused x (refused_outside_form n l f)) = short_answer p room _ l (first_verdict (normal_of p) n outside_form f)
  allowed_answer p room a (print_refused x (refused_shares_cells n l f)) = short_answer p room _ l (first_verdict (normal_of p) n shares_cells f)
  allowed_answer p room a (print_refused x (row_needs_room r l e k)) = read_answer p room r l e ∙ choose_lt (length r) room (gives r) _ k
  allowed_answer p room a (transcribed r l e k) = read_answer p room r l e ∙ choose_le (length r) room (gives r) _ k

  pub every_print_answered : EveryPrintAnswered tb
  every_print_answered p room = (answer p room, answered p room)

  pub one_print_answer : OnePrintAnswer tb
  one_print_answer p room a b h k = sym (allowed_answer p room a h) ∙ allowed_answer p room b k

  -- DEMAND 2, refusals
  abbrev Excused : Text → ℕ → Type 0
  Excused p room =
      (longest_text < length (normal_of p))
      ⊎ ((Accepted tb (normal_of p) → ⊥) ⊎ ((r : Row) × Reads tb r (normal_of p) × (room < length r)))

  excused : (p : Text) (room : ℕ) (x : Refusal) → PrintRefused tb (normal_of p) room x → Excused p room
  excused p room x (refused_too_long l) = inl l
  excused p room x (no_sign n l f) = inr (inl (λ h. ((row_exactly tb (normal_of p)).0 h).0 n lacks_sign f.there))
  excused p room x (pair_broken n l f) = inr (inl (λ h. ((row_exactly tb (normal_of p)).0 h).0 n breaks_pair f.there))
  excused p room x (left_open l f o) = inr (inl (λ h. ((row_exactly tb (normal_of p)).0 h).1 o))
  excused p room x (refused_outside_form n l f) = inr (inl (λ h. ((row_exactly tb (normal_of p)).0 h).0 n outside_form f.there))
  excused p room x (refused_shares_cells n l f) = inr (inl (λ h. ((row_exactly tb (normal_of p)).0 h).0 n shares_cells f.there))
  excused p room x (row_needs_room r l e k) = inr (inr (r, e, k))

  not_given : (p : Text) (room : ℕ) (r : Row) → Excused p room → PrintAnswer tb p room (gives r) → ⊥
  not_given p room r (inl l) (transcribed s k e h) = omega arith
  not_given p room r (inr (inl none_reads)) (transcribed s k e h) = none_reads (s, e)
  not_given p room r (inr (inr x)) (transcribed s k e h) =
      let z : x.0 ≡ s = sym (reads_good tb x.0 (normal_of p) x.1).1 ∙ (reads_good tb s (normal_of p) e).1 in
      let l : room < length x.0 = x.2 in
      omega (arith, ap length z)

  pub refused_exactly : RefusedExactly tb
  refused_exactly p room = (there, λ x. back x (answer p room) (answered p room))
    where
      there : (x : Refusal) × PrintAnswer tb p room (refuses x) → Excused p room
      there h = go h.0 h.1
        where
          go : (x : Refusal) → PrintAnswer tb p room (refuses x) → Excused p room
          go x (print_refused y k) = excused p room y k

      back : Excused p room → (a : Answer) → PrintAnswer tb p room a → (x : Refusal) × PrintAnswer tb p room (refuses x)
      back x (gives r) h = absurd (not_given p room r x h)
      back x (refuses y) h = (y, h)

-- A ROW. The first byte that is no cell.
abbrev up : Option ℕ → Option ℕ
up none = none
up (some n) = some (suc n)

unfoldable pub first_high : Row → Option ℕ
first_high [] = none
first_high (c ∷ r) = choose c last_cell (up (first_high r)) (some 0)

abbrev HighMeans : Row → Option ℕ → Type 0
HighMeans r none = (n : ℕ) → n < length r → get_or r n 0 ≤ last_cell
HighMeans r (some n) = (n < length r) × (last_cell < get_or r n 0) × ((m : ℕ) → m < n → get_or r m 0 ≤ last_cell)

high_cons : (c : ℕ) (r : Row) (x : Option ℕ) → c ≤ last_cell → HighMeans r x → HighMeans (c ∷ r) (up x)
high_cons c r none l h = go
  where
    go : (n : ℕ) → n < length (c ∷ r) → get_or (c ∷ r) n 0 ≤ last_cell
    go zero k = l
    go (suc n) k = h n (le_of_suc-le-suc k)
high_cons c r (some n) l h = (omega (arith, h.0), h.1, go)
  where
    go : (m : ℕ) → m < suc n → get_or (c ∷ r) m 0 ≤ last_cell
    go zero k = l
    go (suc m) k = h.2 m (le_of_suc-le-suc k)

high_means : (r : Row) → HighMeans r (first_high r)
unfolding first_high
high_means [] = λ n l. absurd (not-suc-le-zero l)
high_means (c ∷ r) = go (le_or_lt c last_cell) (high_means r)
  where
    go : (c ≤ last_cell) ⊎ (last_cell < c) → HighMeans r (first_high r) → HighMeans (c ∷ r) (choose c last_cell (up (first_high r)) (some 0))
    go (inl l) h = subst (HighMeans (c ∷ r)) (sym (choose_le c last_cell (up (first_high r)) (some 0) l)) (high_cons c r (first_high r) l h)
    go (inr l) h =
        subst (HighMeans (c ∷ r)) (sym (choose_lt c last_cell (up (first_high r)) (some 0) l)) (omega arith, l, λ m k. absurd (not-suc-le-zero k))

-- what is so is found
high_none : (r : Row) → HighMeans r none → first_high r ≡ none
high_none r h = go (first_high r) refl (high_means r)
  where
    go : (x : Option ℕ) → first_high r ≡ x → HighMeans r x → first_high r ≡ none
    go none e k = e
    go (some n) e k = absurd (let l = h n k.0 in let u = k.1 in omega (arith, l, u))

high_some : (r : Row) (n : ℕ) → HighMeans r (some n) → first_high r ≡ some n
high_some r n h = go (first_high r) refl (high_means r)
  where
    go : (x : Option ℕ) → first_high r ≡ x → HighMeans r x → first_high r ≡ some n
    go none e k = absurd (let l = k n h.0 in let u = h.1 in omega (arith, l, u))
    go (some m) e k =
        ⊎_elim
        (λ l. ⊎_elim (λ j. e ∙ ap some (omega arith)) (λ j. absurd (let w = h.2 m j in let x = k.1 in omega (arith, w, x))) (le_or_lt n m))
        (λ l. absurd (let w = k.2 n l in let x = h.1 in omega (arith, w, x))) (le_or_lt m n)

module _ (tb : Table) (sane : Sane tb) where
  -- what a row comes to, whatever the room: a refusal, or the text that it reads as
  abbrev by_text : Option Text → Refusal ⊎ Text
  by_text none = inl no_text
  by_text (some t) = choose (length t) longest_text (inr t) (inl (too_long (reported (length t))))

  abbrev by_high : Option ℕ → Refusal ⊎ Text → Refusal ⊎ Text
  by_high none x = x
  by_high (some n) x = inl (not_a_cell n)

  unfoldable pub reading : Row → Refusal ⊎ Text
  reading r =
      choose (length r) longest_row (by_high (first_high r) (by_text (decode tb sane r))) (inl (too_long (reported (length r))))

  abbrev pub Means : Row → Refusal ⊎ Text → Type 0
  Means r (inl x) = RowRefused tb r x
  Means r (inr t) = ReadsAs tb r t

  text_means : (r : Row) → ProperRow r → (x : Option Text) → decode tb sane r ≡ x → Means r (by_text x)
  text_means r p none e = refused_no_text p (λ t h. nothing (sym e ∙ reads_back tb sane r t h))
  text_means r p (some t) e =
      let h : Reads tb r t = reads_right tb sane r t e in
      ⊎_elim
      (λ l. subst (Means r) (sym (choose_le (length t) longest_text (inr t) _ l)) (record { proper = p; reads = h; short = l }))
      (λ l. subst (Means r) (sym (choose_lt (length t) longest_text (inr t) _ l)) (long_text t p h l))
      (le_or_lt (length t) longest_text)

  pub reading_means : (r : Row) → Means r (reading r)
  unfolding reading
  reading_means r =
      ⊎_elim
      (λ l. subst (Means r) (sym (choose_le (length r) longest_row (by_high (first_high r) (by_text (decode tb sane r))) _ l)) (go l (first_high r) (high_means r)))
      (λ l. subst (Means r) (sym (choose_lt (length r) longest_row (by_high (first_high r) (by_text (decode tb sane r))) _ l)) (long_row l))
      (le_or_lt (length r) longest_row)
    where
      go : length r ≤ longest_row → (x : Option ℕ) → HighMeans r x → Means r (by_high x (by_text (decode tb sane r)))
      go l none h = text_means r (record { short = l; cells = h }) (decode tb sane r) refl
      go l (some n) h = refused_not_a_cell n l h.0 h.1 h.2

  -- a row of cells that is short enough is read
  proper_reading : (r : Row) → ProperRow r → (x : Option Text) → decode tb sane r ≡ x → reading r ≡ by_text x
  unfolding reading
  proper_reading r p x e =
      choose_le (length r) longest_row (by_high (first_high r) (by_text (decode tb sane r))) _ p.short
      ∙ ap (λ (y : Option ℕ). by_high y (by_text (decode tb sane r))) (high_none r p.cells)
      ∙ ap by_text e

  pub reads_reading : (r : Row) (t : Text) → ReadsAs tb r t → reading r ≡ inr t
  reads_reading r t h =
      proper_reading r h.proper (some t) (reads_back tb sane r t h.reads) ∙ choose_le (length t) longest_text (inr t) _ h.short

  none_decoded : (r : Row) → ((t : Text) → Reads tb r t → ⊥) → decode tb sane r ≡ none
  none_decoded r h = go (decode tb sane r) refl
    where
      go : (x : Option Text) → decode tb sane r ≡ x → decode tb sane r ≡ none
      go none e = e
      go (some t) e = absurd (h t (reads_right tb sane r t e))

  pub refused_reading : (r : Row) (x : Refusal) → RowRefused tb r x → reading r ≡ inl x
  unfolding reading
  refused_reading r x (long_row l) = choose_lt (length r) longest_row (by_high (first_high r) (by_text (decode tb sane r))) _ l
  refused_reading r x (refused_not_a_cell n l k u f) =
      choose_le (length r) longest_row (by_high (first_high r) (by_text (decode tb sane r))) _ l
      ∙ ap (λ (y : Option ℕ). by_high y (by_text (decode tb sane r))) (high_some r n (k, u, f))
  refused_reading r x (refused_no_text p h) = proper_reading r p none (none_decoded r h)
  refused_reading r x (long_text t p h l) =
      proper_reading r p (some t) (reads_back tb sane r t h) ∙ choose_lt (length t) longest_text (inr t) _ l

  -- the answer to a row
  abbrev by_reading : Refusal ⊎ Text → ℕ → Answer
  by_reading (inl x) room = refuses x
  by_reading (inr t) room = choose (length t) room (gives t) (refuses (needs_room (length t)))

  unfoldable pub row_answer : Row → ℕ → Answer
  unfolding reading
  row_answer r room = by_reading (reading r) room

  pub row_answered : (r : Row) (room : ℕ) → RowAnswer tb r room (row_answer r room)
  unfolding row_answer
  row_answered r room = go (reading r) (reading_means r)
    where
      go : (x : Refusal ⊎ Text) → Means r x → RowAnswer tb r room (by_reading x room)
      go (inl x) h = row_refused x h
      go (inr t) h =
          ⊎_elim
          (λ l. subst (RowAnswer tb r room) (sym (choose_le (length t) room (gives t) _ l)) (read t h l))
          (λ l. subst (RowAnswer tb r room) (sym (choose_lt (length t) room (gives t) _ l)) (text_needs_room t h l))
          (le_or_lt (length t) room)

  pub allowed_row_answer : (r : Row) (room : ℕ) (a : Answer) → RowAnswer tb r room a → row_answer r room ≡ a
  unfolding row_answer
  allowed_row_answer r room a (row_refused x h) = ap (λ (y : Refusal ⊎ Text). by_reading y room) (refused_reading r x h)
  allowed_row_answer r room a (text_needs_room t h l) =
      ap (λ (y : Refusal ⊎ Text). by_reading y room) (reads_reading r t h) ∙ choose_lt (length t) room (gives t) _ l
  allowed_row_answer r room a (read t h l) =
      ap (λ (y : Refusal ⊎ Text). by_reading y room) (reads_reading r t h) ∙ choose_le (length t) room (gives t) _ l

  pub every_row_answered : EveryRowAnswered tb
  every_row_answered r room = (row_answer r room, row_answered r room)

  pub one_row_answer : OneRowAnswer tb
  one_row_answer r room a b h k = sym (allowed_row_answer r room a h) ∙ allowed_row_answer r room b k

  pub no_text_exactly : NoTextExactly tb
  no_text_exactly r room = (there, λ h. row_refused no_text (refused_no_text h.0 h.1))
    where
      refused : RowRefused tb r no_text → ProperRow r × ((t : Text) → Reads tb r t → ⊥)
      refused (refused_no_text p h) = (p, h)

      there : RowAnswer tb r room (refuses no_text) → ProperRow r × ((t : Text) → Reads tb r t → ⊥)
      there (row_refused x h) = refused h

  -- DEMAND 2, the way back
  pub reads_back_whole : ReadsBack tb
  reads_back_whole p room r (transcribed s l e k) enough m =
      let three : length s ≤ 3 * length (normal_of p) = three_cells_each tb sane (normal_of p) s e in
      read (normal_of p)
      (record { proper = record { short = omega arith; cells = cells_of_text tb sane (normal_of p) s e }; reads = e; short = l }) m

  -- A STEP
  abbrev by_step : Refusal ⊎ Text → ℕ → StepAnswer
  by_step (inl x) n = stays x
  by_step (inr t) n = shows (shown_by (sign_at (signs_of tb t) n) n)

  stepped_by : (r : Row) (n : ℕ) (x : Refusal ⊎ Text) → Means r x → Stepped tb r n (by_step x n)
  stepped_by r n (inl x) h = stayed x h
  stepped_by r n (inr t) h = stepped t h

  allowed_step : (r : Row) (n : ℕ) (a : StepAnswer) → Stepped tb r n a → by_step (reading r) n ≡ a
  allowed_step r n a (stepped t h) = ap (λ (x : Refusal ⊎ Text). by_step x n) (reads_reading r t h)
  allowed_step r n a (stayed x h) = ap (λ (x : Refusal ⊎ Text). by_step x n) (refused_reading r x h)

  pub every_step_answered : EveryStepAnswered tb
  every_step_answered r n = (by_step (reading r) n, stepped_by r n (reading r) (reading_means r))

  pub one_step_answer : OneStepAnswer tb
  one_step_answer r n a b h k = sym (allowed_step r n a h) ∙ allowed_step r n b k
