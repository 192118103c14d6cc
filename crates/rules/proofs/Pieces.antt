-- A text that no rule refuses is a list of pieces (a code point and the way it is written) that the machine takes, and back. From a text: test
-- 1 of the machine at each place (`runs`, `printed_from`). To a text: test 2 says what is in view, test 3 that the rules write the pieces
-- so (`texts`). Last, the signs that specs/Rows.antt gives a text are its pieces (`signs_are_pieces`). Throughout, q says whether the
-- profile's full stop shares its cell with an apostrophe. Assumes nothing.
use mathlib.Core.Path.{◌≡◌, refl, sym, ◌∙◌, ap, subst}
use mathlib.Core.Bool.{Bool, true, false, ◌&&◌, ◌||◌, not, cond, beq}
use mathlib.Core.List.{List, [], ◌∷◌, ◌++◌, map}
use mathlib.Core.Option.{Option, none, some}
use Prim.Native.Nat.{ℕ}
use native.Mathlib.Omega.{arith}
use lib.Dec.{T, eqb, eqb→eq}
use Rattle.rules.specs.Cells.{Text, Row}
use Rattle.rules.specs.Sorts.{Sort, letter, digit, full_stop, comma, hyphen, dash, fraction_bar, ordinal, pair_mark, percent, plain, no_sign, Item, Class, a_to_j, other_small, capital, one, other_digit, a_comma, a_hyphen, a_dash, masculine, feminine, a_percent, other_sign, unlisted, class, is_digit_cell}
use Rattle.rules.specs.Signs.{Way, bare, one_capital, all_capitals, separated, first_digit, first_lower, lower, denominator, ordinal_mark, inside, sign_cells, Sign}
use Rattle.rules.specs.Pairs.{Opens, mark_of, turn, fits, closed}
use Rattle.rules.specs.Places.{class_at, breaks_pair, Outcome, fault, silent, sign}
use Rattle.rules.specs.Rows.{Verdict, good, bad, judge, sign_onward, signs_from}
use Rattle.rules.proofs.Finite.{and_left, and_right, beq_same, Hold, every3, at3}
use Rattle.rules.proofs.States.{Past, Future, Mode}
use Rattle.rules.proofs.Sides.{rule, look, after, future, outcome_cells, row_on, verdict_on}
use Rattle.rules.proofs.Enumerations.{classes, pasts, futures, way_same, mode_same}
use Rattle.rules.proofs.Machine.{the_bar, the_stop, same_mode, step, mode_at, at_rest, ahead, see, waiting, lead_of, lead_class, ready, onward_by, onward_at, view_at, end_at, back_at, rest_at, back_by, lands, lands_two, is_sign, is_silent, is_some}
use Rattle.rules.proofs.Places.{past, past_of, outcome_at_lem}
use Rattle.rules.proofs.Rows.{bad_not_good}

-- how it is written, and the code point
abbrev pub Piece : Type 0
Piece = Way × Item

abbrev pub word : Piece → Row
word s = sign_cells s.0 s.1.1

-- what goes before the code point of a piece and has no cell
abbrev pub due : Bool → ℕ → List Item
due q n = cond (eqb n the_bar) ((the_bar, fraction_bar) ∷ []) (cond (eqb n the_stop) ((the_stop, full_stop q) ∷ []) [])

unfoldable pub lead : Bool → Way → List Item
unfolding lead_of
lead q w = due q (lead_of w)

unfoldable pub items : Bool → List Piece → List Item
items q [] = []
items q (s ∷ ss) = lead q s.0 ++ s.1 ∷ items q ss

unfoldable pub words : List Piece → Row
words [] = []
words (s ∷ ss) = word s ++ words ss

abbrev pub put : Outcome → Item → List Piece → List Piece
put (fault c) i ss = ss
put silent i ss = ss
put (sign w) i ss = (w, i) ∷ ss

unfoldable pub pieces : Past → List Item → List Piece
pieces p [] = []
pieces p (i ∷ a) = put (rule p (class_at i) (future a)) i (pieces (after p (class_at i)) a)

-- no rule refuses
abbrev pub Passes : Outcome → Type 0
Passes (fault c) = ⊥
Passes silent = Unit {0}
Passes (sign w) = Unit {0}

unfoldable pub Good : Past → Opens → List Item → Type 0
Good p o [] = T (closed o)
Good p o (i ∷ a) = T (fits o i.1) × Passes (rule p (class_at i) (future a)) × Good (after p (class_at i)) (turn i.1 o) a

judge_good : (b : Bool) (x : Outcome) (n : ℕ) (v : Verdict) → judge b x n v ≡ good → T b × Passes x × (v ≡ good)
judge_good false x n v e = bad_not_good e
judge_good true (fault c) n v e = bad_not_good e
judge_good true silent n v e = (tt, tt, e)
judge_good true (sign w) n v e = (tt, tt, e)

good_judge : (b : Bool) (x : Outcome) (n : ℕ) (v : Verdict) → T b → Passes x → v ≡ good → judge b x n v ≡ good
good_judge false x n v t h e = absurd t
good_judge true (fault c) n v t h e = absurd h
good_judge true silent n v t h e = e
good_judge true (sign w) n v t h e = e

pub good_of_verdict : (p : Past) (o : Opens) (n : ℕ) (a : List Item) → verdict_on p o n a ≡ good → Good p o a
unfolding verdict_on Good
good_of_verdict p o n [] e = go (closed o) e
  where
    go : (b : Bool) → cond b good (bad breaks_pair n) ≡ good → T b
    go true e = tt
    go false e = bad_not_good e
good_of_verdict p o n (i ∷ a) e =
    let h = judge_good (fits o i.1) (rule p (class_at i) (future a)) n (verdict_on (after p (class_at i)) (turn i.1 o) (ℕ.suc n) a) e in
    (h.0, h.1, good_of_verdict (after p (class_at i)) (turn i.1 o) (ℕ.suc n) a h.2)

pub verdict_of_good : (p : Past) (o : Opens) (n : ℕ) (a : List Item) → Good p o a → verdict_on p o n a ≡ good
unfolding verdict_on Good
verdict_of_good p o n [] g = go (closed o) g
  where
    go : (b : Bool) → T b → cond b good (bad breaks_pair n) ≡ good
    go true t = refl
    go false t = absurd t
verdict_of_good p o n (i ∷ a) g =
    good_judge (fits o i.1) (rule p (class_at i) (future a)) n (verdict_on (after p (class_at i)) (turn i.1 o) (ℕ.suc n) a) g.0 g.1
    (verdict_of_good (after p (class_at i)) (turn i.1 o) (ℕ.suc n) a g.2)

-- the machine takes the pieces
unfoldable pub Runs : Mode → Opens → List Piece → Type 0
Runs m o [] = T (at_rest m) × T (closed o)
Runs m o (s ∷ ss) =
    (n : Mode) × (step m s.0 (class_at s.1) ≡ some n) × T (fits o s.1.1) × Runs n (turn s.1.1 o) ss

-- the finite rules' row is the pieces' cells
pub row_words : (p : Past) (a : List Item) → row_on p a ≡ words (pieces p a)
unfolding row_on words pieces
row_words p [] = refl
row_words p (i ∷ a) =
    ap (λ (r : Row). outcome_cells (rule p (class_at i) (future a)) i.1 ++ r) (row_words (after p (class_at i)) a)
    ∙ go (rule p (class_at i) (future a)) (pieces (after p (class_at i)) a)
  where
    go : (x : Outcome) (ss : List Piece) → outcome_cells x i.1 ++ words ss ≡ words (put x i ss)
    go (fault c) ss = refl
    go silent ss = refl
    go (sign w) ss = refl

-- FROM A TEXT TO PIECES
some_is : (x : Option Mode) (n : Mode) → T (is_some x n) → x ≡ some n
unfolding is_some same_mode
some_is none n t = absurd t
some_is (some m) n t = ap some (mode_same m n t)

-- what has no cell is no pair mark
quiet : (p : Past) (s : Sort) (f : Future) (o : Opens) → rule p (class s) f ≡ silent → turn s o ≡ o
unfolding turn mark_of class rule
quiet p (letter c b) f o e = refl
quiet p (digit d) f o e = refl
quiet p (full_stop b) f o e = refl
quiet p comma f o e = refl
quiet p hyphen f o e = refl
quiet p dash f o e = refl
quiet p fraction_bar f o e = refl
quiet p (ordinal b) f o e = refl
quiet p (pair_mark k b w) f o e = let z : ◌≡◌ {A = ℕ} 0 1 = cc in absurd (omega arith)
quiet p (percent w) f o e = refl
quiet p (plain w) f o e = refl
quiet p no_sign f o e = refl

pub ready_next : (p : Past) (c : Class) (f : Future) (x : Outcome) → Passes x → Hold (onward_by p c f x) → T (ready (after p c) f)
unfolding onward_by
ready_next p c f (fault y) h t = absurd h
ready_next p c f silent h t = t.0
ready_next p c f (sign w) h t = t.0

runs_put : (p : Past) (o : Opens) (i : Item) (f : Future) (x : Outcome) → rule p (class_at i) f ≡ x → Passes x → T (fits o i.1)
    → Hold (onward_by p (class_at i) f x) → (ss : List Piece) → Runs (mode_at (after p (class_at i)) f) (turn i.1 o) ss
    → Runs (mode_at p (look (class_at i) f)) o (put x i ss)
unfolding onward_by Runs same_mode
runs_put p o i f (fault c) e h k t ss r = absurd h
runs_put p o i f silent e h k t ss r =
    subst (λ (n : Mode). Runs n o ss) (mode_same _ _ t.1.0)
    (subst (λ (u : Opens). Runs (mode_at (after p (class_at i)) f) u ss) (quiet p i.1 f o e) r)
runs_put p o i f (sign w) e h k t ss r = (_, some_is _ _ t.1.0, k, r)

pub runs : (p : Past) (o : Opens) (a : List Item) → Good p o a → T (ready p (future a)) → Runs (mode_at p (future a)) o (pieces p a)
unfolding Good Runs pieces future
runs p o [] g r = ((rest_at p r).0, g)
runs p o (i ∷ a) g r =
    let f : Future = future a in
    let t : Hold (onward_by p (class_at i) f (rule p (class_at i) f)) = onward_at p (class_at i) f r in
    runs_put p o i f (rule p (class_at i) f) refl g.1 g.0 t (pieces (after p (class_at i)) a)
    (runs (after p (class_at i)) (turn i.1 o) a g.2 (ready_next p (class_at i) f (rule p (class_at i) f) g.1 t))

-- only one code point is a full stop, of the profile's own sort, and only one stands over a denominator
unfoldable pub proper_code : Bool → ℕ → Sort → Bool
proper_code q c (letter d b) = true
proper_code q c (digit d) = true
proper_code q c (full_stop b) = eqb c the_stop && beq b q
proper_code q c comma = true
proper_code q c hyphen = true
proper_code q c dash = true
proper_code q c fraction_bar = eqb c the_bar
proper_code q c (ordinal b) = true
proper_code q c (pair_mark k b w) = true
proper_code q c (percent w) = true
proper_code q c (plain w) = true
proper_code q c no_sign = true

-- TEST: no class but those two is silent
silent_class : Past → Class → Future → Bool
silent_class p c f = not (is_silent (rule p c f)) || not (eqb (lead_class c) 0)

silent_class_all : T (every3 pasts classes futures silent_class)
unfolding silent_class rule lead_class is_silent
silent_class_all = tt

silent_lead : (p : Past) (c : Class) (f : Future) → rule p c f ≡ silent → lead_class c ≡ 0 → ⊥
unfolding silent_class is_silent
silent_lead p c f e z =
    subst T (ap (λ (x : Outcome). not (is_silent x) || not (eqb (lead_class c) 0)) e ∙ ap (λ (n : ℕ). not (eqb n 0)) z)
    (at3 pasts classes futures silent_class silent_class_all p c f)

lead_letter : (b : Bool) → lead_class (cond b a_to_j other_small) ≡ 0
unfolding lead_class
lead_letter true = refl
lead_letter false = refl

lead_digit : (b : Bool) → lead_class (cond b one other_digit) ≡ 0
unfolding lead_class
lead_digit true = refl
lead_digit false = refl

-- so a silent item is the one that its class says
pub silent_item : (q : Bool) (p : Past) (f : Future) (c : ℕ) (s : Sort) → rule p (class s) f ≡ silent → T (proper_code q c s)
    → ◌≡◌ {A = List Item} ((c, s) ∷ []) (due q (lead_class (class s)))
unfolding class lead_class proper_code
silent_item q p f c (letter d true) e t = absurd (silent_lead p capital f e refl)
silent_item q p f c (letter d false) e t = absurd (silent_lead p _ f e (lead_letter (is_digit_cell d)))
silent_item q p f c (digit d) e t = absurd (silent_lead p _ f e (lead_digit (eqb d 1)))
silent_item q p f c (full_stop b) e t =
    ap (λ (k : ℕ). (k, full_stop b) ∷ []) (eqb→eq c the_stop (and_left (eqb c the_stop) (beq b q) t))
    ∙ ap (λ (x : Bool). (the_stop, full_stop x) ∷ []) (beq_same b q (and_right (eqb c the_stop) (beq b q) t))
silent_item q p f c comma e t = absurd (silent_lead p a_comma f e refl)
silent_item q p f c hyphen e t = absurd (silent_lead p a_hyphen f e refl)
silent_item q p f c dash e t = absurd (silent_lead p a_dash f e refl)
silent_item q p f c fraction_bar e t = ap (λ (k : ℕ). (k, fraction_bar) ∷ []) (eqb→eq c the_bar t)
silent_item q p f c (ordinal true) e t = absurd (silent_lead p feminine f e refl)
silent_item q p f c (ordinal false) e t = absurd (silent_lead p masculine f e refl)
silent_item q p f c (pair_mark k b w) e t = absurd (silent_lead p other_sign f e refl)
silent_item q p f c (percent w) e t = absurd (silent_lead p a_percent f e refl)
silent_item q p f c (plain w) e t = absurd (silent_lead p other_sign f e refl)
silent_item q p f c no_sign e t = absurd (silent_lead p unlisted f e refl)

-- the pieces' items are the text's, after what waits
printed_put : (q : Bool) (p : Past) (i : Item) (f : Future) (x : Outcome) → rule p (class_at i) f ≡ x → Passes x → T (proper_code q i.0 i.1)
    → Hold (onward_by p (class_at i) f x) → (ss : List Piece) (a : List Item) → items q ss ≡ due q (waiting (after p (class_at i)) f) ++ a
    → items q (put x i ss) ≡ due q (waiting p (look (class_at i) f)) ++ i ∷ a
unfolding onward_by items lead
printed_put q p i f (fault c) e h k t ss a r = absurd h
printed_put q p i f silent e h k t ss a r =
    r
    ∙ ap (λ (n : ℕ). due q n ++ a) (eqb→eq (waiting (after p (class_at i)) f) (lead_class (class_at i)) t.1.1.1.0)
    ∙ ap (λ (l : List Item). l ++ a) (sym (silent_item q p f i.0 i.1 e k))
    ∙ ap (λ (n : ℕ). due q n ++ i ∷ a) (sym (eqb→eq (waiting p (look (class_at i) f)) 0 t.1.1.0))
printed_put q p i f (sign w) e h k t ss a r =
    ap (λ (l : List Item). due q (lead_of w) ++ i ∷ l)
    (r ∙ ap (λ (n : ℕ). due q n ++ a) (eqb→eq (waiting (after p (class_at i)) f) 0 t.1.1.1.0))
    ∙ ap (λ (n : ℕ). due q n ++ i ∷ a) (sym (eqb→eq (waiting p (look (class_at i) f)) (lead_of w) t.1.1.0))

unfoldable pub Proper : Bool → List Item → Type 0
Proper q [] = Unit {0}
Proper q (i ∷ a) = T (proper_code q i.0 i.1) × Proper q a

pub printed_from : (q : Bool) (p : Past) (o : Opens) (a : List Item) → Good p o a → Proper q a → T (ready p (future a))
    → items q (pieces p a) ≡ due q (waiting p (future a)) ++ a
unfolding Good Proper pieces items future
printed_from q p o [] g k r = ap (λ (n : ℕ). due q n ++ []) (sym (rest_at p r).1)
printed_from q p o (i ∷ a) g k r =
    let f : Future = future a in
    let t : Hold (onward_by p (class_at i) f (rule p (class_at i) f)) = onward_at p (class_at i) f r in
    printed_put q p i f (rule p (class_at i) f) refl g.1 k.0 t (pieces (after p (class_at i)) a) a
    (printed_from q (after p (class_at i)) (turn i.1 o) a g.2 k.1 (ready_next p (class_at i) f (rule p (class_at i) f) g.1 t))

-- FROM PIECES TO A TEXT
future_see : (q : Bool) (w : Way) (i : Item) (a : List Item) → future (lead q w ++ i ∷ a) ≡ see w (class_at i) (future a)
unfolding future lead see class
future_see q bare i a = refl
future_see q one_capital i a = refl
future_see q all_capitals i a = refl
future_see q separated i a = refl
future_see q first_digit i a = refl
future_see q first_lower i a = refl
future_see q lower i a = refl
future_see q denominator i a = refl
future_see q ordinal_mark i a = refl
future_see q inside i a = refl

pub views : (q : Bool) (m : Mode) (o : Opens) (ss : List Piece) → Runs m o ss → T (ahead m (future (items q ss)))
unfolding Runs items future
views q m o [] r = end_at m r.0
views q m o (s ∷ ss) r =
    subst (λ (f : Future). T (ahead m f)) (sym (future_see q s.0 s.1 (items q ss)))
    (view_at m s.0 (class_at s.1) (future (items q ss)) r.0 r.1 (views q r.0 (turn s.1.1 o) ss r.3))

sign_of_test : (x : Outcome) (w : Way) → T (is_sign x w) → x ≡ sign w
unfolding is_sign
sign_of_test (fault c) w h = absurd h
sign_of_test silent w h = absurd h
sign_of_test (sign v) w h = ap sign (way_same v w h)

silent_of_test : (x : Outcome) → T (is_silent x) → x ≡ silent
unfolding is_silent
silent_of_test (fault c) h = absurd h
silent_of_test silent h = refl
silent_of_test (sign v) h = absurd h

-- the text from here on is not refused, and its pieces are these
abbrev pub Back : Past → Opens → List Item → List Piece → Type 0
Back p o a ss = Good p o a × (pieces p a ≡ ss)

-- what is shown of the rest, after whatever past leads to its mode
abbrev pub Rest : Mode → Opens → List Item → List Piece → Type 0
Rest n o a ss = (p : Past) → mode_at p (future a) ≡ n → waiting p (future a) ≡ 0 → Back p o a ss

place_one : (p : Past) (o : Opens) (w : Way) (i : Item) (a : List Item) (ss : List Piece) (n : Mode) → T (fits o i.1)
    → Hold (lands p w (class_at i) (future a) n) → Rest n (turn i.1 o) a ss → Back p o (i ∷ a) ((w, i) ∷ ss)
unfolding lands Good pieces same_mode
place_one p o w i a ss n k h r =
    let e : rule p (class_at i) (future a) ≡ sign w = sign_of_test (rule p (class_at i) (future a)) w h.0 in
    let b : Back (after p (class_at i)) (turn i.1 o) a ss = r (after p (class_at i)) (mode_same _ _ h.1.0) (eqb→eq _ _ h.1.1.0) in (
      (k, subst Passes (sym e) tt, b.0),
      ap (λ (x : Outcome). put x i (pieces (after p (class_at i)) a)) e ∙ ap (λ (l : List Piece). (w, i) ∷ l) b.1,
    )

place_two : (p : Past) (o : Opens) (w : Way) (d i : Item) (a : List Item) (ss : List Piece) (n : Mode) → T (fits o d.1) → turn d.1 o ≡ o
    → T (fits o i.1) → Hold (lands_two p (class_at d) w (class_at i) (future a) n) → Rest n (turn i.1 o) a ss
    → Back p o (d ∷ i ∷ a) ((w, i) ∷ ss)
unfolding lands_two Good pieces future
place_two p o w d i a ss n k u l h r =
    let e : rule p (class_at d) (look (class_at i) (future a)) ≡ silent = silent_of_test (rule p (class_at d) (look (class_at i) (future a))) h.0 in
    let b : Back (after p (class_at d)) o (i ∷ a) ((w, i) ∷ ss) = place_one (after p (class_at d)) o w i a ss n l h.1 r in (
      (k, subst Passes (sym e) tt, subst (λ (v : Opens). Good (after p (class_at d)) v (i ∷ a)) (sym u) b.0),
      ap (λ (x : Outcome). put x d (pieces (after p (class_at d)) (i ∷ a))) e ∙ b.1,
    )

place : (q : Bool) (p : Past) (o : Opens) (w : Way) (i : Item) (a : List Item) (ss : List Piece) (n : Mode) → T (fits o i.1)
    → Hold (back_by p w (class_at i) (future a) n) → Rest n (turn i.1 o) a ss → Back p o (lead q w ++ i ∷ a) ((w, i) ∷ ss)
unfolding back_by lead fits turn mark_of class
place q p o bare i a ss n k h r = place_one p o bare i a ss n k h r
place q p o one_capital i a ss n k h r = place_one p o one_capital i a ss n k h r
place q p o all_capitals i a ss n k h r = place_one p o all_capitals i a ss n k h r
place q p o separated i a ss n k h r = place_one p o separated i a ss n k h r
place q p o first_digit i a ss n k h r = place_one p o first_digit i a ss n k h r
place q p o first_lower i a ss n k h r = place_one p o first_lower i a ss n k h r
place q p o lower i a ss n k h r = place_one p o lower i a ss n k h r
place q p o denominator i a ss n k h r = place_two p o denominator (the_bar, fraction_bar) i a ss n tt refl k h r
place q p o ordinal_mark i a ss n k h r = place_two p o ordinal_mark (the_stop, full_stop q) i a ss n tt refl k h r
place q p o inside i a ss n k h r = place_one p o inside i a ss n k h r

pub texts : (q : Bool) (m : Mode) (o : Opens) (ss : List Piece) → Runs m o ss → Rest m o (items q ss) ss
unfolding Runs items Good pieces
texts q m o [] r p e z = (r.1, refl)
texts q m o (s ∷ ss) r p e z =
    let f : Future = future (items q ss) in
    let v : future (lead q s.0 ++ s.1 ∷ items q ss) ≡ see s.0 (class_at s.1) f = future_see q s.0 s.1 (items q ss) in
    place q p o s.0 s.1 (items q ss) ss r.0 r.2
    (back_at p s.0 (class_at s.1) f r.0
    (ap (λ (x : Mode). step x s.0 (class_at s.1)) (ap (mode_at p) (sym v) ∙ e) ∙ r.1)
    (views q r.0 (turn s.1.1 o) ss r.3)
    (ap (waiting p) (sym v) ∙ z))
    (texts q r.0 (turn s.1.1 o) ss r.3)

-- THE SIGNS OF A TEXT ARE ITS PIECES
abbrev pub wait_text : ℕ → Text
wait_text n = cond (eqb n 0) [] (n ∷ [])

abbrev pub sign_of : Piece → Sign
sign_of s = record { shown = wait_text (lead_of s.0) ++ s.1.0 ∷ []; taken = word s }

-- the signs from a place on, as the finite rules give them
unfoldable pub signs_on : Past → Text → List Item → List Sign
signs_on p w [] = []
signs_on p w (i ∷ a) = sign_onward (rule p (class_at i) (future a)) w i (λ v. signs_on (after p (class_at i)) v a)

pub signs_is : (b : List Item) (w : Text) (a : List Item) → signs_from b w a ≡ signs_on (past_of b) w a
unfolding signs_from signs_on past
signs_is b w [] = refl
signs_is b w (i ∷ a) =
    ap (λ (x : Outcome). sign_onward x w i (λ v. signs_from (i ∷ b) v a)) (outcome_at_lem b i a)
    ∙ ap (λ (g : Text → List Sign). sign_onward (rule (past_of b) (class_at i) (future a)) w i g) (λ j v. signs_is (i ∷ b) v a j)

wait_silent : (q : Bool) (p : Past) (f : Future) (c : ℕ) (s : Sort) → rule p (class s) f ≡ silent → T (proper_code q c s)
    → wait_text (lead_class (class s)) ≡ c ∷ []
wait_silent q p f c s e t = go (lead_class (class s)) (silent_item q p f c s e t)
  where
    go : (n : ℕ) → ◌≡◌ {A = List Item} ((c, s) ∷ []) (due q n) → wait_text n ≡ c ∷ []
    go n h = code_of n (eqb n the_bar) refl (eqb n the_stop) refl (ap (map (λ (i : Item). i.0)) h)
      where
        code_of : (n : ℕ) (x : Bool) → eqb n the_bar ≡ x → (y : Bool) → eqb n the_stop ≡ y
            → ◌≡◌ {A = List ℕ} (c ∷ []) (map (λ (i : Item). i.0) (cond x ((the_bar, fraction_bar) ∷ []) (cond y ((the_stop, full_stop q) ∷ []) [])))
            → wait_text n ≡ c ∷ []
        code_of n true ex y ey h = ap wait_text (eqb→eq n the_bar (subst T (sym ex) tt)) ∙ sym h
        code_of n false ex true ey h = ap wait_text (eqb→eq n the_stop (subst T (sym ey) tt)) ∙ sym h
        code_of n false ex false ey h = let z : ◌≡◌ {A = ℕ} 0 1 = cc in absurd (omega arith)

signs_put : (q : Bool) (p : Past) (i : Item) (f : Future) (x : Outcome) → rule p (class_at i) f ≡ x → Passes x → T (proper_code q i.0 i.1)
    → Hold (onward_by p (class_at i) f x) → (ss : List Piece) (g : Text → List Sign) → map sign_of ss ≡ g (wait_text (waiting (after p (class_at i)) f))
    → map sign_of (put x i ss) ≡ sign_onward x (wait_text (waiting p (look (class_at i) f))) i g
unfolding onward_by
signs_put q p i f (fault c) e h k t ss g r = absurd h
signs_put q p i f silent e h k t ss g r =
    r
    ∙ ap g
    (ap wait_text (eqb→eq (waiting (after p (class_at i)) f) (lead_class (class_at i)) t.1.1.1.0)
    ∙ wait_silent q p f i.0 i.1 e k
    ∙ ap (λ (n : ℕ). wait_text n ++ i.0 ∷ []) (sym (eqb→eq (waiting p (look (class_at i) f)) 0 t.1.1.0)))
signs_put q p i f (sign w) e h k t ss g r =
    ap (λ (l : List Sign). sign_of (w, i) ∷ l) (r ∙ ap (λ (n : ℕ). g (wait_text n)) (eqb→eq (waiting (after p (class_at i)) f) 0 t.1.1.1.0))
    ∙ ap {B = List Sign} (λ (n : ℕ). record { shown = wait_text n ++ i.0 ∷ []; taken = word (w, i) } ∷ g [])
    (sym (eqb→eq (waiting p (look (class_at i) f)) (lead_of w) t.1.1.0))

pub signs_are_pieces : (q : Bool) (p : Past) (o : Opens) (a : List Item) → Good p o a → Proper q a → T (ready p (future a))
    → map sign_of (pieces p a) ≡ signs_on p (wait_text (waiting p (future a))) a
unfolding Good Proper pieces signs_on future
signs_are_pieces q p o [] g k r = refl
signs_are_pieces q p o (i ∷ a) g k r =
    let f : Future = future a in
    let t : Hold (onward_by p (class_at i) f (rule p (class_at i) f)) = onward_at p (class_at i) f r in
    signs_put q p i f (rule p (class_at i) f) refl g.1 k.0 t (pieces (after p (class_at i)) a) (λ v. signs_on (after p (class_at i)) v a)
    (signs_are_pieces q (after p (class_at i)) (turn i.1 o) a g.2 k.1 (ready_next p (class_at i) f (rule p (class_at i) f) g.1 t))
