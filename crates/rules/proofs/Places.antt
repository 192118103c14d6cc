-- The rules at a place, as specs/Places.antt has them, are the finite ones of proofs/Sides.antt. Each fact of `Near` is read off the past or the
-- future: it holds so at the start and goes on so over one more class, by one computed test each (`next_is`, `grows`). Then `outcome` and
-- `rule` agree by one test over Past × Class × Future. The last section shows by another that no place has two faults. Assumes nothing.
use mathlib.Core.Path.{◌≡◌, refl, sym, ◌∙◌, ap, subst}
use mathlib.Core.Bool.{Bool, true, false, ◌&&◌, ◌||◌, not, cond, beq, true≢false}
use mathlib.Core.Option.{Option, none, some}
use mathlib.Core.List.{List, [], ◌∷◌}
use lib.Dec.{T, eqb}
use Rattle.rules.specs.Sorts.{Sort, letter, digit, full_stop, comma, hyphen, dash, fraction_bar, ordinal, pair_mark, percent, plain, no_sign, Item, class, Class, a_to_j, other_small, capital, one, other_digit, a_stop, a_comma, a_hyphen, a_dash, a_bar, masculine, feminine, a_percent, other_sign, unlisted, ◌is◌, is_letter, is_digit, is_stop, is_point, is_ordinal}
use Rattle.rules.specs.Near.{Side, next, Near}
use Rattle.rules.specs.Capitals.{run_goes_on, only_capitals}
use Rattle.rules.specs.Numbers.{under_bar, number_point, number_goes_on, point_way}
use Rattle.rules.specs.Forms.{ordinal_stop, form_goes_on, stop_of_ordinal}
use Rattle.rules.specs.Pairs.{Opens, mark_of, mark_fits, fits, open_after}
use Rattle.rules.specs.Places.{Place, Faulty, without_sign, against_pair_rule, out_of_form, sharing_cells, class_at, side_of, near, near_of, class_of, Cause, written, lacks_sign, breaks_pair, outside_form, shares_cells, has_no_sign, is_outside_form, would_share_cells, Outcome, fault, silent, sign, outcome}
use Rattle.rules.specs.Rows.{at, outcome_at, fits_at}
use Rattle.rules.proofs.Finite.{false_of, nothing, every2, at2, every3, at3, beq_same, Hold, hold, holds}
use Rattle.rules.proofs.States.{Past, free, past_on, past_bar, past_stop, past_dash, past_hyphen, past_feminine, Future, rest}
use Rattle.rules.proofs.Sides.{◌was◌, in_run, in_mixed, is_in_denominator, in_digits, at_point, caps_next, mixed_next, digit_next, mark_next, form_next, rule, look, after, future}
use Rattle.rules.proofs.Enumerations.{classes, pasts, futures, way_same, cause_number, cause_same}
use Rattle.rules.proofs.Machine.{◌by◌}

-- the past of the side before, the future of the side after
unfoldable pub past : Side → Past
past [] = free
past (c ∷ b) = after (past b) c

unfoldable pub ahead_of : Side → Future
ahead_of [] = rest
ahead_of (c ∷ a) = look c (ahead_of a)

-- what the rules look at, read off past and future
unfoldable pub view : Past → Future → Near
view p f =
    record {
      after_digit = in_digits p;
      after_bar = p was past_bar;
      after_feminine = p was past_feminine;
      after_hyphen = p was past_hyphen;
      after_dash = p was past_dash;
      after_point = at_point p;
      after_ordinal_stop = p was past_stop;
      in_denominator = is_in_denominator p || p was past_bar;
      past_point = p was past_on || at_point p;
      run_before = in_run p;
      capitals_before = not (in_mixed p);
      before_digit = digit_next f;
      before_ordinal = mark_next f;
      form_ahead = form_next f;
      run_after = caps_next f || mixed_next f;
      capitals_after = not (mixed_next f);
    }

-- a class directly beside
next_is : (f : Class → Bool) (g : Past → Bool) → T (every2 pasts classes (λ p c. beq (f c) (g (after p c)))) → g free ≡ false
    → (b : Side) → next f b ≡ g (past b)
unfolding next past
next_is f g t e [] = sym e
next_is f g t e (c ∷ b) = beq_same (f c) (g (after (past b) c)) (at2 pasts classes (λ p c. beq (f c) (g (after p c))) t (past b) c)

next_on : (f : Class → Bool) (g : Future → Bool) → T (every2 futures classes (λ h c. beq (f c) (g (look c h)))) → g rest ≡ false
    → (a : Side) → next f a ≡ g (ahead_of a)
unfolding next ahead_of
next_on f g t e [] = sym e
next_on f g t e (c ∷ a) = beq_same (f c) (g (look c (ahead_of a))) (at2 futures classes (λ h c. beq (f c) (g (look c h))) t (ahead_of a) c)

-- a fact that reaches further: k says what it is with one more class, from the class and from the past
grows : (f : Side → Bool) (g : Past → Bool) (k : Class → Past → Bool) → T (every2 pasts classes (λ p c. beq (k c p) (g (after p c))))
    → f [] ≡ g free → ((c : Class) (b : Side) → f b ≡ g (past b) → f (c ∷ b) ≡ k c (past b)) → (b : Side) → f b ≡ g (past b)
unfolding past
grows f g k t e s [] = e
grows f g k t e s (c ∷ b) =
    s c b (grows f g k t e s b) ∙ beq_same (k c (past b)) (g (after (past b) c)) (at2 pasts classes (λ p c. beq (k c p) (g (after p c))) t (past b) c)

grows_on : (f : Side → Bool) (g : Future → Bool) (k : Class → Future → Bool) → T (every2 futures classes (λ h c. beq (k c h) (g (look c h))))
    → f [] ≡ g rest → ((c : Class) (a : Side) → f a ≡ g (ahead_of a) → f (c ∷ a) ≡ k c (ahead_of a)) → (a : Side) → f a ≡ g (ahead_of a)
unfolding ahead_of
grows_on f g k t e s [] = e
grows_on f g k t e s (c ∷ a) =
    s c a (grows_on f g k t e s a)
    ∙ beq_same (k c (ahead_of a)) (g (look c (ahead_of a))) (at2 futures classes (λ h c. beq (k c h) (g (look c h))) t (ahead_of a) c)

-- the side before
digit_is : (b : Side) → next is_digit b ≡ (view (past b) rest).after_digit
unfolding after view
digit_is = next_is is_digit (λ p. (view p rest).after_digit) tt refl

under_is : (b : Side) → under_bar b ≡ (view (past b) rest).in_denominator
unfolding after view under_bar
under_is =
    grows under_bar (λ p. (view p rest).in_denominator) (λ c p. cond (is_digit c) (view p rest).in_denominator (c is a_bar)) tt refl
    (λ c b e. ap (λ (x : Bool). cond (is_digit c) x (c is a_bar)) e)

point_is : (b : Side) → number_point b ≡ (view (past b) rest).after_point
unfolding after view number_point
point_is =
    grows number_point (λ p. (view p rest).after_point)
    (λ c p. is_point c && (view p rest).after_digit && not (view p rest).in_denominator) tt refl
    (λ c b e. cc (digit_is b, under_is b))

number_is : (b : Side) → number_goes_on b ≡ (view (past b) rest).past_point
unfolding after view number_goes_on
number_is =
    grows number_goes_on (λ p. (view p rest).past_point)
    (λ c p. cond (is_digit c) (view p rest).past_point (is_point c && (view p rest).after_digit && not (view p rest).in_denominator)) tt refl
    (λ c b e. cc (e, digit_is b, under_is b))

stop_is : (b : Side) → ordinal_stop b ≡ (view (past b) rest).after_ordinal_stop
unfolding after view ordinal_stop
stop_is =
    grows ordinal_stop (λ p. (view p rest).after_ordinal_stop)
    (λ c p. is_stop c && ((view p rest).after_digit && not (view p rest).in_denominator && not (view p rest).past_point)) tt refl
    (λ c b e. cc (digit_is b, under_is b, number_is b))

run_is : (b : Side) → run_goes_on b ≡ (view (past b) rest).run_before
unfolding after view run_goes_on
run_is = next_is is_letter in_run tt refl

capitals_is : (b : Side) → only_capitals b ≡ (view (past b) rest).capitals_before
unfolding after view only_capitals
capitals_is =
    grows only_capitals (λ p. (view p rest).capitals_before) (λ c p. cond (is_letter c) (c is capital && (view p rest).capitals_before) true) tt refl
    (λ c b e. cc e)

-- the side after
digit_on : (a : Side) → next is_digit a ≡ digit_next (ahead_of a)
unfolding look
digit_on = next_on is_digit digit_next tt refl

ordinal_on : (a : Side) → next is_ordinal a ≡ mark_next (ahead_of a)
unfolding look
ordinal_on = next_on is_ordinal mark_next tt refl

form_on : (a : Side) → form_goes_on a ≡ form_next (ahead_of a)
unfolding look form_goes_on
form_on =
    grows_on form_goes_on form_next (λ c f. cond (is_digit c) (form_next f) (c is a_bar && digit_next f || is_stop c && mark_next f)) tt refl
    (λ c b e. cc (e, digit_on b, ordinal_on b))

run_on : (a : Side) → run_goes_on a ≡ (caps_next (ahead_of a) || mixed_next (ahead_of a))
unfolding look run_goes_on
run_on = next_on is_letter (λ f. caps_next f || mixed_next f) tt refl

capitals_on : (a : Side) → only_capitals a ≡ not (mixed_next (ahead_of a))
unfolding look only_capitals
capitals_on =
    grows_on only_capitals (λ f. not (mixed_next f)) (λ c f. cond (is_letter c) (c is capital && not (mixed_next f)) true) tt refl (λ c b e. cc e)

near_is : (b a : Side) → near b a ≡ view (past b) (ahead_of a)
unfolding near view after look
near_is b a i =
    record {
      after_digit = digit_is b i;
      after_bar = next_is (λ c. c is a_bar) (λ p. p was past_bar) tt refl b i;
      after_feminine = next_is (λ c. c is feminine) (λ p. p was past_feminine) tt refl b i;
      after_hyphen = next_is (λ c. c is a_hyphen) (λ p. p was past_hyphen) tt refl b i;
      after_dash = next_is (λ c. c is a_dash) (λ p. p was past_dash) tt refl b i;
      after_point = point_is b i;
      after_ordinal_stop = stop_is b i;
      in_denominator = under_is b i;
      past_point = number_is b i;
      run_before = run_is b i;
      capitals_before = capitals_is b i;
      before_digit = digit_on a i;
      before_ordinal = ordinal_on a i;
      form_ahead = form_on a i;
      run_after = run_on a i;
      capitals_after = capitals_on a i;
    }

-- outcomes, compared by a test
same_outcome : Outcome → Outcome → Bool
same_outcome (fault c) (fault d) = eqb (cause_number c) (cause_number d)
same_outcome (fault c) silent = false
same_outcome (fault c) (sign v) = false
same_outcome silent (fault d) = false
same_outcome silent silent = true
same_outcome silent (sign v) = false
same_outcome (sign w) (fault d) = false
same_outcome (sign w) silent = false
same_outcome (sign w) (sign v) = w by v

outcome_same : (x y : Outcome) → T (same_outcome x y) → x ≡ y
unfolding same_outcome
outcome_same (fault c) (fault d) t = ap fault (cause_same c d t)
outcome_same (fault c) silent t = absurd t
outcome_same (fault c) (sign v) t = absurd t
outcome_same silent (fault d) t = absurd t
outcome_same silent silent t = refl
outcome_same silent (sign v) t = absurd t
outcome_same (sign w) (fault d) t = absurd t
outcome_same (sign w) silent t = absurd t
outcome_same (sign w) (sign v) t = ap sign (way_same w v t)

-- TEST: outcome and rule agree
agree : Past → Class → Future → Bool
agree p c f = same_outcome (outcome (view p f) c) (rule p c f)

agree_all : T (every3 pasts classes futures agree)
unfolding agree same_outcome outcome view rule
agree_all = tt

pub outcome_is : (b : Side) (c : Class) (a : Side) → outcome (near b a) c ≡ rule (past b) c (ahead_of a)
unfolding agree
outcome_is b c a =
    ap (λ (n : Near). outcome n c) (near_is b a)
    ∙ outcome_same (outcome (view (past b) (ahead_of a)) c) (rule (past b) c (ahead_of a)) (at3 pasts classes futures agree agree_all (past b) c (ahead_of a))

ahead_future : (a : List Item) → ahead_of (side_of a) ≡ future a
unfolding ahead_of future
ahead_future [] = refl
ahead_future (i ∷ a) = ap (look (class_at i)) (ahead_future a)

-- the past of the items before a place
abbrev pub past_of : List Item → Past
past_of b = past (side_of b)

pub outcome_at_lem : (b : List Item) (i : Item) (a : List Item) → outcome_at (at b i a) ≡ rule (past_of b) (class_at i) (future a)
outcome_at_lem b i a = outcome_is (side_of b) (class_at i) (side_of a) ∙ ap (rule (past_of b) (class_at i)) (ahead_future a)

-- NO PLACE HAS TWO FAULTS. A test: of being another sign (a pair mark may be one), having no sign, standing outside a form and sharing cells,
-- a class beside any neighbours is at most one.
alone : Bool → Bool → Bool → Bool → Bool
alone x a b c = not x || (not a && not b && not c)

abbrev faults_of : Near → Class → List Bool
faults_of n c =
    alone (has_no_sign c) (c is other_sign) (is_outside_form n c) (would_share_cells n c)
    ∷ alone (is_outside_form n c) (c is other_sign) (has_no_sign c) (would_share_cells n c)
    ∷ alone (would_share_cells n c) (c is other_sign) (has_no_sign c) (is_outside_form n c)
    ∷ []

one_fault_all : T (every3 pasts classes futures (λ p c f. holds (faults_of (view p f) c)))
unfolding alone view
one_fault_all = tt

faults_at : (b : Side) (c : Class) (a : Side) → Hold (faults_of (near b a) c)
faults_at b c a =
    hold (faults_of (near b a) c)
    (subst (λ (n : Near). T (holds (faults_of n c))) (sym (near_is b a))
    (at3 pasts classes futures (λ p c f. holds (faults_of (view p f) c)) one_fault_all (past b) c (ahead_of a)))

alone_at : (x a b c : Bool) → T (alone x a b c) → T x → (x ≡ true) × (a ≡ false) × (b ≡ false) × (c ≡ false)
unfolding alone
alone_at true false false false t u = (refl, refl, refl, refl)
alone_at true false false true t u = absurd t
alone_at true false true c t u = absurd t
alone_at true true b c t u = absurd t
alone_at false a b c t u = absurd u

-- what is not another sign is no pair mark
pub unmarked : (s : Sort) → class s is other_sign ≡ false → mark_of s ≡ none
unfolding class mark_of
unmarked (letter c b) e = refl
unmarked (digit d) e = refl
unmarked (full_stop b) e = refl
unmarked comma e = refl
unmarked hyphen e = refl
unmarked dash e = refl
unmarked fraction_bar e = refl
unmarked (ordinal b) e = refl
unmarked (pair_mark k b w) e = absurd (true≢false e)
unmarked (percent w) e = refl
unmarked (plain w) e = refl
unmarked no_sign e = refl

fits_unmarked : (o : Opens) (s : Sort) → class s is other_sign ≡ false → fits o s ≡ true
unfolding fits
fits_unmarked o s e = ap (mark_fits o) (unmarked s e)

-- the fault that is found at a place
abbrev pub found : Bool → Outcome → Option Cause
found false x = some breaks_pair
found true (fault c) = some c
found true silent = none
found true (sign w) = none

pub faulty_found : (p : Place) (c : Cause) → Faulty p c → found (fits_at p) (outcome_at p) ≡ some c
unfolding outcome
faulty_found p c (without_sign t) =
    let h = alone_at _ _ _ _ (faults_at (side_of p.before) (class_of p) (side_of p.after)).0 t in
    simp (fits_unmarked (open_after p.before) p.here.1 h.1, h.0)
faulty_found p c (against_pair_rule t) = simp (false_of (fits_at p) t)
faulty_found p c (out_of_form t) =
    let h = alone_at _ _ _ _ (faults_at (side_of p.before) (class_of p) (side_of p.after)).1.0 t in
    simp (fits_unmarked (open_after p.before) p.here.1 h.1, h.0, h.2)
faulty_found p c (sharing_cells t) =
    let h = alone_at _ _ _ _ (faults_at (side_of p.before) (class_of p) (side_of p.after)).1.1.0 t in
    simp (fits_unmarked (open_after p.before) p.here.1 h.1, h.0, h.2, h.3)

-- and back: what is found is a fault
written_sound : (n : Near) (c : Class) → found true (written n c) ≡ none
unfolding written
written_sound n a_to_j = refl
written_sound n other_small = refl
written_sound n capital = refl
written_sound n one = refl
written_sound n other_digit = refl
written_sound n a_stop = go (stop_of_ordinal n)
  where
    go : (b : Bool) → found true (cond b silent (sign (point_way n))) ≡ none
    go true = refl
    go false = refl
written_sound n a_comma = refl
written_sound n a_hyphen = refl
written_sound n a_dash = refl
written_sound n a_bar = refl
written_sound n masculine = refl
written_sound n feminine = refl
written_sound n a_percent = refl
written_sound n other_sign = refl
written_sound n unlisted = refl

pub found_faulty : (p : Place) (c : Cause) → found (fits_at p) (outcome_at p) ≡ some c → Faulty p c
unfolding outcome
found_faulty p c =
    go (fits_at p) refl (has_no_sign (class_of p)) refl (is_outside_form (near_of p) (class_of p)) refl (would_share_cells (near_of p) (class_of p)) refl
  where
    holds_at : {b : Bool} → b ≡ true → T b
    holds_at e = subst T (sym e) tt

    this : {d : Cause} → Faulty p d → some d ≡ some c → Faulty p c
    this {d} h e = let z : d ≡ c = cc in subst (Faulty p) z h

    go : (a : Bool) → fits_at p ≡ a → (x : Bool) → has_no_sign (class_of p) ≡ x → (y : Bool) → is_outside_form (near_of p) (class_of p) ≡ y
        → (z : Bool) → would_share_cells (near_of p) (class_of p) ≡ z
        → found a (cond x (fault lacks_sign) (cond y (fault outside_form) (cond z (fault shares_cells) (written (near_of p) (class_of p))))) ≡ some c
        → Faulty p c
    go false ea x ex y ey z ez e = this (against_pair_rule (subst (λ (b : Bool). T (not b)) (sym ea) tt)) e
    go true ea true ex y ey z ez e = this (without_sign (holds_at ex)) e
    go true ea false ex true ey z ez e = this (out_of_form (holds_at ey)) e
    go true ea false ex false ey true ez e = this (sharing_cells (holds_at ez)) e
    go true ea false ex false ey false ez e = nothing (sym (written_sound (near_of p) (class_of p)) ∙ e)
