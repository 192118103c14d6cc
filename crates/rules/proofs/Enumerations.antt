-- Printed by tools/print-enumerations.sh from the declarations: change those, and print it again.
-- The finite enumerations of the rules as `Finite` types, and that a member is known by its number. Assumes nothing.
use mathlib.Core.Path.{◌≡◌, refl, sym, ◌∙◌, ap}
use mathlib.Core.Bool.{Bool}
use mathlib.Core.List.{List, [], ◌∷◌}
use Prim.Native.Nat.{ℕ}
use lib.Dec.{T, eqb, eqb→eq}
use lib.ListN.{get_or}
use Rattle.rules.proofs.Finite.{Finite, All, all}
use Rattle.rules.specs.Sorts.{Class, a_to_j, other_small, capital, one, other_digit, a_stop, a_comma, a_hyphen, a_dash, a_bar, masculine, feminine, a_percent, other_sign, unlisted, class_number}
use Rattle.rules.specs.Signs.{Way, bare, one_capital, all_capitals, separated, first_digit, first_lower, lower, denominator, ordinal_mark, inside}
use Rattle.rules.specs.Places.{Cause, lacks_sign, breaks_pair, outside_form, shares_cells}
use Rattle.rules.proofs.States.{Past, free, lone, caps, mixed, plain_on, past_on, under_one, under, past_bar, past_stop, past_point, past_dash, past_hyphen, past_feminine, past_percent, Future, rest, caps_on, mixed_on, digits_on, form_on, bar_on, stop_on, mark_on, Mode, Free, Lone, Mixed, Whole1, Under1, End, Hyphen, Fem, Percent, Owing, Dash, Whole2, Num, Low, Under, Mid, Kind, a_digit, a_hyphen, a_lower_zero}

-- Class
abbrev pub class_list : List Class
class_list =
    a_to_j ∷ other_small ∷ capital ∷ one ∷ other_digit ∷ a_stop ∷ a_comma ∷ a_hyphen ∷ a_dash ∷ a_bar ∷ masculine
    ∷ feminine ∷ a_percent ∷ other_sign ∷ unlisted ∷ []

pub class_every : (f : Class → Bool) → All f class_list → (x : Class) → T (f x)
class_every f a a_to_j = a.0
class_every f a other_small = a.1.0
class_every f a capital = a.1.1.0
class_every f a one = a.1.1.1.0
class_every f a other_digit = a.1.1.1.1.0
class_every f a a_stop = a.1.1.1.1.1.0
class_every f a a_comma = a.1.1.1.1.1.1.0
class_every f a a_hyphen = a.1.1.1.1.1.1.1.0
class_every f a a_dash = a.1.1.1.1.1.1.1.1.0
class_every f a a_bar = a.1.1.1.1.1.1.1.1.1.0
class_every f a masculine = a.1.1.1.1.1.1.1.1.1.1.0
class_every f a feminine = a.1.1.1.1.1.1.1.1.1.1.1.0
class_every f a a_percent = a.1.1.1.1.1.1.1.1.1.1.1.1.0
class_every f a other_sign = a.1.1.1.1.1.1.1.1.1.1.1.1.1.0
class_every f a unlisted = a.1.1.1.1.1.1.1.1.1.1.1.1.1.1.0

abbrev pub classes : Finite Class
classes = record { members = class_list; at = λ f t. class_every f (all f class_list t) }

pub class_back_number : (x : Class) → get_or class_list (class_number x) a_to_j ≡ x
class_back_number a_to_j = refl
class_back_number other_small = refl
class_back_number capital = refl
class_back_number one = refl
class_back_number other_digit = refl
class_back_number a_stop = refl
class_back_number a_comma = refl
class_back_number a_hyphen = refl
class_back_number a_dash = refl
class_back_number a_bar = refl
class_back_number masculine = refl
class_back_number feminine = refl
class_back_number a_percent = refl
class_back_number other_sign = refl
class_back_number unlisted = refl

pub class_same : (x y : Class) → T (eqb (class_number x) (class_number y)) → x ≡ y
class_same x y t =
    sym (class_back_number x)
    ∙ ap (λ (n : ℕ). get_or class_list n a_to_j) (eqb→eq (class_number x) (class_number y) t)
    ∙ class_back_number y

-- Way
abbrev pub way_list : List Way
way_list =
    bare ∷ one_capital ∷ all_capitals ∷ separated ∷ first_digit ∷ first_lower ∷ lower ∷ denominator ∷ ordinal_mark
    ∷ inside ∷ []

pub way_every : (f : Way → Bool) → All f way_list → (x : Way) → T (f x)
way_every f a bare = a.0
way_every f a one_capital = a.1.0
way_every f a all_capitals = a.1.1.0
way_every f a separated = a.1.1.1.0
way_every f a first_digit = a.1.1.1.1.0
way_every f a first_lower = a.1.1.1.1.1.0
way_every f a lower = a.1.1.1.1.1.1.0
way_every f a denominator = a.1.1.1.1.1.1.1.0
way_every f a ordinal_mark = a.1.1.1.1.1.1.1.1.0
way_every f a inside = a.1.1.1.1.1.1.1.1.1.0

abbrev pub ways : Finite Way
ways = record { members = way_list; at = λ f t. way_every f (all f way_list t) }

abbrev pub way_number : Way → ℕ
way_number bare = 0
way_number one_capital = 1
way_number all_capitals = 2
way_number separated = 3
way_number first_digit = 4
way_number first_lower = 5
way_number lower = 6
way_number denominator = 7
way_number ordinal_mark = 8
way_number inside = 9

pub way_back_number : (x : Way) → get_or way_list (way_number x) bare ≡ x
way_back_number bare = refl
way_back_number one_capital = refl
way_back_number all_capitals = refl
way_back_number separated = refl
way_back_number first_digit = refl
way_back_number first_lower = refl
way_back_number lower = refl
way_back_number denominator = refl
way_back_number ordinal_mark = refl
way_back_number inside = refl

pub way_same : (x y : Way) → T (eqb (way_number x) (way_number y)) → x ≡ y
way_same x y t =
    sym (way_back_number x)
    ∙ ap (λ (n : ℕ). get_or way_list n bare) (eqb→eq (way_number x) (way_number y) t)
    ∙ way_back_number y

-- Cause
abbrev pub cause_list : List Cause
cause_list = lacks_sign ∷ breaks_pair ∷ outside_form ∷ shares_cells ∷ []

pub cause_every : (f : Cause → Bool) → All f cause_list → (x : Cause) → T (f x)
cause_every f a lacks_sign = a.0
cause_every f a breaks_pair = a.1.0
cause_every f a outside_form = a.1.1.0
cause_every f a shares_cells = a.1.1.1.0

abbrev pub causes : Finite Cause
causes = record { members = cause_list; at = λ f t. cause_every f (all f cause_list t) }

abbrev pub cause_number : Cause → ℕ
cause_number lacks_sign = 0
cause_number breaks_pair = 1
cause_number outside_form = 2
cause_number shares_cells = 3

pub cause_back_number : (x : Cause) → get_or cause_list (cause_number x) lacks_sign ≡ x
cause_back_number lacks_sign = refl
cause_back_number breaks_pair = refl
cause_back_number outside_form = refl
cause_back_number shares_cells = refl

pub cause_same : (x y : Cause) → T (eqb (cause_number x) (cause_number y)) → x ≡ y
cause_same x y t =
    sym (cause_back_number x)
    ∙ ap (λ (n : ℕ). get_or cause_list n lacks_sign) (eqb→eq (cause_number x) (cause_number y) t)
    ∙ cause_back_number y

-- Past
abbrev pub past_list : List Past
past_list =
    free ∷ lone ∷ caps ∷ mixed ∷ plain_on ∷ past_on ∷ under_one ∷ under ∷ past_bar ∷ past_stop ∷ past_point ∷ past_dash
    ∷ past_hyphen ∷ past_feminine ∷ past_percent ∷ []

pub past_every : (f : Past → Bool) → All f past_list → (x : Past) → T (f x)
past_every f a free = a.0
past_every f a lone = a.1.0
past_every f a caps = a.1.1.0
past_every f a mixed = a.1.1.1.0
past_every f a plain_on = a.1.1.1.1.0
past_every f a past_on = a.1.1.1.1.1.0
past_every f a under_one = a.1.1.1.1.1.1.0
past_every f a under = a.1.1.1.1.1.1.1.0
past_every f a past_bar = a.1.1.1.1.1.1.1.1.0
past_every f a past_stop = a.1.1.1.1.1.1.1.1.1.0
past_every f a past_point = a.1.1.1.1.1.1.1.1.1.1.0
past_every f a past_dash = a.1.1.1.1.1.1.1.1.1.1.1.0
past_every f a past_hyphen = a.1.1.1.1.1.1.1.1.1.1.1.1.0
past_every f a past_feminine = a.1.1.1.1.1.1.1.1.1.1.1.1.1.0
past_every f a past_percent = a.1.1.1.1.1.1.1.1.1.1.1.1.1.1.0

abbrev pub pasts : Finite Past
pasts = record { members = past_list; at = λ f t. past_every f (all f past_list t) }

abbrev pub past_number : Past → ℕ
past_number free = 0
past_number lone = 1
past_number caps = 2
past_number mixed = 3
past_number plain_on = 4
past_number past_on = 5
past_number under_one = 6
past_number under = 7
past_number past_bar = 8
past_number past_stop = 9
past_number past_point = 10
past_number past_dash = 11
past_number past_hyphen = 12
past_number past_feminine = 13
past_number past_percent = 14

pub past_back_number : (x : Past) → get_or past_list (past_number x) free ≡ x
past_back_number free = refl
past_back_number lone = refl
past_back_number caps = refl
past_back_number mixed = refl
past_back_number plain_on = refl
past_back_number past_on = refl
past_back_number under_one = refl
past_back_number under = refl
past_back_number past_bar = refl
past_back_number past_stop = refl
past_back_number past_point = refl
past_back_number past_dash = refl
past_back_number past_hyphen = refl
past_back_number past_feminine = refl
past_back_number past_percent = refl

pub past_same : (x y : Past) → T (eqb (past_number x) (past_number y)) → x ≡ y
past_same x y t =
    sym (past_back_number x)
    ∙ ap (λ (n : ℕ). get_or past_list n free) (eqb→eq (past_number x) (past_number y) t)
    ∙ past_back_number y

-- Future
abbrev pub future_list : List Future
future_list = rest ∷ caps_on ∷ mixed_on ∷ digits_on ∷ form_on ∷ bar_on ∷ stop_on ∷ mark_on ∷ []

pub future_every : (f : Future → Bool) → All f future_list → (x : Future) → T (f x)
future_every f a rest = a.0
future_every f a caps_on = a.1.0
future_every f a mixed_on = a.1.1.0
future_every f a digits_on = a.1.1.1.0
future_every f a form_on = a.1.1.1.1.0
future_every f a bar_on = a.1.1.1.1.1.0
future_every f a stop_on = a.1.1.1.1.1.1.0
future_every f a mark_on = a.1.1.1.1.1.1.1.0

abbrev pub futures : Finite Future
futures = record { members = future_list; at = λ f t. future_every f (all f future_list t) }

abbrev pub future_number : Future → ℕ
future_number rest = 0
future_number caps_on = 1
future_number mixed_on = 2
future_number digits_on = 3
future_number form_on = 4
future_number bar_on = 5
future_number stop_on = 6
future_number mark_on = 7

pub future_back_number : (x : Future) → get_or future_list (future_number x) rest ≡ x
future_back_number rest = refl
future_back_number caps_on = refl
future_back_number mixed_on = refl
future_back_number digits_on = refl
future_back_number form_on = refl
future_back_number bar_on = refl
future_back_number stop_on = refl
future_back_number mark_on = refl

pub future_same : (x y : Future) → T (eqb (future_number x) (future_number y)) → x ≡ y
future_same x y t =
    sym (future_back_number x)
    ∙ ap (λ (n : ℕ). get_or future_list n rest) (eqb→eq (future_number x) (future_number y) t)
    ∙ future_back_number y

-- Mode
abbrev pub mode_list : List Mode
mode_list =
    Free ∷ Lone ∷ Mixed ∷ Whole1 ∷ Under1 ∷ End ∷ Hyphen ∷ Fem ∷ Percent ∷ Owing ∷ Dash ∷ Whole2 ∷ Num ∷ Low ∷ Under
    ∷ Mid ∷ []

pub mode_every : (f : Mode → Bool) → All f mode_list → (x : Mode) → T (f x)
mode_every f a Free = a.0
mode_every f a Lone = a.1.0
mode_every f a Mixed = a.1.1.0
mode_every f a Whole1 = a.1.1.1.0
mode_every f a Under1 = a.1.1.1.1.0
mode_every f a End = a.1.1.1.1.1.0
mode_every f a Hyphen = a.1.1.1.1.1.1.0
mode_every f a Fem = a.1.1.1.1.1.1.1.0
mode_every f a Percent = a.1.1.1.1.1.1.1.1.0
mode_every f a Owing = a.1.1.1.1.1.1.1.1.1.0
mode_every f a Dash = a.1.1.1.1.1.1.1.1.1.1.0
mode_every f a Whole2 = a.1.1.1.1.1.1.1.1.1.1.1.0
mode_every f a Num = a.1.1.1.1.1.1.1.1.1.1.1.1.0
mode_every f a Low = a.1.1.1.1.1.1.1.1.1.1.1.1.1.0
mode_every f a Under = a.1.1.1.1.1.1.1.1.1.1.1.1.1.1.0
mode_every f a Mid = a.1.1.1.1.1.1.1.1.1.1.1.1.1.1.1.0

abbrev pub modes : Finite Mode
modes = record { members = mode_list; at = λ f t. mode_every f (all f mode_list t) }

abbrev pub mode_number : Mode → ℕ
mode_number Free = 0
mode_number Lone = 1
mode_number Mixed = 2
mode_number Whole1 = 3
mode_number Under1 = 4
mode_number End = 5
mode_number Hyphen = 6
mode_number Fem = 7
mode_number Percent = 8
mode_number Owing = 9
mode_number Dash = 10
mode_number Whole2 = 11
mode_number Num = 12
mode_number Low = 13
mode_number Under = 14
mode_number Mid = 15

pub mode_back_number : (x : Mode) → get_or mode_list (mode_number x) Free ≡ x
mode_back_number Free = refl
mode_back_number Lone = refl
mode_back_number Mixed = refl
mode_back_number Whole1 = refl
mode_back_number Under1 = refl
mode_back_number End = refl
mode_back_number Hyphen = refl
mode_back_number Fem = refl
mode_back_number Percent = refl
mode_back_number Owing = refl
mode_back_number Dash = refl
mode_back_number Whole2 = refl
mode_back_number Num = refl
mode_back_number Low = refl
mode_back_number Under = refl
mode_back_number Mid = refl

pub mode_same : (x y : Mode) → T (eqb (mode_number x) (mode_number y)) → x ≡ y
mode_same x y t =
    sym (mode_back_number x)
    ∙ ap (λ (n : ℕ). get_or mode_list n Free) (eqb→eq (mode_number x) (mode_number y) t)
    ∙ mode_back_number y

-- Kind
abbrev pub kind_list : List Kind
kind_list = a_digit ∷ a_hyphen ∷ a_lower_zero ∷ []

pub kind_every : (f : Kind → Bool) → All f kind_list → (x : Kind) → T (f x)
kind_every f a a_digit = a.0
kind_every f a a_hyphen = a.1.0
kind_every f a a_lower_zero = a.1.1.0

abbrev pub kinds : Finite Kind
kinds = record { members = kind_list; at = λ f t. kind_every f (all f kind_list t) }

abbrev pub kind_number : Kind → ℕ
kind_number a_digit = 0
kind_number a_hyphen = 1
kind_number a_lower_zero = 2

pub kind_back_number : (x : Kind) → get_or kind_list (kind_number x) a_digit ≡ x
kind_back_number a_digit = refl
kind_back_number a_hyphen = refl
kind_back_number a_lower_zero = refl

pub kind_same : (x y : Kind) → T (eqb (kind_number x) (kind_number y)) → x ≡ y
kind_same x y t =
    sym (kind_back_number x)
    ∙ ap (λ (n : ℕ). get_or kind_list n a_digit) (eqb→eq (kind_number x) (kind_number y) t)
    ∙ kind_back_number y
