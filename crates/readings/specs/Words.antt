-- Printed by tools/print-cell-list.sh from crates/rules/specs/Castilian.antt and tools/readings.txt: change those, and print it again.
-- The word of each cell by its fields, the cells that are letters or signs alone, and what each cell is as the second of a sign of two whose first is none by itself. That
-- they are what the rules say is shown by computed tests (proofs/Tested.antt; of letters and signs alone, in the crate `signs`). Assumes nothing.
use Rattle.std.specs.Prelude.{ℕ, ◌+◌, ◌*◌, ◌^◌, List, [], ◌∷◌, get_or}
use Rattle.readings.specs.Modes.{free, lone, mixed, end, hyphen, fem, percent, owing, dash, whole2, num, under}
use Rattle.readings.specs.Fields.{b_to_j, capital_sign, comma, figure_sign, letter_a, letter_o, line, low_only, mark_or_low, nothing, other_letter, prefix, separator, sign, sign_or_low, stop, usual_at, point_at, capital_at, figure_at, lower_at, kind_at, class_at, then_at, second_at}

-- WHAT A CLASS IS: its number, the mode after it where it is read as usual, and the modes in which it is
abbrev as_letter_a : ℕ
as_letter_a =
    class_at * letter_a + then_at * mixed
    + usual_at * (2 ^ free + 2 ^ lone + 2 ^ mixed + 2 ^ hyphen + 2 ^ percent + 2 ^ owing + 2 ^ dash)

abbrev as_b_to_j : ℕ
as_b_to_j =
    class_at * b_to_j + then_at * mixed
    + usual_at * (2 ^ free + 2 ^ lone + 2 ^ mixed + 2 ^ hyphen + 2 ^ percent + 2 ^ owing + 2 ^ dash)

abbrev as_letter_o : ℕ
as_letter_o =
    class_at * letter_o + then_at * mixed
    + usual_at * (2 ^ free + 2 ^ lone + 2 ^ mixed + 2 ^ end + 2 ^ hyphen + 2 ^ fem + 2 ^ percent + 2 ^ owing + 2 ^ dash + 2 ^ num + 2 ^ under)

abbrev as_other_letter : ℕ
as_other_letter =
    class_at * other_letter + then_at * mixed
    + usual_at * (2 ^ free + 2 ^ lone + 2 ^ mixed + 2 ^ end + 2 ^ hyphen + 2 ^ fem + 2 ^ percent + 2 ^ owing + 2 ^ dash + 2 ^ num + 2 ^ under)

abbrev as_stop : ℕ
as_stop =
    class_at * stop + then_at * free
    + usual_at * (2 ^ free + 2 ^ lone + 2 ^ mixed + 2 ^ end + 2 ^ hyphen + 2 ^ fem + 2 ^ percent + 2 ^ dash + 2 ^ whole2 + 2 ^ under)

abbrev as_comma : ℕ
as_comma =
    class_at * comma + then_at * free
    + usual_at * (2 ^ free + 2 ^ lone + 2 ^ mixed + 2 ^ end + 2 ^ hyphen + 2 ^ fem + 2 ^ percent + 2 ^ dash + 2 ^ whole2 + 2 ^ under)

abbrev as_sign_or_low : ℕ
as_sign_or_low =
    class_at * sign_or_low + then_at * free
    + usual_at * (2 ^ free + 2 ^ lone + 2 ^ mixed + 2 ^ end + 2 ^ hyphen + 2 ^ fem + 2 ^ percent + 2 ^ dash + 2 ^ whole2 + 2 ^ num + 2 ^ under)

abbrev as_mark_or_low : ℕ
as_mark_or_low =
    class_at * mark_or_low + then_at * free
    + usual_at * (2 ^ free + 2 ^ lone + 2 ^ mixed + 2 ^ end + 2 ^ hyphen + 2 ^ fem + 2 ^ percent + 2 ^ dash + 2 ^ whole2 + 2 ^ num + 2 ^ under)

abbrev as_sign : ℕ
as_sign =
    class_at * sign + then_at * free
    + usual_at * (2 ^ free + 2 ^ lone + 2 ^ mixed + 2 ^ end + 2 ^ hyphen + 2 ^ fem + 2 ^ percent + 2 ^ dash + 2 ^ whole2 + 2 ^ num + 2 ^ under)

-- THE WORDS, in the order of the cells
unfoldable pub words : List ℕ
words =
    -- 0: space
    (as_sign + point_at * 0x20)
    -- 1: 1 A a ª
    ∷ (as_letter_a + point_at * 0x61 + capital_at * 0x41 + figure_at * 0x31)
    -- 2: , 1
    ∷ (as_comma + point_at * 0x2c + lower_at * 0x31)
    -- 12: 2 B b
    ∷ (as_b_to_j + point_at * 0x62 + capital_at * 0x42 + figure_at * 0x32)
    -- 3: .
    ∷ (as_stop + point_at * 0x2e)
    -- 13: K k
    ∷ (as_other_letter + point_at * 0x6b + capital_at * 0x4b)
    -- 23: 2 ;
    ∷ (as_sign_or_low + point_at * 0x3b + lower_at * 0x32)
    -- 123: L l
    ∷ (as_other_letter + point_at * 0x6c + capital_at * 0x4c)
    -- 4
    ∷ nothing
    -- 14: 3 C c
    ∷ (as_b_to_j + point_at * 0x63 + capital_at * 0x43 + figure_at * 0x33)
    -- 24: 9 I i
    ∷ (as_b_to_j + point_at * 0x69 + capital_at * 0x49 + figure_at * 0x39)
    -- 124: 6 F f
    ∷ (as_b_to_j + point_at * 0x66 + capital_at * 0x46 + figure_at * 0x36)
    -- 34: Í í
    ∷ (as_other_letter + point_at * 0xed + capital_at * 0xcd)
    -- 134: M m
    ∷ (as_other_letter + point_at * 0x6d + capital_at * 0x4d)
    -- 234: S s
    ∷ (as_other_letter + point_at * 0x73 + capital_at * 0x53)
    -- 1234: P p
    ∷ (as_other_letter + point_at * 0x70 + capital_at * 0x50)
    -- 5
    ∷ (class_at * separator + kind_at * 0)
    -- 15: 5 E e
    ∷ (as_b_to_j + point_at * 0x65 + capital_at * 0x45 + figure_at * 0x35)
    -- 25: 3 :
    ∷ (as_sign_or_low + point_at * 0x3a + lower_at * 0x33)
    -- 125: 8 H h
    ∷ (as_b_to_j + point_at * 0x68 + capital_at * 0x48 + figure_at * 0x38)
    -- 35: 9 emphasis opens emphasis closes
    ∷ (as_mark_or_low + lower_at * 0x39 + kind_at * 4)
    -- 135: O o º
    ∷ (as_letter_o + point_at * 0x6f + capital_at * 0x4f)
    -- 235: ! 6 ¡
    ∷ (as_mark_or_low + lower_at * 0x36 + kind_at * 1)
    -- 1235: R r
    ∷ (as_other_letter + point_at * 0x72 + capital_at * 0x52)
    -- 45
    ∷ (class_at * prefix + kind_at * 1)
    -- 145: 4 D d
    ∷ (as_b_to_j + point_at * 0x64 + capital_at * 0x44 + figure_at * 0x34)
    -- 245: 0 J j
    ∷ (as_b_to_j + point_at * 0x6a + capital_at * 0x4a + figure_at * 0x30)
    -- 1245: 7 G g
    ∷ (as_b_to_j + point_at * 0x67 + capital_at * 0x47 + figure_at * 0x37)
    -- 345: )
    ∷ (as_sign + point_at * 0x29)
    -- 1345: N n
    ∷ (as_other_letter + point_at * 0x6e + capital_at * 0x4e)
    -- 2345: T t
    ∷ (as_other_letter + point_at * 0x74 + capital_at * 0x54)
    -- 12345: Q q
    ∷ (as_other_letter + point_at * 0x71 + capital_at * 0x51)
    -- 6
    ∷ (class_at * prefix + kind_at * 2)
    -- 16
    ∷ nothing
    -- 26: 5 ? ¿
    ∷ (as_mark_or_low + lower_at * 0x35 + kind_at * 0)
    -- 126: (
    ∷ (as_sign + point_at * 0x28)
    -- 36: -
    ∷ (class_at * line + point_at * 0x2d)
    -- 136: U u
    ∷ (as_other_letter + point_at * 0x75 + capital_at * 0x55)
    -- 236: 8 « »
    ∷ (as_mark_or_low + lower_at * 0x38 + kind_at * 2)
    -- 1236: V v
    ∷ (as_other_letter + point_at * 0x76 + capital_at * 0x56)
    -- 46
    ∷ (class_at * capital_sign)
    -- 146
    ∷ nothing
    -- 246
    ∷ nothing
    -- 1246
    ∷ nothing
    -- 346: Ó ó
    ∷ (as_other_letter + point_at * 0xf3 + capital_at * 0xd3)
    -- 1346: X x
    ∷ (as_other_letter + point_at * 0x78 + capital_at * 0x58)
    -- 2346: É é
    ∷ (as_other_letter + point_at * 0xe9 + capital_at * 0xc9)
    -- 12346
    ∷ nothing
    -- 56
    ∷ nothing
    -- 156
    ∷ nothing
    -- 256: 4
    ∷ (class_at * low_only + lower_at * 0x34)
    -- 1256: Ü ü
    ∷ (as_other_letter + point_at * 0xfc + capital_at * 0xdc)
    -- 356: 0
    ∷ (class_at * low_only + lower_at * 0x30)
    -- 1356: Z z
    ∷ (as_other_letter + point_at * 0x7a + capital_at * 0x5a)
    -- 2356: 7 =
    ∷ (as_sign_or_low + point_at * 0x3d + lower_at * 0x37)
    -- 12356: Á á
    ∷ (as_other_letter + point_at * 0xe1 + capital_at * 0xc1)
    -- 456
    ∷ (class_at * prefix + kind_at * 3)
    -- 1456
    ∷ nothing
    -- 2456: W w
    ∷ (as_other_letter + point_at * 0x77 + capital_at * 0x57)
    -- 12456: Ñ ñ
    ∷ (as_other_letter + point_at * 0xf1 + capital_at * 0xd1)
    -- 3456
    ∷ (class_at * figure_sign)
    -- 13456: Y y
    ∷ (as_other_letter + point_at * 0x79 + capital_at * 0x59)
    -- 23456: Ú ú
    ∷ (as_other_letter + point_at * 0xfa + capital_at * 0xda)
    -- 123456
    ∷ nothing
    ∷ []

-- THE CELLS that are small letters, and those that are signs, wherever nothing is begun and in a run with a small letter: a bit for each
abbrev pub letters_alone : ℕ
letters_alone =
    -- 1: 1 A a ª
    2 ^ 1
    -- 12: 2 B b
    + 2 ^ 3
    -- 13: K k
    + 2 ^ 5
    -- 123: L l
    + 2 ^ 7
    -- 14: 3 C c
    + 2 ^ 9
    -- 24: 9 I i
    + 2 ^ 10
    -- 124: 6 F f
    + 2 ^ 11
    -- 34: Í í
    + 2 ^ 12
    -- 134: M m
    + 2 ^ 13
    -- 234: S s
    + 2 ^ 14
    -- 1234: P p
    + 2 ^ 15
    -- 15: 5 E e
    + 2 ^ 17
    -- 125: 8 H h
    + 2 ^ 19
    -- 135: O o º
    + 2 ^ 21
    -- 1235: R r
    + 2 ^ 23
    -- 145: 4 D d
    + 2 ^ 25
    -- 245: 0 J j
    + 2 ^ 26
    -- 1245: 7 G g
    + 2 ^ 27
    -- 1345: N n
    + 2 ^ 29
    -- 2345: T t
    + 2 ^ 30
    -- 12345: Q q
    + 2 ^ 31
    -- 136: U u
    + 2 ^ 37
    -- 1236: V v
    + 2 ^ 39
    -- 346: Ó ó
    + 2 ^ 44
    -- 1346: X x
    + 2 ^ 45
    -- 2346: É é
    + 2 ^ 46
    -- 1256: Ü ü
    + 2 ^ 51
    -- 1356: Z z
    + 2 ^ 53
    -- 12356: Á á
    + 2 ^ 55
    -- 2456: W w
    + 2 ^ 58
    -- 12456: Ñ ñ
    + 2 ^ 59
    -- 13456: Y y
    + 2 ^ 61
    -- 23456: Ú ú
    + 2 ^ 62

abbrev pub signs_alone : ℕ
signs_alone =
    -- 0: space
    2 ^ 0
    -- 2: , 1
    + 2 ^ 2
    -- 3: .
    + 2 ^ 4
    -- 23: 2 ;
    + 2 ^ 6
    -- 25: 3 :
    + 2 ^ 18
    -- 345: )
    + 2 ^ 28
    -- 126: (
    + 2 ^ 35
    -- 2356: 7 =
    + 2 ^ 54

-- the word of a byte; one that is no cell begins no sign
abbrev pub word_of : ℕ → ℕ
word_of c = get_or words c 0

-- AS THE SECOND of a sign of two cells, in the order of the cells: the sign for each number of the first, in its field; of a pair mark the opener
unfoldable pub seconds : List ℕ
seconds =
    -- 0
    0
    -- 1
    ∷ 0
    -- 2: / }
    ∷ (second_at 2 * 0x2f + second_at 3 * 0x7d)
    -- 12: ₿
    ∷ (second_at 3 * 0x20bf)
    -- 3: \
    ∷ (second_at 0 * 0x5c)
    -- 13: <
    ∷ (second_at 0 * 0x3c)
    -- 23
    ∷ 0
    -- 123: {
    ∷ (second_at 0 * 0x7b)
    -- 4
    ∷ 0
    -- 14: ¢
    ∷ (second_at 1 * 0xa2)
    -- 24
    ∷ 0
    -- 124
    ∷ 0
    -- 34
    ∷ 0
    -- 134
    ∷ 0
    -- 234: $
    ∷ (second_at 3 * 0x24)
    -- 1234
    ∷ 0
    -- 5
    ∷ 0
    -- 15: €
    ∷ (second_at 3 * 0x20ac)
    -- 25
    ∷ 0
    -- 125
    ∷ 0
    -- 35
    ∷ 0
    -- 135
    ∷ 0
    -- 235
    ∷ 0
    -- 1235: †
    ∷ (second_at 0 * 0x2020)
    -- 45
    ∷ 0
    -- 145
    ∷ 0
    -- 245
    ∷ 0
    -- 1245
    ∷ 0
    -- 345
    ∷ 0
    -- 1345
    ∷ 0
    -- 2345
    ∷ 0
    -- 12345
    ∷ 0
    -- 6
    ∷ 0
    -- 16
    ∷ 0
    -- 26
    ∷ 0
    -- 126
    ∷ 0
    -- 36
    ∷ 0
    -- 136
    ∷ 0
    -- 236: ‘
    ∷ (second_at 2 * 0x2018)
    -- 1236
    ∷ 0
    -- 46
    ∷ 0
    -- 146
    ∷ 0
    -- 246
    ∷ 0
    -- 1246
    ∷ 0
    -- 346
    ∷ 0
    -- 1346
    ∷ 0
    -- 2346: £
    ∷ (second_at 0 * 0xa3)
    -- 12346: &
    ∷ (second_at 2 * 0x26)
    -- 56
    ∷ 0
    -- 156
    ∷ 0
    -- 256
    ∷ 0
    -- 1256
    ∷ 0
    -- 356: %
    ∷ (second_at 3 * 0x25)
    -- 1356
    ∷ 0
    -- 2356
    ∷ 0
    -- 12356
    ∷ 0
    -- 456
    ∷ 0
    -- 1456
    ∷ 0
    -- 2456
    ∷ 0
    -- 12456
    ∷ 0
    -- 3456
    ∷ 0
    -- 13456: ¥
    ∷ (second_at 3 * 0xa5)
    -- 23456
    ∷ 0
    -- 123456
    ∷ 0
    ∷ []

-- that of a byte; one that is no cell ends no sign
abbrev pub second_of : ℕ → ℕ
second_of c = get_or seconds c 0
