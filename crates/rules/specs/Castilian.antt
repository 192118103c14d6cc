-- The sign list (paper 01, "The signs"; document 004, sections 4, 6, 8, 9, 12, 13). In order: letters; digits; pairs; the sign table. A profile's
-- table is its letters, the digits, what it has alone, and what profiles share. To add a sign, add its line. Assumes nothing.
use Rattle.std.specs.Prelude.{true, false, List, [], ◌∷◌, ◌++◌, ℕ, zero, suc, ◌+◌, ◌-◌}
use Prim.Native.Char.{Char, code}
use Rattle.rules.specs.Cells.{dots, cells}
use Rattle.rules.specs.Sorts.{letter, digit, full_stop, comma, hyphen, dash, fraction_bar, ordinal, pair_mark, percent, plain, Item, Table}

-- "Letters: a 1, b 12, c 14, .."
small_letters : List (Char × ℕ)
small_letters =
    ("a", 1) ∷ ("b", 12) ∷ ("c", 14) ∷ ("d", 145) ∷ ("e", 15) ∷ ("f", 124) ∷ ("g", 1245) ∷ ("h", 125) ∷ ("i", 24) ∷ ("j", 245) ∷ ("k", 13)
    ∷ ("l", 123) ∷ ("m", 134) ∷ ("n", 1345) ∷ ("ñ", 12456) ∷ ("o", 135) ∷ ("p", 1234) ∷ ("q", 12345) ∷ ("r", 1235) ∷ ("s", 234)
    ∷ ("t", 2345) ∷ ("u", 136) ∷ ("v", 1236) ∷ ("w", 2456) ∷ ("x", 1346) ∷ ("y", 13456) ∷ ("z", 1356) ∷ ("á", 12356) ∷ ("é", 2346)
    ∷ ("í", 34) ∷ ("ó", 346) ∷ ("ú", 23456) ∷ ("ü", 1256) ∷ []

-- "Each has its capital", Unicode's, which is 32 below.
unfoldable pub letters : List (Char × ℕ) → Table
letters [] = []
letters (l ∷ ls) = (code l.0, letter (dots l.1) false) ∷ (code l.0 - 32, letter (dots l.1) true) ∷ letters ls

-- the digits below n
unfoldable pub digits : ℕ → Table
digits zero = []
digits (suc n) = (code "0" + n, digit n) ∷ digits n

infix 60 ◌written◌
abbrev ◌written◌ : Char → List ℕ → Item
c written ds = (code c, plain (cells ds))

-- "The five kinds ¿?, ¡!, «», ‘’ and emphasis each have an opener and a closer with the same cells."
abbrev pair : ℕ → ℕ → ℕ → List ℕ → Table
pair kind opener closer ds = (opener, pair_mark kind true (cells ds)) ∷ (closer, pair_mark kind false (cells ds)) ∷ []

pairs : Table
pairs =
    pair 0 (code "¿") (code "?") (26 ∷ [])
    ++ pair 1 (code "¡") (code "!") (235 ∷ [])
    ++ pair 2 (code "«") (code "»") (236 ∷ [])
    ++ pair 3 (code "‘") (code "’") (6 ∷ 236 ∷ [])
    ++ pair 4 0xe000 0xe001 (35 ∷ [])

-- The table of the paper, by rows, but for the pairs: what profiles share. A sign that a rule asks for has a sort of its own, and its cells
-- stand in `Signs.own_cells`.
unfoldable pub common : Table
unfolding pairs
common =
    (" " written 0 ∷ [])
    ∷ (code ",", comma)
    ∷ (";" written 23 ∷ [])
    ∷ (":" written 25 ∷ [])
    ∷ ("(" written 126 ∷ [])
    ∷ (")" written 345 ∷ [])
    ∷ ("}" written 456 ∷ 2 ∷ [])
    ∷ ("<" written 5 ∷ 13 ∷ [])
    ∷ (">" written 46 ∷ 2 ∷ [])
    ∷ (code "-", hyphen)
    ∷ (0x2014, dash)
    ∷ ("/" written 6 ∷ 2 ∷ [])
    ∷ ("\\" written 5 ∷ 3 ∷ [])
    ∷ ("&" written 6 ∷ 12346 ∷ [])
    ∷ ("=" written 2356 ∷ [])
    ∷ (code "%", percent (cells (456 ∷ 356 ∷ [])))
    ∷ ("‰" written 456 ∷ 356 ∷ 356 ∷ [])
    ∷ ("€" written 456 ∷ 15 ∷ [])
    ∷ ("$" written 456 ∷ 234 ∷ [])
    ∷ ("¢" written 45 ∷ 14 ∷ [])
    ∷ ("£" written 5 ∷ 2346 ∷ [])
    ∷ ("¥" written 456 ∷ 13456 ∷ [])
    ∷ ("₿" written 456 ∷ 12 ∷ [])
    ∷ ("†" written 5 ∷ 1235 ∷ [])
    ∷ (code "º", ordinal false)
    ∷ (code "ª", ordinal true)
    ∷ (code "⁄", fraction_bar)
    ∷ pairs

-- What Castilian has alone: a full stop without an apostrophe beside it, and a { that may stand anywhere.
unfoldable pub castilian : Table
unfolding small_letters letters digits common
castilian = letters small_letters ++ digits 10 ++ (code ".", full_stop false) ∷ ("{" written 5 ∷ 123 ∷ []) ∷ common
