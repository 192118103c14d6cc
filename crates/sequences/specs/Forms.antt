-- Well-formed UTF-8 (paper 01, "The line program": "reads UTF-8 lines"; Unicode, tables 3-6 and 3-7). In order: ranges of bytes; table 3-7; what a
-- well-formed sequence is; the code point of one, by table 3-6. Not here: bytes that are outside any (`Points`). Assumes nothing.
use Rattle.std.specs.Prelude.{Bool, true, false, ◌&&◌, List, [], ◌∷◌, ◌≡◌, ℕ, ◌+◌, ◌-◌, ◌*◌, ◌<◌, T, leb, length, get_or}

-- a range of bytes, with both its ends
abbrev pub Range : Type 0
Range = ℕ × ℕ

infix 70 ◌to◌
abbrev pub ◌to◌ : ℕ → ℕ → Range
from to last = (from, last)

abbrev pub within : Range → ℕ → Bool
within r b = leb r.0 b && leb b r.1

-- TABLE 3-7, "Well-Formed UTF-8 Byte Sequences": of each line, the ranges of its first, second, third and fourth byte.
abbrev pub Form : Type 0
Form = List Range

abbrev pub forms : List Form
forms =
    (0x00 to 0x7f ∷ [])  -- U+0000 to U+007F
    ∷ (0xc2 to 0xdf ∷ 0x80 to 0xbf ∷ [])  -- U+0080 to U+07FF
    ∷ (0xe0 to 0xe0 ∷ 0xa0 to 0xbf ∷ 0x80 to 0xbf ∷ [])  -- U+0800 to U+0FFF
    ∷ (0xe1 to 0xec ∷ 0x80 to 0xbf ∷ 0x80 to 0xbf ∷ [])  -- U+1000 to U+CFFF
    ∷ (0xed to 0xed ∷ 0x80 to 0x9f ∷ 0x80 to 0xbf ∷ [])  -- U+D000 to U+D7FF
    ∷ (0xee to 0xef ∷ 0x80 to 0xbf ∷ 0x80 to 0xbf ∷ [])  -- U+E000 to U+FFFF
    ∷ (0xf0 to 0xf0 ∷ 0x90 to 0xbf ∷ 0x80 to 0xbf ∷ 0x80 to 0xbf ∷ [])  -- U+10000 to U+3FFFF
    ∷ (0xf1 to 0xf3 ∷ 0x80 to 0xbf ∷ 0x80 to 0xbf ∷ 0x80 to 0xbf ∷ [])  -- U+40000 to U+FFFFF
    ∷ (0xf4 to 0xf4 ∷ 0x80 to 0x8f ∷ 0x80 to 0xbf ∷ 0x80 to 0xbf ∷ [])  -- U+100000 to U+10FFFF
    ∷ []

-- some bytes begin with one of each range, in order
abbrev pub begin : Form → List ℕ → Bool
begin [] bs = true
begin (r ∷ f) [] = false
begin (r ∷ f) (b ∷ bs) = within r b && begin f bs

-- A WELL-FORMED SEQUENCE has a line of the table: a byte in each of its ranges, and no more.
pub record WellFormed (s : List ℕ) : Type 0 where
  pub line : ℕ
  pub there : line < length forms
  pub whole : length s ≡ length (get_or forms line [])
  pub fits : T (begin (get_or forms line []) s)

-- TABLE 3-6, "UTF-8 Bit Distribution": what the first byte of a sequence of n bytes has in front of its bits of the code point (0, 110, 1110, 11110)
abbrev pub mark_of : ℕ → ℕ
mark_of n = get_or (0x00 ∷ 0x00 ∷ 0xc0 ∷ 0xe0 ∷ 0xf0 ∷ []) n 0

-- a later byte has 10 in front of six bits
abbrev pub later_mark : ℕ
later_mark = 0x80

-- the bits so far, and six of each later byte behind them
abbrev pub joined : ℕ → List ℕ → ℕ
joined bits [] = bits
joined bits (b ∷ bs) = joined (bits * 64 + (b - later_mark)) bs

-- the code point of a well-formed sequence
abbrev pub point_of : List ℕ → ℕ
point_of [] = 0
point_of (b ∷ bs) = joined (b - mark_of (length (b ∷ bs))) bs
