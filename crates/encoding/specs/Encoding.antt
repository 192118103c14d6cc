-- The bytes of a code point (Unicode, table 3-6). In order: which numbers are code points that UTF-8 has (Unicode's scalar values); their bytes. Assumes nothing.
use Rattle.std.specs.Prelude.{Bool, cond, ◌&&◌, ◌||◌, List, [], ◌∷◌, ◌≡◌, ℕ, ◌+◌, ◌/◌, ◌%◌, ◌≤◌, leb, ltb, length, take}
use Rattle.std.proofs.lemmas.List.Edits.{sets}
use Rattle.rows.specs.Laid.{laid}

-- "scalar values": all up to 10FFFF but the surrogates, D800 to DFFF
unfoldable pub is_scalar : ℕ → Bool
is_scalar c = ltb c 0xd800 || (leb 0xe000 c && leb c 0x10ffff)

-- by how many bytes it takes
unfoldable pub bytes_of : ℕ → List ℕ
bytes_of c =
    cond (ltb c 0x80) (c ∷ [])
    (cond (ltb c 0x800) ((0xc0 + c / 0x40) ∷ (0x80 + c % 0x40) ∷ [])
    (cond (ltb c 0x10000) ((0xe0 + c / 0x1000) ∷ (0x80 + c / 0x40 % 0x40) ∷ (0x80 + c % 0x40) ∷ [])
    ((0xf0 + c / 0x40000) ∷ (0x80 + c / 0x1000 % 0x40) ∷ (0x80 + c / 0x40 % 0x40) ∷ (0x80 + c % 0x40) ∷ [])))

-- a number that is no scalar value is shown as U+FFFD, as a byte outside any sequence is
abbrev pub replacement : ℕ
replacement = 0xfffd

unfoldable pub encoded_of : ℕ → List ℕ
unfolding is_scalar bytes_of
encoded_of c = cond (is_scalar c) (bytes_of c) (bytes_of replacement)

-- WHAT ENCODING PROMISES: how many bytes there are, and that what was lent begins with them, or with as many as it has room for; behind them it is as it was
pub record Encoded (c : ℕ) (lent : List ℕ) (r : ℕ) (new : List ℕ) : Type 0 where
  pub count : r ≡ length (encoded_of c)
  pub bytes : new ≡ laid (take (length lent) (encoded_of c)) lent

-- a row of at most four, stored one behind another, as far as there is room
pub record Wrote (row lent : List ℕ) (r : ℕ) (new : List ℕ) : Type 0 where
  pub count : r ≡ length row
  pub few : r ≤ 4
  pub stored : new ≡ sets lent 0 row
