-- The lines of an input (paper 01, "The line program": "Byte 10 ends a line and so does the end of the input after at least one byte."). In order: byte 10;
-- the lines, byte by byte; the same as a relation, to be held against the sentence. That the first is the second, and that no other cutting is, is
-- claimed in `Claims`. Not here: chunks (`Chunks`), the room that a line is gathered in (`Held`), what is answered to a line. Assumes nothing.
use Rattle.std.specs.Prelude.{cond, List, [], ◌∷◌, ◌++◌, ◌≡◌, ℕ, eqb}

-- "Byte 10 ends a line"
abbrev pub line_end : ℕ
line_end = 10

-- "and so does the end of the input after at least one byte": what the end of the input makes of an unfinished line
abbrev pub last_line : List ℕ → List (List ℕ)
last_line [] = []
last_line (b ∷ bs) = (b ∷ bs) ∷ []

-- the lines of an unfinished line and the bytes behind it
abbrev pub lines_from : List ℕ → List ℕ → List (List ℕ)
lines_from so_far [] = last_line so_far
lines_from so_far (b ∷ bs) = cond (eqb b line_end) (so_far ∷ lines_from [] bs) (lines_from (so_far ++ b ∷ []) bs)

-- THE LINES OF AN INPUT, without their ends. The empty input has none; an empty line is a line.
abbrev pub lines_of : List ℕ → List (List ℕ)
lines_of input = lines_from [] input

-- THE SENTENCE AS A RELATION. No byte is a line end:
abbrev pub NoEndIn : List ℕ → Type 0
NoEndIn [] = Unit {0}
NoEndIn (b ∷ bs) = (b ≡ line_end → ⊥) × NoEndIn bs

-- nor in any of the lines
abbrev pub NoEndInAny : List (List ℕ) → Type 0
NoEndInAny [] = Unit {0}
NoEndInAny (l ∷ ls) = NoEndIn l × NoEndInAny ls

-- lines, "byte 10" behind each
abbrev pub with_ends : List (List ℕ) → List ℕ
with_ends [] = []
with_ends (l ∷ ls) = l ++ line_end ∷ with_ends ls

pub data AreLines (input : List ℕ) : List (List ℕ) → Type 0 where
  -- "Byte 10 ends a line"
  all_end_in_10 : (ls : List (List ℕ)) → NoEndInAny ls → input ≡ with_ends ls → AreLines input ls
  -- "and so does the end of the input after at least one byte"
  last_ends_with_the_input : (ls : List (List ℕ)) (last : List ℕ) → NoEndInAny ls → NoEndIn last → (last ≡ [] → ⊥) → input ≡ with_ends ls ++ last
      → AreLines input (ls ++ last ∷ [])
