-- An input that comes by chunks (paper 01, "The line program": a program "reads UTF-8 lines from standard input", and the system gives that by pieces of any
-- length). In order: the lines that end in a chunk, and what it leaves unfinished; chunk after chunk, and the end of the input. That this gives the lines
-- of the whole input is claimed in `Claims`. Not here: the lines of an input (`Lines`). Assumes nothing.
use Rattle.std.specs.Prelude.{cond, List, [], ◌∷◌, ◌++◌, ℕ, eqb}
use Rattle.lines.specs.Lines.{line_end, last_line}

-- the lines that end in a chunk, and the line that it leaves unfinished
pub record Cut : Type 0 where
  pub lines : List (List ℕ)
  pub rest : List ℕ

-- a line before those of a cut
abbrev pub add_line : List ℕ → Cut → Cut
add_line l c = record { lines = l ∷ c.lines; rest = c.rest }

-- "Byte 10 ends a line": a chunk cut behind an unfinished line
abbrev pub cut_all : List ℕ → List ℕ → Cut
cut_all so_far [] = record { lines = []; rest = so_far }
cut_all so_far (b ∷ bs) = cond (eqb b line_end) (add_line so_far (cut_all [] bs)) (cut_all (so_far ++ b ∷ []) bs)

-- chunk after chunk; "and so does the end of the input after at least one byte"
abbrev pub lines_by_chunks : List ℕ → List (List ℕ) → List (List ℕ)
lines_by_chunks so_far [] = last_line so_far
lines_by_chunks so_far (c ∷ cs) = (cut_all so_far c).lines ++ lines_by_chunks (cut_all so_far c).rest cs

-- the input that chunks are the pieces of
abbrev pub joined : List (List ℕ) → List ℕ
joined [] = []
joined (c ∷ cs) = c ++ joined cs
