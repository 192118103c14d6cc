-- The claims of specs/Claims.antt, each by laws of the file that is named as its definitions are. Assumes nothing.
use mathlib.Core.List.{[]}
use mathlib.Core.Path.{refl, sym, ◌∙◌}
use lib.ListN.{drop}
use Rattle.lines.specs.Held.{part_of}
use Rattle.lines.specs.Claims.{LinesAreLines, OneCutting, WorkedLines, OneTaken, HoldsNothing, HoldsOn, LongExactly, HeldIsTheLine, EmptyExactly, ChunksDoNotMatter, TurnEndsLine, TurnLeavesLine}
use Rattle.lines.proofs.Lines.{from_are, lines_only}
use Rattle.lines.proofs.Held.{taken_same, holds_none, holds_part, long_same, held_line, held_empty}
use Rattle.lines.proofs.Chunks.{chunks_from, turn_ends, turn_leaves}

pub lines_are_lines : LinesAreLines
lines_are_lines input = from_are input [] tt

pub one_cutting : OneCutting
one_cutting input a b p q = sym (lines_only input a p) ∙ lines_only input b q

pub worked_lines : WorkedLines
worked_lines = (refl, refl, refl, refl, refl, refl)

pub one_taken : OneTaken
one_taken = taken_same

pub holds_nothing : HoldsNothing
holds_nothing = holds_none

pub holds_on : HoldsOn
holds_on bytes from room held t new p line h = holds_part line room (part_of (drop from bytes)) new held t.held h p.keeps

pub long_exactly : LongExactly
long_exactly = long_same

pub held_is_the_line : HeldIsTheLine
held_is_the_line = held_line

pub empty_exactly : EmptyExactly
empty_exactly = held_empty

pub chunks_do_not_matter : ChunksDoNotMatter
chunks_do_not_matter chunks = chunks_from chunks []

pub turn_ends_line : TurnEndsLine
turn_ends_line = turn_ends

pub turn_leaves_line : TurnLeavesLine
turn_leaves_line = turn_leaves
