-- What the functions inside promise one another: what a first byte says, what the later bytes give, the code point at a place, the sequence there. `next_at` has
-- the third for its promise. Assumes nothing.
use Rattle.std.specs.Prelude.{true, false, cond, Option, Some, None, List, [], ◌∷◌, ◌≡◌, ℕ, zero, suc, ◌+◌, ◌-◌, ◌≤◌, ◌<◌, length, take, drop}
use Rattle.sequences.specs.Forms.{Form, ◌to◌, begin, mark_of, joined}
use Rattle.sequences.specs.Points.{length_at, point_at}
use Rattle.sequences.specs.declared.Lead.{Lead}
use Rattle.sequences.specs.declared.Next.{Next}

-- the ranges of n later bytes: the first has its own, the others have 80 to BF
abbrev pub later_form : ℕ → ℕ → ℕ → Form
later_form zero low high = []
later_form (suc n) low high = low to high ∷ later_form n 0x80 0xbf

-- bits below this leave room for those of n later bytes
abbrev pub room_of : ℕ → ℕ
room_of zero = 0x200000
room_of (suc zero) = 0x8000
room_of (suc (suc zero)) = 0x200
room_of (suc (suc (suc n))) = 8

-- n later bytes, the first of them from `low` to `high`, behind `bits`
pub record Fitting (n low high bits : ℕ) : Type 0 where
  pub few : n ≤ 3
  pub lowest : 0x80 ≤ low
  pub highest : high ≤ 0xbf
  pub room : bits < room_of n

-- WHAT A FIRST BYTE SAYS
pub record Begun (b n low high mark : ℕ) : Type 0 where
  pub sequence : (bs : List ℕ) → length_at (b ∷ bs) ≡ cond (begin (later_form n low high) bs) (suc n) 0
  pub marked : mark ≡ mark_of (suc n)
  pub above : mark ≤ b
  pub fitting : Fitting n low high (b - mark)

abbrev pub LeadIs : ℕ → Option Lead → Type 0
LeadIs b (Some l) = Begun b l.later l.least l.most l.mark
LeadIs b None = (bs : List ℕ) → length_at (b ∷ bs) ≡ 0

-- WHAT THE LATER BYTES GIVE
abbrev pub JoinedIs : Form → ℕ → List ℕ → Option ℕ → Type 0
JoinedIs f bits bs (Some v) = (begin f bs ≡ true) × (v ≡ joined bits (take (length f) bs))
JoinedIs f bits bs None = begin f bs ≡ false

-- THE CODE POINT AT A PLACE, and the place behind its bytes: behind one byte where that is outside any sequence
pub record NextIs (bytes rest : List ℕ) (at : ℕ) (r : Next) : Type 0 where
  pub point : r.point ≡ point_at rest
  pub next : r.next ≡ at + suc (length_at rest - 1)
  pub inside : r.next ≤ length bytes

-- THE SEQUENCE AT A PLACE, if one begins there
abbrev pub SequenceIs : List ℕ → ℕ → Option Next → Type 0
SequenceIs bytes at (Some r) = NextIs bytes (drop at bytes) at r
SequenceIs bytes at None = length_at (drop at bytes) ≡ 0
