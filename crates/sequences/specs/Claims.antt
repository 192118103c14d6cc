-- What is proved of the definitions, as types; each is proved under the same name in snake case in proofs/Claims.antt or proofs/Inverse.antt. In order: why sequences may be taken from the left; that tables
-- 3-6 and 3-7 are each other's inverse; one outcome. Assumes nothing.
use Rattle.std.specs.Prelude.{true, List, ◌≡◌, ℕ, ◌+◌, ◌≤◌, ◌<◌, length, take, drop}
use Rattle.encoding.specs.Encoding.{is_scalar, encoded_of}
use Rattle.sequences.specs.Forms.{WellFormed, point_of}
use Rattle.sequences.specs.Leads.{NextIs}
use Rattle.sequences.specs.declared.Next.{Next}

-- No two well-formed sequences of some bytes overlap: so which byte is outside any does not depend on where one begins to look.
abbrev pub StandsAt : List ℕ → ℕ → List ℕ → Type 0
StandsAt bytes i s = take (length s) (drop i bytes) ≡ s

abbrev pub SequencesApart : Type 0
SequencesApart = (bytes : List ℕ) (i j : ℕ) (s u : List ℕ) → WellFormed s → WellFormed u → StandsAt bytes i s → StandsAt bytes j u → i < j → i + length s ≤ j

-- TABLES 3-6 AND 3-7: the bytes of a scalar value are well formed and are its bytes,
abbrev pub EncodedWellFormed : Type 0
EncodedWellFormed = (c : ℕ) → is_scalar c ≡ true → WellFormed (encoded_of c) × (point_of (encoded_of c) ≡ c)

-- and a well-formed sequence is the bytes of a scalar value.
abbrev pub WellFormedEncoded : Type 0
WellFormedEncoded = (s : List ℕ) → WellFormed s → (is_scalar (point_of s) ≡ true) × (encoded_of (point_of s) ≡ s)

-- "any two results allowed by one statement are proved equal"
abbrev pub OneNext : Type 0
OneNext = (bytes rest : List ℕ) (at : ℕ) (r q : Next) → NextIs bytes rest at r → NextIs bytes rest at q → r ≡ q
