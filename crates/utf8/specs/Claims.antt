-- What is proved of the definitions, as types; each is proved under the same name in snake case in proofs/Claims.antt. In order: the code points of some bytes; decoding undoes encoding; one outcome. Not
-- here: what is proved of the well-formed sequences themselves (crate `sequences`). Assumes nothing.
use Rattle.std.specs.Prelude.{true, List, [], ◌∷◌, ◌++◌, ◌≡◌, ℕ, ◌≤◌, length, take}
use Rattle.encoding.specs.Encoding.{is_scalar, replacement, encoded_of}
use Rattle.sequences.specs.Forms.{WellFormed, point_of}
use Rattle.utf8.specs.Decoding.{decoded, Decoded}

-- "reads UTF-8 lines": a well-formed sequence is its code point, whatever follows
abbrev pub SequenceDecoded : Type 0
SequenceDecoded = (s bs : List ℕ) → WellFormed s → decoded (s ++ bs) ≡ point_of s ∷ decoded bs

-- "A byte outside any well-formed sequence counts as one U+FFFD.": where none begins, the byte counts as that, and the next is looked at
abbrev pub OutsideDecoded : Type 0
OutsideDecoded = (b : ℕ) (bs : List ℕ) → ((n : ℕ) → WellFormed (take n (b ∷ bs)) → ⊥) → decoded (b ∷ bs) ≡ replacement ∷ decoded bs

-- the bytes of a scalar value are that code point, whatever follows
abbrev pub DecodedEncoded : Type 0
DecodedEncoded = (c : ℕ) (bs : List ℕ) → is_scalar c ≡ true → decoded (encoded_of c ++ bs) ≡ c ∷ decoded bs

-- a text has no more code points than bytes
abbrev pub NoMorePoints : Type 0
NoMorePoints = (bs : List ℕ) → length (decoded bs) ≤ length bs

-- E2 82 is two U+FFFD, ED A0 80 three, F0 9D 9D three, C0 80 two; EF BF BD is U+FFFD itself, and € is E2 82 AC
abbrev pub WorkedBytes : Type 0
WorkedBytes =
    (decoded (0xe2 ∷ 0x82 ∷ []) ≡ 0xfffd ∷ 0xfffd ∷ [])
    × (decoded (0xed ∷ 0xa0 ∷ 0x80 ∷ []) ≡ 0xfffd ∷ 0xfffd ∷ 0xfffd ∷ [])
    × (decoded (0xf0 ∷ 0x9d ∷ 0x9d ∷ []) ≡ 0xfffd ∷ 0xfffd ∷ 0xfffd ∷ [])
    × (decoded (0xc0 ∷ 0x80 ∷ []) ≡ 0xfffd ∷ 0xfffd ∷ [])
    × (decoded (0xef ∷ 0xbf ∷ 0xbd ∷ []) ≡ 0xfffd ∷ [])
    × (decoded (0x38 ∷ 0xe2 ∷ 0x82 ∷ 0xac ∷ 0x62 ∷ []) ≡ 0x38 ∷ 0x20ac ∷ 0x62 ∷ [])

-- "any two results allowed by one statement are proved equal"
abbrev pub OneDecoded : Type 0
OneDecoded = (bytes lent : List ℕ) (r q : ℕ) (new old : List ℕ) → Decoded bytes lent r new → Decoded bytes lent q old → (r ≡ q) × (new ≡ old)
