-- What is proved of the printed lines, as types; each is proved under the same name in snake case in proofs/Claims.antt: worked forms. Assumes nothing.
use Rattle.std.specs.Prelude.{[], ◌∷◌, ◌++◌, ◌≡◌}
use Rattle.rules.specs.Cells.{print}
use Rattle.printing.specs.Printed.{decimal_of, bytes_of_text, characters_of}
use Rattle.replies.specs.Replies.{line_end, ok_line, refusal_line, long_line}

-- "no 2 0"; the least and the greatest number; "ok" with a row of three cells, in characters U+283C, U+2813, U+2803; "ok" with text; "long"
abbrev pub WorkedForms : Type 0
WorkedForms =
    (refusal_line 2 0 ≡ print "no 2 0" ++ line_end ∷ [])
    × (refusal_line 6 12288 ≡ print "no 6 12288" ++ line_end ∷ [])
    × (decimal_of 0 ≡ print "0")
    × (decimal_of 18446744073709551615 ≡ print "18446744073709551615")
    × (ok_line (characters_of (0x3c ∷ 0x13 ∷ 0x03 ∷ []))
    ≡ print "ok " ++ 0xe2 ∷ 0xa0 ∷ 0xbc ∷ 0xe2 ∷ 0xa0 ∷ 0x93 ∷ 0xe2 ∷ 0xa0 ∷ 0x83 ∷ line_end ∷ [])
    × (ok_line (bytes_of_text (print "8 ñ")) ≡ print "ok 8 " ++ 0xc3 ∷ 0xb1 ∷ line_end ∷ [])
    × (long_line ≡ print "long" ++ line_end ∷ [])
