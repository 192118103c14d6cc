-- Printed by tools/print-entries-proof.sh: change that.
-- `list::word_of`: at each key antt computes both sides; any other code point is none of the sign list's, and none that is looked up as another
-- (`none_of`). Assumes nothing.
use mathlib.Core.Path.{sym, ap}
use mathlib.Core.Bool.{Bool, ◌||◌, not}
use mathlib.Core.List.{List, [], ◌∷◌}
use Prim.Native.Nat.{ℕ}
use Rattle.std.proofs.Common.{rules}
use Rattle.rules.specs.Castilian.{castilian}
use Rattle.rules.specs.Cells.{dots}
use Rattle.rules.specs.Sorts.{class, is_digit_cell}
use Rattle.rules.specs.Signs.{own_cells, lower_cells}
use Rattle.rules.specs.Pairs.{mark_of}
use Rattle.rules.specs.Rows.{sort_in}
use Rattle.rules.proofs.Finite.{false_of}
use Rattle.rules.proofs.Plain.{one_for}
use Rattle.entries.specs.SignWords.{sign_of}
use Rattle.entries.specs.Entries.{entry_of, word, then_of, usual_states, bits, mark_number, usuals_of}
use Rattle.entries.proofs.Keys.{among, none_of, rest_none, told_of}
use Rattle.entries.proofs.list.word_of.Goals as goal

low : List ℕ
low =
    0x20 ∷ 0x21 ∷ 0x24 ∷ 0x25 ∷ 0x26 ∷ 0x28 ∷ 0x29 ∷ 0x2c ∷ 0x2d ∷ 0x2e ∷ 0x2f ∷ 0x30 ∷ 0x31 ∷ 0x32 ∷ 0x33 ∷ 0x34 ∷ 0x35
    ∷ 0x36 ∷ 0x37 ∷ 0x38 ∷ 0x39 ∷ 0x3a ∷ 0x3b ∷ 0x3c ∷ 0x3d ∷ 0x3e ∷ 0x3f ∷ 0x41 ∷ 0x42 ∷ 0x43 ∷ 0x44 ∷ 0x45 ∷ 0x46
    ∷ 0x47 ∷ 0x48 ∷ 0x49 ∷ 0x4a ∷ 0x4b ∷ 0x4c ∷ 0x4d ∷ 0x4e ∷ 0x4f ∷ 0x50 ∷ 0x51 ∷ 0x52 ∷ 0x53 ∷ 0x54 ∷ 0x55 ∷ 0x56
    ∷ 0x57 ∷ 0x58 ∷ 0x59 ∷ 0x5a ∷ 0x5c ∷ 0x61 ∷ 0x62 ∷ 0x63 ∷ 0x64 ∷ 0x65 ∷ 0x66 ∷ 0x67 ∷ 0x68 ∷ 0x69 ∷ 0x6a ∷ 0x6b
    ∷ 0x6c ∷ 0x6d ∷ 0x6e ∷ 0x6f ∷ 0x70 ∷ 0x71 ∷ 0x72 ∷ 0x73 ∷ 0x74 ∷ 0x75 ∷ 0x76 ∷ 0x77 ∷ 0x78 ∷ 0x79 ∷ 0x7a ∷ 0x7b
    ∷ 0x7d ∷ 0xa1 ∷ 0xa2 ∷ 0xa3 ∷ 0xa5 ∷ 0xaa ∷ 0xab ∷ 0xba ∷ 0xbb ∷ 0xbf ∷ 0xc1 ∷ 0xc9 ∷ 0xcd ∷ 0xd1 ∷ 0xd3 ∷ 0xda
    ∷ 0xdc ∷ 0xe1 ∷ 0xe9 ∷ 0xed ∷ 0xf1 ∷ 0xf3 ∷ 0xfa ∷ 0xfc ∷ []

far : List ℕ
far =
    0x2014 ∷ 0x2018 ∷ 0x2019 ∷ 0x201c ∷ 0x201d ∷ 0x2020 ∷ 0x2030 ∷ 0x2039 ∷ 0x203a ∷ 0x2044 ∷ 0x20ac ∷ 0x20bf ∷ 0xe000
    ∷ 0xe001 ∷ []

abbrev listed : ℕ → Bool
listed k = among low k || among far k

even : List ℕ
even =
    0x0 ∷ 0x2 ∷ 0x4 ∷ 0x6 ∷ 0x8 ∷ 0xa ∷ 0xc ∷ 0xe ∷ 0x10 ∷ 0x12 ∷ 0x14 ∷ 0x16 ∷ 0x18 ∷ 0x1a ∷ 0x1c ∷ 0x1e ∷ 0x22 ∷ 0x2a
    ∷ 0x40 ∷ 0x5e ∷ 0x60 ∷ 0x7c ∷ 0x7e ∷ 0x80 ∷ 0x82 ∷ 0x84 ∷ 0x86 ∷ 0x88 ∷ 0x8a ∷ 0x8c ∷ 0x8e ∷ 0x90 ∷ 0x92 ∷ 0x94
    ∷ 0x96 ∷ 0x98 ∷ 0x9a ∷ 0x9c ∷ 0x9e ∷ 0xa0 ∷ 0xa4 ∷ 0xa6 ∷ 0xa8 ∷ 0xac ∷ 0xae ∷ 0xb0 ∷ 0xb2 ∷ 0xb4 ∷ 0xb6 ∷ 0xb8
    ∷ 0xbc ∷ 0xbe ∷ 0xc0 ∷ 0xc2 ∷ 0xc4 ∷ 0xc6 ∷ 0xc8 ∷ 0xca ∷ 0xcc ∷ 0xce ∷ 0xd0 ∷ 0xd2 ∷ 0xd4 ∷ 0xd6 ∷ 0xd8 ∷ 0xde
    ∷ 0xe0 ∷ 0xe2 ∷ 0xe4 ∷ 0xe6 ∷ 0xe8 ∷ 0xea ∷ 0xec ∷ 0xee ∷ 0xf0 ∷ 0xf2 ∷ 0xf4 ∷ 0xf6 ∷ 0xf8 ∷ 0xfe ∷ []

pub returns-in-0 : goal.returns-in-0
unfolding low far even one_for entry_of word then_of usuals_of usual_states bits mark_number sign_of sort_in castilian class is_digit_cell own_cells lower_cells mark_of dots
returns-in-0 c =
    let p : ℕ = c.args.point in
    none_of listed p tt tt (false_of (listed p) (told_of (λ k. not (listed k)) even p tt c.in-0.is))

odd : List ℕ
odd =
    0x1 ∷ 0x3 ∷ 0x5 ∷ 0x7 ∷ 0x9 ∷ 0xb ∷ 0xd ∷ 0xf ∷ 0x11 ∷ 0x13 ∷ 0x15 ∷ 0x17 ∷ 0x19 ∷ 0x1b ∷ 0x1d ∷ 0x1f ∷ 0x23 ∷ 0x27
    ∷ 0x2b ∷ 0x5b ∷ 0x5d ∷ 0x5f ∷ 0x7f ∷ 0x81 ∷ 0x83 ∷ 0x85 ∷ 0x87 ∷ 0x89 ∷ 0x8b ∷ 0x8d ∷ 0x8f ∷ 0x91 ∷ 0x93 ∷ 0x95
    ∷ 0x97 ∷ 0x99 ∷ 0x9b ∷ 0x9d ∷ 0x9f ∷ 0xa7 ∷ 0xa9 ∷ 0xad ∷ 0xaf ∷ 0xb1 ∷ 0xb3 ∷ 0xb5 ∷ 0xb7 ∷ 0xb9 ∷ 0xbd ∷ 0xc3
    ∷ 0xc5 ∷ 0xc7 ∷ 0xcb ∷ 0xcf ∷ 0xd5 ∷ 0xd7 ∷ 0xd9 ∷ 0xdb ∷ 0xdd ∷ 0xdf ∷ 0xe3 ∷ 0xe5 ∷ 0xe7 ∷ 0xeb ∷ 0xef ∷ 0xf5
    ∷ 0xf7 ∷ 0xf9 ∷ 0xfb ∷ 0xfd ∷ 0xff ∷ []

pub returns-in-1 : goal.returns-in-1
unfolding low far odd one_for entry_of word then_of usuals_of usual_states bits mark_number sign_of sort_in castilian class is_digit_cell own_cells lower_cells mark_of dots
returns-in-1 c =
    let p : ℕ = c.args.point in
    none_of listed p tt tt (false_of (listed p) (told_of (λ k. not (listed k)) odd p tt c.in-1.is))

pub returns-in_default-point : goal.returns-in_default-point
unfolding low far one_for entry_of word then_of usuals_of usual_states bits mark_number sign_of sort_in castilian class is_digit_cell own_cells lower_cells mark_of dots
returns-in_default-point c =
    let p : ℕ = c.args.point in
    none_of listed p tt tt (rw ((rest_none Unit low p (search rules)).1, (rest_none Unit far p (search rules)).1))

pub returns-in-8212 : goal.returns-in-8212
unfolding one_for entry_of word then_of usuals_of usual_states bits mark_number sign_of sort_in castilian class is_digit_cell own_cells lower_cells mark_of dots
returns-in-8212 c = sym (ap (λ (k : ℕ). entry_of castilian (one_for k)) c.in-8212.is)

pub returns-in-8216 : goal.returns-in-8216
unfolding one_for entry_of word then_of usuals_of usual_states bits mark_number sign_of sort_in castilian class is_digit_cell own_cells lower_cells mark_of dots
returns-in-8216 c = sym (ap (λ (k : ℕ). entry_of castilian (one_for k)) c.in-8216.is)

pub returns-in-8217 : goal.returns-in-8217
unfolding one_for entry_of word then_of usuals_of usual_states bits mark_number sign_of sort_in castilian class is_digit_cell own_cells lower_cells mark_of dots
returns-in-8217 c = sym (ap (λ (k : ℕ). entry_of castilian (one_for k)) c.in-8217.is)

pub returns-in-8220 : goal.returns-in-8220
unfolding one_for entry_of word then_of usuals_of usual_states bits mark_number sign_of sort_in castilian class is_digit_cell own_cells lower_cells mark_of dots
returns-in-8220 c = sym (ap (λ (k : ℕ). entry_of castilian (one_for k)) c.in-8220.is)

pub returns-in-8221 : goal.returns-in-8221
unfolding one_for entry_of word then_of usuals_of usual_states bits mark_number sign_of sort_in castilian class is_digit_cell own_cells lower_cells mark_of dots
returns-in-8221 c = sym (ap (λ (k : ℕ). entry_of castilian (one_for k)) c.in-8221.is)

pub returns-in-8224 : goal.returns-in-8224
unfolding one_for entry_of word then_of usuals_of usual_states bits mark_number sign_of sort_in castilian class is_digit_cell own_cells lower_cells mark_of dots
returns-in-8224 c = sym (ap (λ (k : ℕ). entry_of castilian (one_for k)) c.in-8224.is)

pub returns-in-8240 : goal.returns-in-8240
unfolding one_for entry_of word then_of usuals_of usual_states bits mark_number sign_of sort_in castilian class is_digit_cell own_cells lower_cells mark_of dots
returns-in-8240 c = sym (ap (λ (k : ℕ). entry_of castilian (one_for k)) c.in-8240.is)

pub returns-in-8249 : goal.returns-in-8249
unfolding one_for entry_of word then_of usuals_of usual_states bits mark_number sign_of sort_in castilian class is_digit_cell own_cells lower_cells mark_of dots
returns-in-8249 c = sym (ap (λ (k : ℕ). entry_of castilian (one_for k)) c.in-8249.is)

pub returns-in-8250 : goal.returns-in-8250
unfolding one_for entry_of word then_of usuals_of usual_states bits mark_number sign_of sort_in castilian class is_digit_cell own_cells lower_cells mark_of dots
returns-in-8250 c = sym (ap (λ (k : ℕ). entry_of castilian (one_for k)) c.in-8250.is)

pub returns-in-8260 : goal.returns-in-8260
unfolding one_for entry_of word then_of usuals_of usual_states bits mark_number sign_of sort_in castilian class is_digit_cell own_cells lower_cells mark_of dots
returns-in-8260 c = sym (ap (λ (k : ℕ). entry_of castilian (one_for k)) c.in-8260.is)

pub returns-in-8364 : goal.returns-in-8364
unfolding one_for entry_of word then_of usuals_of usual_states bits mark_number sign_of sort_in castilian class is_digit_cell own_cells lower_cells mark_of dots
returns-in-8364 c = sym (ap (λ (k : ℕ). entry_of castilian (one_for k)) c.in-8364.is)

pub returns-in-8383 : goal.returns-in-8383
unfolding one_for entry_of word then_of usuals_of usual_states bits mark_number sign_of sort_in castilian class is_digit_cell own_cells lower_cells mark_of dots
returns-in-8383 c = sym (ap (λ (k : ℕ). entry_of castilian (one_for k)) c.in-8383.is)

pub returns-in-57344 : goal.returns-in-57344
unfolding one_for entry_of word then_of usuals_of usual_states bits mark_number sign_of sort_in castilian class is_digit_cell own_cells lower_cells mark_of dots
returns-in-57344 c = sym (ap (λ (k : ℕ). entry_of castilian (one_for k)) c.in-57344.is)

pub returns-in-57345 : goal.returns-in-57345
unfolding one_for entry_of word then_of usuals_of usual_states bits mark_number sign_of sort_in castilian class is_digit_cell own_cells lower_cells mark_of dots
returns-in-57345 c = sym (ap (λ (k : ℕ). entry_of castilian (one_for k)) c.in-57345.is)
