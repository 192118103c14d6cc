-- The finite types of the proofs. `Past` and `Future`: what the rules see of the two sides of a place (proofs/Sides.antt). `Mode`: where a reader
-- stands between two signs (proofs/Machine.antt). `Kind`: what a row may begin with, as far as a reader looks ahead (proofs/Reader.antt).
-- Their numbers and lists are printed from here (proofs/Enumerations.antt). Assumes nothing.

-- what stands before a place
pub data Past : Type 0 where
  -- nothing that a rule asks for
  free : Past
  -- a run: one capital; two or more, all capitals; with a small letter
  lone caps mixed : Past
  -- digits: plain; past a point or comma; a denominator that is 1 so far; any other denominator
  plain_on past_on under_one under : Past
  -- directly before: U+2044; a full stop after plain digits; another point or comma of a number; U+2014; a hyphen; ª; %
  past_bar past_stop past_point past_dash past_hyphen past_feminine past_percent : Past

-- what stands after a place: nothing that a rule asks for; a run of capitals; one with a small letter; digits; digits of a form; U+2044 and a
-- digit; a full stop and º or ª; º or ª
pub data Future : Type 0 where
  rest caps_on mixed_on digits_on form_on bar_on stop_on mark_on : Future

-- where a reader stands; what comes next in the text is a promise of the mode: `Owing` owes a small letter, `Low` the end of a form
pub data Mode : Type 0 where
  -- nothing is begun
  Free : Mode
  -- a run: one capital; with a small letter; after 46-46, one letter
  Lone Mixed Whole1 : Mode
  -- a denominator that is 1 so far; after a point that ends a number
  Under1 End : Mode
  -- directly after a hyphen, ª, %
  Hyphen Fem Percent : Mode
  -- where more of the same may follow: capitals that a small letter must follow; U+2014; after 46-46, two letters or more
  Owing Dash Whole2 : Mode
  -- a number; lower digits; any other denominator; after a point inside a number
  Num Low Under Mid : Mode

-- what a row may begin with
pub data Kind : Type 0 where
  a_digit a_hyphen a_lower_zero : Kind
