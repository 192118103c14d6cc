-- The cells of signs, one behind another: one more sign is stored, one is taken from the front. Assumes nothing.
use mathlib.Core.Path.{◌≡◌, refl, sym, ap, ◌∙◌}
use mathlib.Core.List.{List, [], ◌∷◌, ◌++◌, append_assoc, append-nil}
use Prim.Native.Nat.{ℕ, ◌+◌, ◌<◌}
use native.Mathlib.Numerals.{add-one}
use lib.ListN.{length, take, drop, set, get_or}
use lib.Seq.{drop-cons, take-suc-set}
use Rattle.rules.specs.Cells.{Row}
use Rattle.entries.specs.SignWords.{cells_in}
use Rattle.writing.specs.Joined.{joined}

joined_append : (ss us : List ℕ) → joined (ss ++ us) ≡ joined ss ++ joined us
joined_append [] us = refl
joined_append (s ∷ ss) us = ap (λ (r : Row). cells_in s ++ r) (joined_append ss us) ∙ sym (append_assoc (cells_in s) (joined ss) (joined us))

module _ (ss : List ℕ) (i : ℕ) where
  -- a sign stored behind the first i
  pub joined_more : (s : ℕ) → i < length ss → joined (take (i + 1) (set ss i s)) ≡ joined (take i ss) ++ cells_in s
  joined_more s l =
      ap (λ (k : ℕ). joined (take k (set ss i s))) (add-one i) ∙ ap joined (take-suc-set ss i s l)
      ∙ joined_append (take i ss) (s ∷ []) ∙ ap (λ (r : Row). joined (take i ss) ++ r) (append-nil (cells_in s))

  -- the sign at i, and those behind it
  pub joined_here : i < length ss → joined (drop i ss) ≡ cells_in (get_or ss i 0) ++ joined (drop (i + 1) ss)
  joined_here l = ap joined (drop-cons ss i 0 l) ∙ ap (λ (k : ℕ). cells_in (get_or ss i 0) ++ joined (drop k ss)) (sym (add-one i))
