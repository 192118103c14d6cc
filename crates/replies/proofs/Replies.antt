-- The parts of a printed line, one behind another: of `ok`, of a refusal, of `long`; in order: in what is lent, from its front; on a page, from its place on. Assumes nothing.
use mathlib.Core.List.{List, [], ◌∷◌, ◌++◌}
use Prim.Native.Nat.{ℕ}
use Rattle.rules.specs.Cells.{print}
use Rattle.printing.specs.Printed.{decimal_of, Prints}
use Rattle.printing.specs.declared.Page.{Page}
use Rattle.printing.specs.Pages.{PagePrints}
use Rattle.printing.proofs.Printed.{prints_on, page_on}
use Rattle.replies.specs.Replies.{line_end, blank, ok_line, refusal_line, long_line}

-- FROM THE FRONT of what is lent
pub line_ok : (bytes l l₁ l₂ l₃ l₄ : List ℕ) (a b c r : ℕ)
    → Prints l 0 (print "ok") a l₁ → Prints l₁ a (blank ∷ []) b l₂ → Prints l₂ b bytes c l₃ → Prints l₃ c (line_end ∷ []) r l₄
    → Prints l 0 (ok_line bytes) r l₄
line_ok bytes l l₁ l₂ l₃ l₄ a b c r p q s t =
    let rest : Prints l₁ a (blank ∷ bytes) c l₃ = prints_on l₁ a (blank ∷ []) b l₂ bytes c l₃ q s in
    let front : Prints l 0 (print "ok" ++ blank ∷ bytes) c l₃ = prints_on l 0 (print "ok") a l₁ (blank ∷ bytes) c l₃ p rest in
    prints_on l 0 (print "ok" ++ blank ∷ bytes) c l₃ (line_end ∷ []) r l₄ front t

pub line_refusal : (number second : ℕ) (l l₁ l₂ l₃ l₄ l₅ l₆ : List ℕ) (a b c d e r : ℕ)
    → Prints l 0 (print "no") a l₁ → Prints l₁ a (blank ∷ []) b l₂ → Prints l₂ b (decimal_of number) c l₃
    → Prints l₃ c (blank ∷ []) d l₄ → Prints l₄ d (decimal_of second) e l₅ → Prints l₅ e (line_end ∷ []) r l₆
    → Prints l 0 (refusal_line number second) r l₆
line_refusal number second l l₁ l₂ l₃ l₄ l₅ l₆ a b c d e r p q s t u v =
    let one : List ℕ = blank ∷ decimal_of number in
    let two : List ℕ = blank ∷ decimal_of second in
    let end : List ℕ = line_end ∷ [] in
    let first : Prints l₁ a one c l₃ = prints_on l₁ a (blank ∷ []) b l₂ (decimal_of number) c l₃ q s in
    let next : Prints l₃ c two e l₅ = prints_on l₃ c (blank ∷ []) d l₄ (decimal_of second) e l₅ t u in
    let three : Prints l 0 (print "no" ++ one) c l₃ = prints_on l 0 (print "no") a l₁ one c l₃ p first in
    let five : Prints l 0 (print "no" ++ one ++ two) e l₅ = prints_on l 0 (print "no" ++ one) c l₃ two e l₅ three next in
    prints_on l 0 (print "no" ++ one ++ two) e l₅ end r l₆ five v

pub line_long : (l l₁ l₂ : List ℕ) (a r : ℕ) → Prints l 0 (print "long") a l₁ → Prints l₁ a (line_end ∷ []) r l₂ → Prints l 0 long_line r l₂
line_long l l₁ l₂ a r p q = prints_on l 0 (print "long") a l₁ (line_end ∷ []) r l₂ p q

-- ON A PAGE, from its place on
module _ (p q : Page) where
  pub page_ok : (bytes : List ℕ) (s t r : Page)
      → PagePrints p (print "ok") q → PagePrints q (blank ∷ []) s → PagePrints s bytes t → PagePrints t (line_end ∷ []) r → PagePrints p (ok_line bytes) r
  page_ok bytes s t r a b c d = page_on p (print "ok" ++ blank ∷ bytes) t (line_end ∷ []) r (page_on p (print "ok") q (blank ∷ bytes) t a (page_on q (blank ∷ []) s bytes t b c)) d

  pub page_refusal : (number second : ℕ) (s t u v r : Page)
      → PagePrints p (print "no") q → PagePrints q (blank ∷ []) s → PagePrints s (decimal_of number) t → PagePrints t (blank ∷ []) u → PagePrints u (decimal_of second) v
      → PagePrints v (line_end ∷ []) r → PagePrints p (refusal_line number second) r
  page_refusal number second s t u v r a b c d e f =
      let first : List ℕ = print "no" ++ blank ∷ decimal_of number in
      let rest : List ℕ = blank ∷ decimal_of second in
      page_on p (first ++ rest) v (line_end ∷ []) r
      (page_on p first t rest v (page_on p (print "no") q (blank ∷ decimal_of number) t a (page_on q (blank ∷ []) s (decimal_of number) t b c))
      (page_on t (blank ∷ []) u (decimal_of second) v d e)) f

  pub page_long : (r : Page) → PagePrints p (print "long") q → PagePrints q (line_end ∷ []) r → PagePrints p long_line r
  page_long r a b = page_on p (print "long") q (line_end ∷ []) r a b
