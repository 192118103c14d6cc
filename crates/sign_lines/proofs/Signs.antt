-- A sign, printed, part behind part. Assumes nothing.
use mathlib.Core.List.{List, [], ◌∷◌, ◌++◌, append_assoc, append-nil}
use mathlib.Core.Path.{◌≡◌, sym, ap, ◌∙◌}
use Prim.Native.Nat.{ℕ, ◌≤◌, ◌<◌}
use borrow.Author.Tests.{lt-ltb, le-ltb}
use Rattle.desk.specs.declared.Sign as desk
use Rattle.encoding.specs.Encoding.{encoded_of}
use Rattle.printing.specs.Printed.{decimal_of}
use Rattle.printing.specs.declared.Page.{Page}
use Rattle.printing.specs.Pages.{PagePrints}
use Rattle.printing.proofs.Printed.{page_as, page_on}
use Rattle.replies.specs.Replies.{blank}
use Rattle.sign_lines.specs.Signs.{colon, sign_line}
use Rattle.sign_lines.specs.Walk.{shown_text}

-- the parts are joined from the left, the line is written to the right.
one_point : (x e : List ℕ) → (x ++ colon ∷ []) ++ e ≡ x ++ colon ∷ (e ++ [])
one_point x e = append_assoc x (colon ∷ []) e ∙ ap (λ (y : List ℕ). x ++ colon ∷ y) (sym (append-nil e))

two_points : (x e f : List ℕ) → ((x ++ colon ∷ []) ++ e) ++ f ≡ x ++ colon ∷ (e ++ (f ++ []))
two_points x e f =
    append_assoc (x ++ colon ∷ []) e f
    ∙ append_assoc x (colon ∷ []) (e ++ f)
    ∙ ap (λ (y : List ℕ). x ++ colon ∷ (e ++ y)) (sym (append-nil f))

module _ (place : ℕ) (s : desk.Sign) (p a b c q : Page)
    (first : PagePrints p (blank ∷ []) a) (second : PagePrints a (decimal_of place) b) (third : PagePrints b (colon ∷ []) c)
    (fourth : PagePrints c (encoded_of s.first) q) where
  begun : PagePrints p ((blank ∷ decimal_of place ++ colon ∷ []) ++ encoded_of s.first) q
  begun =
      page_on p (blank ∷ decimal_of place ++ colon ∷ []) c (encoded_of s.first) q
      (page_on p (blank ∷ decimal_of place) b (colon ∷ []) c (page_on p (blank ∷ []) a (decimal_of place) b first second) third) fourth

  pub sign_one : s.second < 2 → PagePrints p (sign_line place (shown_text s)) q
  sign_one h = rw (lt-ltb s.second 2 h) (page_as p _ _ q (one_point (blank ∷ decimal_of place) (encoded_of s.first)) begun)

  pub sign_two : 2 ≤ s.second → (r : Page) → PagePrints q (encoded_of s.then) r → PagePrints p (sign_line place (shown_text s)) r
  sign_two h r fifth =
      rw (le-ltb s.second 2 h)
      (page_as p _ _ r (two_points (blank ∷ decimal_of place) (encoded_of s.first) (encoded_of s.then))
      (page_on p ((blank ∷ decimal_of place ++ colon ∷ []) ++ encoded_of s.first) q (encoded_of s.then) r begun fifth))
