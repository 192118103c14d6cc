-- What the methods of `Page` promise one by one. Assumes nothing.
use Rattle.std.specs.Prelude.{List, ◌≡◌, ℕ}
use Rattle.printing.specs.declared.Page.{Page}
use Rattle.printing.specs.Printed.{Prints}

-- the bytes x are printed on a page, from its place on, and the page is on the same slice
pub record PagePrints (old : Page) (x : List ℕ) (new : Page) : Type 0 where
  pub same : new.out.ghost_name ≡ old.out.ghost_name
  pub prints : Prints old.out.now old.at x new.at new.out.now
