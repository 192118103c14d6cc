-- A whole row: the signs that the rules' own reader finds from its start are those of the text that has the row (`signs_of_text`), and where it finds
-- none no text has it. In order: of any table that is sane; of the Castilian table, where they are `left 0 0`, and of which a text is no longer than its
-- row; what a walk then tells. Assumes nothing.
use mathlib.Core.Path.{◌≡◌, refl, sym, ap, ◌∙◌, subst}
use mathlib.Core.List.{List}
use mathlib.Core.Option.{Option, none, some}
use Prim.Native.Nat.{ℕ, ◌≤◌, zero-le}
use native.Mathlib.Omega.{arith}
use lib.ListN.{length}
use Rattle.rules.specs.Cells.{Text, Row}
use Rattle.rules.specs.Sorts.{Table}
use Rattle.rules.specs.Signs.{Sign, print_of}
use Rattle.rules.specs.Pairs.{Opens}
use Rattle.rules.specs.Rows.{Reads, signs_of}
use Rattle.rules.specs.Castilian.{castilian}
use Rattle.rules.proofs.Finite.{nothing}
use Rattle.rules.proofs.States.{Free}
use Rattle.rules.proofs.Pieces.{Piece}
use Rattle.rules.proofs.Reader.{walk, all_pieces, reads}
use Rattle.rules.proofs.Profile.{Sane, shut, print_of_pieces, printed, decode, pieces_of, OfText, of_text, reads_right}
use Rattle.rules.proofs.Signs.{signs_join}
use Rattle.rules.proofs.Castilian.{sane}
use Rattle.pairs.proofs.Pairing.{none_open}
use Rattle.readings.specs.Left.{signs_by, left}
use Rattle.readings.proofs.Turning.{left_thrift}

module _ (tb : Table) (held : Sane tb) (r : Row) where
  abbrev pub pieces_in : Option (List Piece)
  pieces_in = walk (all_pieces tb) Free shut 0 r

  pub signs_of_text : (t : Text) → Reads tb r t → signs_by pieces_in ≡ some (signs_of tb t)
  signs_of_text t e =
      let h : OfText tb held r t = of_text tb held r t e in
      ap signs_by
      (ap (walk (all_pieces tb) Free shut 0) (sym h.row)
      ∙ reads (all_pieces tb) held.apart held.begin Free shut (pieces_of tb held t) h.runs h.inside)
      ∙ ap some (sym h.signs)

  pub text_of_signs : (ss : List Sign) → signs_by pieces_in ≡ some ss → Reads tb r (print_of ss) × (signs_of tb (print_of ss) ≡ ss)
  unfolding decode
  text_of_signs ss e = go pieces_in refl
    where
      go : (x : Option (List Piece)) → pieces_in ≡ x → Reads tb r (print_of ss) × (signs_of tb (print_of ss) ≡ ss)
      go none q = nothing (sym (ap signs_by q) ∙ e)
      go (some ps) q =
          let t : Text = print_of_pieces held.shares ps in
          let h : Reads tb r t = reads_right tb held r t (ap (printed held.shares) q) in
          let z : some (signs_of tb t) ≡ some ss = sym (signs_of_text t h) ∙ e in
          let s : signs_of tb t ≡ ss = cc in
          let p : print_of ss ≡ t = ap print_of (sym s) ∙ (signs_join tb held t r h).0 in
          (subst (Reads tb r) (sym p) h, ap (signs_of tb) p ∙ s)

  pub no_text_of_none : signs_by pieces_in ≡ none → (t : Text) → Reads tb r t → ⊥
  no_text_of_none e t h = nothing (sym e ∙ signs_of_text t h)

-- of the Castilian table
module _ (r : Row) where
  left_is : left 0 0 r ≡ signs_by (walk (all_pieces castilian) Free shut 0 r)
  left_is = ap (λ (o : Opens). signs_by (walk (all_pieces castilian) Free o 0 r)) (sym none_open)

  pub left_text : (ss : List Sign) → left 0 0 r ≡ some ss → Reads castilian r (print_of ss) × (signs_of castilian (print_of ss) ≡ ss)
  left_text ss e = text_of_signs castilian sane r ss (sym left_is ∙ e)

  -- and the other way
  pub left_of_text : (t : Text) → Reads castilian r t → left 0 0 r ≡ some (signs_of castilian t)
  left_of_text t e = left_is ∙ signs_of_text castilian sane r t e

  pub text_of_left : (ss : List Sign) → left 0 0 r ≡ some ss → (t : Text) → Reads castilian r t → print_of ss ≡ t
  text_of_left ss e t h =
      let z : some ss ≡ some (signs_of castilian t) = sym e ∙ left_of_text t h in
      let s : ss ≡ signs_of castilian t = cc in
      ap print_of s ∙ (signs_join castilian sane t r h).0

  -- no text has more code points than its row has cells
  pub no_longer : (t : Text) → Reads castilian r t → length t ≤ length r
  no_longer t e =
      omega (arith, left_thrift r (length r) 0 0 0 (omega arith) zero-le (omega arith) (omega arith) (signs_of castilian t) (left_of_text t e), ap length (signs_join castilian sane t r e).0)

  pub left_none : left 0 0 r ≡ none → (t : Text) → Reads castilian r t → ⊥
  left_none e = no_text_of_none castilian sane r (sym left_is ∙ e)

-- WHAT WALKS TELL of a row that has a text: its signs, and how many code points they have
pub record Told (x : Option (List Sign)) (c : ℕ) : Type 0 where
  pub signs : List Sign
  pub are : x ≡ some signs
  pub count : c ≡ length (print_of signs)
