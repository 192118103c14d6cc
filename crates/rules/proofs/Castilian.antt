-- The Castilian table passes the tests of `Sane`, each computed once. Assumes nothing.
use mathlib.Core.Bool.{false}
use mathlib.Core.Path.{refl}
use lib.Dec.{T}
use Rattle.rules.specs.Cells.{dots}
use Rattle.rules.specs.Sorts.{class, is_digit_cell}
use Rattle.rules.specs.Signs.{own_cells, lower_cells, sign_cells}
use Rattle.rules.specs.Pairs.{mark_of}
use Rattle.rules.specs.Rows.{sort_in}
use Rattle.rules.specs.Castilian.{castilian}
use Rattle.rules.proofs.Finite.{every}
use Rattle.rules.proofs.Machine.{step, at_rest}
use Rattle.rules.proofs.Pairs.{kinds_known}
use Rattle.rules.proofs.Normal.{normal_codes}
use Rattle.rules.proofs.Pieces.{proper_code}
use Rattle.rules.proofs.Reader.{all_pieces, all_apart, all_begin, ways_of, begins_as, sees, may, must, look_of, contrary, rivals, both_go, goes_both, diverge, apart, begins}
use Rattle.rules.proofs.Profile.{Sane, distinct, proper_word}

apart_holds : T (all_apart (all_pieces castilian))
unfolding all_apart all_pieces castilian ways_of begins_as sees may must look_of contrary rivals both_go goes_both diverge apart class dots is_digit_cell mark_of sign_cells own_cells lower_cells step at_rest
apart_holds = tt

begin_holds : T (all_begin (all_pieces castilian))
unfolding all_begin begins all_pieces castilian ways_of begins_as sees may must look_of class dots is_digit_cell sign_cells own_cells lower_cells step at_rest
begin_holds = tt

words_hold : T (every proper_word (all_pieces castilian))
unfolding proper_word all_pieces castilian ways_of class dots is_digit_cell sign_cells own_cells lower_cells
words_hold = tt

pub sane : Sane castilian
unfolding distinct castilian sort_in dots proper_code normal_codes kinds_known mark_of class is_digit_cell
sane =
    record {
      apart = apart_holds;
      begin = begin_holds;
      proper_words = words_hold;
      one_each = tt;
      shares = false;
      codes = tt;
      has_stop = refl;
      has_bar = refl;
      normal = tt;
      kinds = tt;
    }
