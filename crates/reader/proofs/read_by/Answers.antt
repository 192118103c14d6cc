-- `read_by`: what the walk found is the answer (`settle`), and what it wrote to the draft, which has room, is the text (`room_text`, `written_text`). The lent
-- text is as it was until the draft is copied to it, and behind it then (`copied_end`). Assumes nothing.
use mathlib.Core.Path.{sym, ◌∙◌}
use Prim.Native.Nat.{ℕ}
use native.Mathlib.Omega.{arith}
use lib.ListN.{length-replicate}
use lib.Seq.{length-take-le}
use Rattle.std.proofs.lemmas.Result.{err_from_is_err_and}
use Rattle.reader.proofs.Parts.{goes_same, room_text}
use Rattle.reader.proofs.Answering.{read_not_settled, settled_text}
use Rattle.reader.proofs.read_by.Goals as goal

-- a refusal
pub returns-in_err-count : goal.returns-in_err-count
returns-in_err-count g c =
    let p = err_from_is_err_and c.from_residual.result c.from_residual.ensures.1 in
    rw (p.1, p.2) (read_not_settled c.args.row.now _ c.args.text.now c.in_err-count.ensures)

-- a text, which was written to the draft
pub slice_bounds-copy_from_slice-end : goal.slice_bounds-copy_from_slice-end
slice_bounds-copy_from_slice-end g c = let t = settled_text c.args.row.now c.in_ok-count.ensures in omega (arith, t.1, t.3)

pub slice_bounds-copy_from_slice-end-2 : goal.slice_bounds-copy_from_slice-end-2
slice_bounds-copy_from_slice-end-2 g c =
    let t = settled_text c.args.row.now c.in_ok-count.ensures in
    sym (length-take-le c.in_ok-count.count c.args.text.now (omega (arith, t.1, t.3)))

pub shared_whole_as_front-copy_from_slice : goal.shared_whole_as_front-copy_from_slice
shared_whole_as_front-copy_from_slice g c =
    let t = settled_text c.args.row.now c.in_ok-count.ensures in
    (omega (arith, t.1, room_text t.2 g.row.ROOM c.requires.3), omega (arith, c.requires.1))

pub copy_from_slice-requires : goal.copy_from_slice-requires
copy_from_slice-requires g c =
    let t = settled_text c.args.row.now c.in_ok-count.ensures in
    let full = goes_same c.walk_whole-found.ensures ∙ length-replicate {A = ℕ} g.row.ROOM 0 in
    length-take-le c.in_ok-count.count c.args.text.now (omega (arith, t.1, t.3))
    ∙ sym (length-take-le c.in_ok-count.count c.walk_whole-found.new.draft (omega (arith, t.1, room_text t.2 g.row.ROOM c.requires.3, full)))
