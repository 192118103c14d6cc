-- A draft that is copied to the front of the lent text, element by element or all at once: at each place the elements before it are copied, and all others are as they
-- were (`Copied`). In order: the start; a turn; all at once; what is kept; the end. Assumes nothing.
use mathlib.Core.Path.{◌≡◌, sym, ap, ◌∙◌}
use mathlib.Core.List.{List, ◌++◌}
use Prim.Native.Nat.{ℕ, suc, ◌+◌, ◌≤◌, ◌<◌, zero-le}
use native.Mathlib.Omega.{arith}
use lib.ListN.{length, get_or, set, take, drop, replicate, length-replicate}
use lib.Seq.{paste, paste-zero, paste-suc, length-paste, take-length}
use mathlib.Core.Logic.{◌⊎◌}
use Rattle.std.specs.Prelude.{Result, Ok}
use Rattle.rules.specs.Refusals.{longest_text}
use Rattle.rules.specs.Castilian.{castilian}
use Rattle.rows.specs.Laid.{laid}
use Rattle.walks.specs.Walks.{Goes}
use Rattle.walks.specs.declared.Stand.{Stand}
use Rattle.walks.specs.declared.NoText.{NoText}
use Rattle.reader.specs.Promise.{Read}
use Rattle.reader.specs.Passes.{Settled, at_start}
use Rattle.reader.proofs.Parts.{room_text, written_text}
use Rattle.reader.proofs.Answering.{settled_text, read_text}

pub record Copied (draft lent text : List ℕ) (place : ℕ) : Type 0 where
  pub within : place ≤ length draft
  pub holds : text ≡ paste lent 0 draft place

pub copied_start : (draft lent : List ℕ) → Copied draft lent lent 0
copied_start draft lent = record { within = zero-le; holds = paste-zero lent 0 draft }

-- what the library's copy leaves: the draft, and behind it what was there
pub copied_at_once : (draft lent : List ℕ) → Copied draft lent (draft ++ drop (length draft) lent) (length draft)
copied_at_once draft lent =
    let behind : 0 + length draft ≡ length draft = omega arith in
    record {
      within = omega arith;
      holds =
          ap (λ (t : List ℕ). t ++ drop (length draft) lent) (sym (take-length draft))
          ∙ ap (λ (n : ℕ). take (length draft) draft ++ drop n lent) (sym behind);
    }

module _ {draft lent text : List ℕ} {place : ℕ} (room : length draft ≤ length lent) (copied : Copied draft lent text place) where
  pub copied_on : place < length draft → Copied draft lent (set text place (get_or draft place 0)) (place + 1)
  copied_on more =
      let here : place ≡ 0 + place = omega arith in
      let next : suc place ≡ place + 1 = omega arith in
      record {
        within = omega (arith, more);
        holds =
            ap (λ (t : List ℕ). set t place (get_or draft place 0)) copied.holds
            ∙ ap (λ (n : ℕ). set (paste lent 0 draft place) n (get_or draft place 0)) here
            ∙ paste-suc lent 0 draft place 0 (omega (arith, more, room)) more ∙ ap (paste lent 0 draft) next;
      }

  pub copied_length : length text ≡ length lent
  copied_length = ap length copied.holds ∙ length-paste lent 0 draft place (omega (arith, copied.within, room)) copied.within

  pub copied_end : length draft ≤ place → text ≡ laid draft lent
  copied_end all =
      let end : place ≡ length draft = omega (arith, all, copied.within) in
      let behind : 0 + length draft ≡ length draft = omega arith in
      copied.holds ∙ ap (paste lent 0 draft) end ∙ ap (λ (n : ℕ). take (length draft) draft ++ drop n lent) behind
      ∙ ap (λ (t : List ℕ). t ++ drop (length draft) lent) (take-length draft)

-- THE END OF `read_by`: what a walk wrote to a draft that has room, and the count that is settled, copied to the front of the lent text
pub read_copied : (row lent : List ℕ) (room : ℕ) (found : Result Stand NoText) (draft part : List ℕ) (n : ℕ)
    → (length row ≤ room) ⊎ (longest_text ≤ room) → Goes row (length row) at_start (replicate room 0) draft found
    → Settled castilian row (length lent) (Ok n) → part ≡ take n draft → Read castilian row lent (Ok n) (part ++ drop n lent)
read_copied row lent room found draft part n enough went settled is =
    let t = settled_text row settled in
    let wrote = written_text went t.0 t.2.reads (omega (arith, room_text t.2 room enough, length-replicate {A = ℕ} room 0)) in
    let copied : part ≡ t.0 = is ∙ ap (λ (k : ℕ). take k draft) t.1 ∙ wrote in
    read_text row t.0 t.1 t.2 lent (part ++ drop n lent)
    (ap (λ (x : List ℕ). x ++ drop n lent) copied ∙ ap (λ (k : ℕ). t.0 ++ drop k lent) t.1 ∙ copied_end t.3 (copied_at_once t.0 lent) (omega arith))
    t.3
