-- The proofing screen over public steps. Every sign of a text is shown by the two numbers of a step (`Coded`), so the rules' walk over an accepted row is
-- one of public steps (`visits`), and what shows no code point starts no sign (`still_means`). For any table that is sane. Assumes nothing.
use mathlib.Core.Path.{◌≡◌, refl, sym, ap, ◌∙◌, subst}
use mathlib.Core.Bool.{Bool, true, false, cond}
use mathlib.Core.List.{List, [], ◌∷◌, ◌++◌, map}
use mathlib.Core.Option.{Option, none, some}
use Prim.Native.Nat.{ℕ, suc, ◌-◌}
use native.Mathlib.Omega.{arith}
use lib.Dec.{eqb, leb}
use lib.ListN.{length}
use Rattle.rules.specs.Cells.{Text, Row}
use Rattle.rules.specs.Sorts.{Table}
use Rattle.rules.specs.Signs.{Sign}
use Rattle.rules.specs.Rows.{Reads, signs_of}
use Rattle.rules.specs.Answers.{ReadsAs}
use Rattle.rules.specs.Screen as screen
use Rattle.rules.specs.Screen.{sign_at, shown_by, StepAnswer, shows, Stepped, stepped, stayed}
use Rattle.rules.specs.Demands.{Walks, joined}
use Rattle.rules.proofs.Finite.{nothing}
use Rattle.rules.proofs.Machine.{lead_of}
use Rattle.rules.proofs.Pieces.{Piece, sign_of}
use Rattle.rules.proofs.Profile.{Sane, OfText, of_text, pieces_of}
use Rattle.rules.proofs.Signs.{signs_join, filled_signs}
use Rattle.rules.proofs.Steps.{walks, joined_signs}
use Rattle.readings.specs.Print.{points}
use Rattle.stepper.specs.Promise.{Shows, sign_there, no_sign_there}
use Rattle.stepper.specs.Claims.{StillExactly, Visits, print_by, WalkShowsText}
use Rattle.walks.specs.Walks.{CodedSign}
use Rattle.std.specs.Prelude.{Some, None, Ok}
use Rattle.readings.specs.Readings.{shown}
use Rattle.stepper.specs.declared.Sign as stepper
use Rattle.readings.proofs.Print.{points_width}

pub shows_same : (x y : screen.Shown) → shows x ≡ shows y → x ≡ y
shows_same x y e = cc

-- each is shown by a lead, or none, and a code point
abbrev pub Coded : List Sign → Type 0
Coded [] = Unit {0}
Coded (s ∷ ss) = CodedSign s × Coded ss

coded_piece : (s : Piece) → CodedSign (sign_of s)
coded_piece s = (shown (lead_of s.0), s.1.0, go (eqb (lead_of s.0) 0))
  where
    go : (b : Bool) → cond b [] (lead_of s.0 ∷ []) ++ s.1.0 ∷ [] ≡ points (cond b None (Some (lead_of s.0))) s.1.0
    go true = refl
    go false = refl

coded_pieces : (ss : List Piece) → Coded (map sign_of ss)
coded_pieces [] = tt
coded_pieces (s ∷ ss) = (coded_piece s, coded_pieces ss)

pub coded_at : (ss : List Sign) → Coded ss → (n : ℕ) (s : Sign) → sign_at ss n ≡ some s → CodedSign s
unfolding sign_at
coded_at [] h n s e = nothing e
coded_at (u ∷ ss) h n s e = go (eqb n 0) (leb (length u.taken) n) (coded_at ss h.1 (n - length u.taken) s) e
  where
    go : (x y : Bool) → (sign_at ss (n - length u.taken) ≡ some s → CodedSign s)
        → ◌≡◌ {A = Option Sign} (elim x as (λ _. Option Sign)
        [ true ↦ some u | false ↦ elim y as (λ _. Option Sign) [ true ↦ sign_at ss (n - length u.taken) | false ↦ none ] ]) (some s)
        → CodedSign s
    go true y ih e = let z : u ≡ s = cc in subst CodedSign z h.0
    go false true ih e = ih e
    go false false ih e = nothing e

module _ (tb : Table) (held : Sane tb) where
  pub coded_text : (t : Text) (r : Row) → Reads tb r t → Coded (signs_of tb t)
  coded_text t r e =
      let h : OfText tb held r t = of_text tb held r t e in
      subst Coded (sym h.signs) (coded_pieces (pieces_of tb held t))

  module _ (r : Row) where
    -- a walk of the rules is one of public steps
    visits : (n : ℕ) (ss : List Sign) → Coded ss → Walks tb r n (map (λ (s : Sign). s.shown) ss)
        → (steps : List stepper.Sign) × Visits tb r n steps × (print_by steps ≡ joined (map (λ (s : Sign). s.shown) ss)) × (length steps ≡ length ss)
    visits n [] h w = ([], w, refl, refl)
    visits n (s ∷ ss) h w =
        let c : stepper.Sign = record { lead = h.0.0; point = h.0.1; next = w.0 } in
        let q : s.shown ≡ points c.lead c.point = h.0.2 in
        let v = visits c.next ss h.1 w.3 in (
          c ∷ v.0,
          (sign_there c (subst (λ (u : Text). Stepped tb r n (shows (record { points = u; next = c.next }))) q w.1), w.2, v.1),
          ap (λ (u : Text). u ++ print_by v.0) (sym q) ∙ ap (λ (u : Text). s.shown ++ u) v.2,
          ap suc v.3,
        )

    -- a step that shows nothing
    abbrev Means : ℕ → Type 0
    Means n = (t : Text) × ReadsAs tb r t × (sign_at (signs_of tb t) n ≡ none)

    still_means : (n : ℕ) (a : StepAnswer) → Stepped tb r n a → a ≡ shows (record { points = []; next = n }) → Means n
    still_means n a (stepped t h) e = go (sign_at (signs_of tb t) n) refl e
      where
        go : (x : Option Sign) → sign_at (signs_of tb t) n ≡ x → shows (shown_by x n) ≡ shows (record { points = []; next = n }) → Means n
        go none q e = (t, h, q)
        go (some s) q e =
            let c : CodedSign s = coded_at (signs_of tb t) (coded_text t r h.reads) n s q in
            let z : s.shown ≡ [] = ap (λ (x : screen.Shown). x.points) (shows_same _ _ e) in
            absurd (omega (arith, ap length z, ap length c.2, (points_width c.0 c.1).0))
    still_means n a (stayed x h) e = let z : ◌≡◌ {A = ℕ} 0 1 = cc in absurd (omega arith)

  pub still_exactly_in : StillExactly tb
  still_exactly_in r n = (there, λ m. no_sign_there (subst (λ (x : Option Sign). Stepped tb r n (shows (shown_by x n))) m.2 (stepped m.0 m.1)))
    where
      there : Shows tb r n (Ok None) → Means r n
      there (no_sign_there h) = still_means r n (shows (record { points = []; next = n })) h refl

  pub walk_shows_text_in : WalkShowsText tb
  walk_shows_text_in r t h =
      let ss : List Sign = signs_of tb t in
      let j = signs_join tb held t r h.reads in
      let w : Walks tb r 0 (map (λ (s : Sign). s.shown) ss) =
      walks tb held r t h 0 ss (filled_signs tb held t r h.reads) (λ k. ap (sign_at ss) (omega arith), omega (arith, ap length j.1)) in
      let v = visits r 0 ss (coded_text t r h.reads) w in
      (v.0, v.1, v.2 ∙ joined_signs ss ∙ j.0, v.3)
