-- For any profile whose table passes the tests of `Sane`: reading is transcribing turned round, and a row has at most one text. A text's pieces
-- are in the table's list (`all_in`), so its row reads back as them (`reads_back`); what is read is pieces of the list whose print is a text
-- with that row (`reads_right`). No clause names a sign. Assumes nothing.
use mathlib.Core.Path.{◌≡◌, refl, sym, ◌∙◌, ap, subst}
use mathlib.Core.Logic.{◌⊎◌, inl, inr, ⊎_elim}
use mathlib.Core.Bool.{Bool, true, false, ◌&&◌, ◌||◌, not, cond}
use mathlib.Core.List.{List, [], ◌∷◌, ◌++◌, map}
use mathlib.Core.Option.{Option, none, some}
use Prim.Native.Nat.{ℕ, zero-le}
use lib.Dec.{T, eqb, eqb→eq, eqb_refl, leb}
use lib.ListN.{length}
use Rattle.rules.specs.Cells.{Text, Row, last_cell}
use Rattle.rules.specs.Sorts.{Sort, no_sign, full_stop, fraction_bar, Item, Table, Class, class}
use Rattle.rules.specs.Signs.{Way}
use Rattle.rules.specs.Pairs.{Opens, turn, open_after}
use Rattle.rules.specs.Places.{class_at, Outcome, fault, silent, sign}
use Rattle.rules.specs.Rows.{sort_in, item_in, items_in, Reads, good, verdict_of, verdict_from, signs_of}
use Rattle.rules.specs.Normal.{normal_of}
use Rattle.rules.specs.Demands.{OneText, AcceptedIsNormal}
use Rattle.rules.proofs.Finite.{nothing, every, every3, at3, and_left, and_right}
use Rattle.rules.proofs.States.{Past, free, Mode, Free}
use Rattle.rules.proofs.Sides.{row_on, rule, after, future}
use Rattle.rules.proofs.Enumerations.{classes, ways, modes, way_same}
use Rattle.rules.proofs.Machine.{the_bar, the_stop, ◌by◌, step, at_rest, mode_at, waiting, lead_of, ready}
use Rattle.rules.proofs.Places.{past}
use Rattle.rules.proofs.Rows.{verdict_is, whole_row, reads_good, good_reads}
use Rattle.rules.proofs.Pairs.{kinds_known}
use Rattle.rules.proofs.Normal.{normal_codes, good_is_normal}
use Rattle.rules.proofs.Pieces.{Piece, word, words, due, lead, items, put, pieces, Good, good_of_verdict, verdict_of_good, Runs, row_words, runs, proper_code, Proper, printed_from, texts, sign_of, signs_is, signs_are_pieces}
use Rattle.rules.proofs.Reader.{In, in_left, in_right, in_cases, every_in, walk, ways_of, all_pieces, all_apart, all_begin, AllIn, reads, sound}

-- TEST: a way that the machine takes is one of its class, and no class without a sign is taken
is_there : Option Mode → Bool
is_there none = false
is_there (some m) = true

has : Way → List Way → Bool
has w [] = false
has w (v ∷ vs) = w by v || has w vs

listed : Mode → Way → Class → Bool
unfolding is_there has
listed m w c = not (is_there (step m w c)) || has w (ways_of c)

listed_all : T (every3 modes ways classes listed)
unfolding listed step ways_of at_rest
listed_all = tt

has_in : (w : Way) (vs : List Way) → T (has w vs) → In w vs
unfolding has
has_in w [] h = h
has_in w (v ∷ vs) h = go (w by v) refl (has_in w vs) h
  where
    go : (b : Bool) → (w by v) ≡ b → (T (has w vs) → In w vs) → T (b || has w vs) → (w ≡ v) ⊎ In w vs
    go true e ih h = inl (way_same w v (subst T (sym e) tt))
    go false e ih h = inr (ih h)

way_in : (m : Mode) (w : Way) (c : Class) {n : Mode} → step m w c ≡ some n → In w (ways_of c)
unfolding listed is_there
way_in m w c {n} e =
    has_in w (ways_of c) (subst (λ (x : Option Mode). T (not (is_there x) || has w (ways_of c))) e (at3 modes ways classes listed listed_all m w c))

-- the table's entries
in_map : (i : Item) (w : Way) (vs : List Way) → In w vs → In {A = Piece} (w, i) (map (λ v. (v, i)) vs)
in_map i w [] h = h
in_map i w (v ∷ vs) (inl e) = inl (ap (λ (x : Way). (x, i)) e)
in_map i w (v ∷ vs) (inr h) = inr (in_map i w vs h)

map_in : (i : Item) (s : Piece) (vs : List Way) → In {A = Piece} s (map (λ v. (v, i)) vs) → s.1 ≡ i
map_in i s [] h = absurd h
map_in i s (v ∷ vs) (inl e) = ap (λ (x : Piece). x.1) e
map_in i s (v ∷ vs) (inr h) = map_in i s vs h

piece_in : (tb : Table) (i : Item) (w : Way) → In i tb → In w (ways_of (class_at i)) → In {A = Piece} (w, i) (all_pieces tb)
unfolding all_pieces
piece_in [] i w h k = h
piece_in (j ∷ tb) i w (inl e) k =
    in_left {A = Piece} (w, i) (map (λ v. (v, j)) (ways_of (class_at j))) (all_pieces tb)
    (subst (λ (x : Item). In {A = Piece} (w, i) (map (λ v. (v, x)) (ways_of (class_at x)))) e (in_map i w (ways_of (class_at i)) k))
piece_in (j ∷ tb) i w (inr h) k = in_right {A = Piece} (w, i) (map (λ v. (v, j)) (ways_of (class_at j))) (all_pieces tb) (piece_in tb i w h k)

in_piece : (tb : Table) (s : Piece) → In s (all_pieces tb) → In s.1 tb
unfolding all_pieces
in_piece [] s h = h
in_piece (j ∷ tb) s h =
    ⊎_elim (λ k. inl (map_in j s (ways_of (class_at j)) k)) (λ k. inr (in_piece tb s k))
    (in_cases s (map (λ v. (v, j)) (ways_of (class_at j))) (all_pieces tb) h)

-- a code point's entry is in the table, or it has none
abbrev Known : Table → Item → Type 0
Known tb i = (i.1 ≡ no_sign) ⊎ In i tb

known : (tb : Table) (c : ℕ) → Known tb (c, sort_in tb c)
unfolding sort_in
known [] c = inl refl
known (i ∷ tb) c = go (eqb i.0 c) refl (known tb c)
  where
    go : (b : Bool) → eqb i.0 c ≡ b → Known tb (c, sort_in tb c) → Known (i ∷ tb) (c, elim b [ true ↦ i.1 | false ↦ sort_in tb c ])
    go true e k = inr (inl (ap (λ (x : ℕ). (x, i.1)) (sym (eqb→eq i.0 c (subst T (sym e) tt)))))
    go false e k = ⊎_elim (λ h. inl h) (λ h. inr (inr h)) k

piece_known : (tb : Table) (i : Item) → Known tb i → (m : Mode) (w : Way) {n : Mode} → step m w (class_at i) ≡ some n
    → In {A = Piece} (w, i) (all_pieces tb)
unfolding step class
piece_known tb i (inl e) m w {n} q = nothing (ap (λ (x : Sort). step m w (class x)) (sym e) ∙ q)
piece_known tb i (inr h) m w q = piece_in tb i w h (way_in m w (class_at i) q)

-- TEST: no code point has two entries
unfoldable pub distinct : Table → Bool
distinct [] = true
distinct (i ∷ tb) = every (λ (j : Item). not (eqb i.0 j.0)) tb && distinct tb

sort_in_lem : (tb : Table) → T (distinct tb) → (i : Item) → In i tb → sort_in tb i.0 ≡ i.1
unfolding distinct sort_in
sort_in_lem [] t i h = absurd h
sort_in_lem (j ∷ tb) t i (inl e) = go (eqb j.0 i.0) (subst (λ (x : Item). T (eqb x.0 i.0)) e (eqb_refl i.0))
  where
    go : (b : Bool) → T b → elim b as (λ _. Sort) [ true ↦ j.1 | false ↦ sort_in tb i.0 ] ≡ i.1
    go true u = ap (λ (x : Item). x.1) (sym e)
    go false u = absurd u
sort_in_lem (j ∷ tb) t i (inr h) =
    go (eqb j.0 i.0)
    (every_in (λ (x : Item). not (eqb j.0 x.0)) tb (and_left (every (λ (x : Item). not (eqb j.0 x.0)) tb) (distinct tb) t) i h)
    (sort_in_lem tb (and_right (every (λ (x : Item). not (eqb j.0 x.0)) tb) (distinct tb) t) i h)
  where
    go : (b : Bool) → T (not b) → sort_in tb i.0 ≡ i.1 → elim b as (λ _. Sort) [ true ↦ j.1 | false ↦ sort_in tb i.0 ] ≡ i.1
    go true u ih = absurd u
    go false u ih = ih

-- TEST: a piece has at most three cells, each of them one
unfoldable pub proper_word : Piece → Bool
proper_word s = leb (length (word s)) 3 && every (λ (c : ℕ). leb c last_cell) (word s)

-- WHAT A TABLE MUST PASS
pub record Sane (tb : Table) : Type 0 where
  pub apart : T (all_apart (all_pieces tb))
  pub begin : T (all_begin (all_pieces tb))
  pub proper_words : T (every proper_word (all_pieces tb))
  pub one_each : T (distinct tb)
  -- does the full stop share its cell with an apostrophe
  pub shares : Bool
  pub codes : T (every (λ (i : Item). proper_code shares i.0 i.1) tb)
  pub has_stop : sort_in tb the_stop ≡ full_stop shares
  pub has_bar : sort_in tb the_bar ≡ fraction_bar
  -- what normalising replaces, digits and ordinals
  pub normal : T (normal_codes tb)
  -- every mark is of a kind that is counted
  pub kinds : T (kinds_known tb)

-- all kinds closed, where a text begins
abbrev pub shut : Opens
shut = λ k. false

unfoldable pub print_of_pieces : Bool → List Piece → Text
print_of_pieces q ss = map (λ (i : Item). i.0) (items q ss)

abbrev pub printed : Bool → Option (List Piece) → Option Text
printed q none = none
printed q (some ss) = some (print_of_pieces q ss)

codes_of : (tb : Table) (t : Text) → map (λ (i : Item). i.0) (items_in tb t) ≡ t
unfolding items_in item_in
codes_of tb [] = refl
codes_of tb (c ∷ t) = ap (λ (u : Text). c ∷ u) (codes_of tb t)

module _ (tb : Table) (sane : Sane tb) where
  -- the reader
  unfoldable pub decode : Row → Option Text
  decode r = printed sane.shares (walk (all_pieces tb) Free shut 0 r)

  -- the pieces of a text
  unfoldable pub pieces_of : Text → List Piece
  pieces_of t = pieces free (items_in tb t)

  all_in : (p : Past) (t : Text) (m : Mode) (o : Opens) → Runs m o (pieces p (items_in tb t)) → AllIn (pieces p (items_in tb t)) (all_pieces tb)
  unfolding pieces Runs AllIn items_in item_in
  all_in p [] m o r = tt
  all_in p (c ∷ t) m o r =
      go (rule p (class (sort_in tb c)) (future (items_in tb t))) (λ (n : Mode) (u : Opens). all_in (after p (class (sort_in tb c))) t n u) r
    where
      i : Item
      i = (c, sort_in tb c)

      ss : List Piece
      ss = pieces (after p (class (sort_in tb c))) (items_in tb t)

      go : (x : Outcome) → ((n : Mode) (u : Opens) → Runs n u ss → AllIn ss (all_pieces tb)) → Runs m o (put x i ss) → AllIn (put x i ss) (all_pieces tb)
      go (fault x) ih r = ih m o r
      go silent ih r = ih m o r
      go (sign w) ih r = (piece_known tb i (known tb c) m w r.1, ih r.0 (turn (sort_in tb c) o) r.3)

  proper : (t : Text) → Proper sane.shares (items_in tb t)
  unfolding Proper items_in item_in proper_code
  proper [] = tt
  proper (c ∷ t) = (go (known tb c), proper t)
    where
      go : Known tb (c, sort_in tb c) → T (proper_code sane.shares c (sort_in tb c))
      go (inl e) = subst (λ (x : Sort). T (proper_code sane.shares c x)) (sym e) tt
      go (inr h) = every_in (λ (i : Item). proper_code sane.shares i.0 i.1) tb sane.codes (c, sort_in tb c) h

  -- AN ACCEPTED TEXT: all that is known of its pieces
  pub record OfText (r : Row) (t : Text) : Type 0 where
    pub runs : Runs Free shut (pieces_of t)
    pub inside : AllIn (pieces_of t) (all_pieces tb)
    pub row : words (pieces_of t) ≡ r
    pub print : print_of_pieces sane.shares (pieces_of t) ≡ t
    pub signs : signs_of tb t ≡ map sign_of (pieces_of t)

  pub of_text : (r : Row) (t : Text) → Reads tb r t → OfText r t
  unfolding verdict_of whole_row pieces_of ready mode_at waiting past open_after print_of_pieces signs_of
  of_text r t e =
      let a : List Item = items_in tb t in
      let g : Good free shut a = good_of_verdict free shut 0 a (sym (verdict_is [] 0 a) ∙ (reads_good tb r t e).0) in
      let h : Runs Free shut (pieces free a) = runs free shut a g tt in
      record {
        runs = h;
        inside = all_in free t Free shut h;
        row = sym (row_words free a) ∙ (reads_good tb r t e).1;
        print = ap (map (λ (i : Item). i.0)) (printed_from sane.shares free shut a g (proper t) tt) ∙ codes_of tb t;
        signs = signs_is [] [] a ∙ sym (signs_are_pieces sane.shares free shut a g (proper t) tt);
      }

  pub accepted_is_normal : AcceptedIsNormal tb
  unfolding verdict_of past open_after normal_of
  accepted_is_normal t x =
      let a : List Item = items_in tb t in
      good_is_normal tb sane.normal false free shut t (λ b. absurd b)
      (good_of_verdict free shut 0 a (sym (verdict_is [] 0 a) ∙ (reads_good tb x.0 t x.1).0))

  -- THEOREM A: an accepted text is read back from its row
  pub reads_back : (r : Row) (t : Text) → Reads tb r t → decode r ≡ some t
  unfolding decode
  reads_back r t e =
      let h : OfText r t = of_text r t e in
      ap (λ (x : Row). printed sane.shares (walk (all_pieces tb) Free shut 0 x)) (sym h.row)
      ∙ ap (printed sane.shares) (reads (all_pieces tb) sane.apart sane.begin Free shut (pieces_of t) h.runs h.inside)
      ∙ ap some h.print

  -- so a row has at most one text
  pub one_text : OneText tb
  one_text r t u e f = let z : some t ≡ some u = sym (reads_back r t e) ∙ reads_back r u f in cc

  -- the pieces' items are the text's
  same_item : (i : Item) → In i tb → item_in tb i.0 ≡ i
  unfolding item_in
  same_item i h = ap (λ (x : Sort). (i.0, x)) (sort_in_lem tb sane.one_each i h)

  recoded : List Item → List Item
  recoded a = items_in tb (map (λ (i : Item). i.0) a)

  same_cons : (i : Item) (a : List Item) → item_in tb i.0 ≡ i → recoded a ≡ a → recoded (i ∷ a) ≡ i ∷ a
  unfolding recoded items_in
  same_cons i a e ih = cc

  same_due : (n : ℕ) (i : Item) (a : List Item) → item_in tb i.0 ≡ i → recoded a ≡ a
      → recoded (due sane.shares n ++ i ∷ a) ≡ due sane.shares n ++ i ∷ a
  unfolding item_in
  same_due n i a e ih = go (eqb n the_bar) (eqb n the_stop)
    where
      waits : Bool → Bool → List Item
      waits b c = cond b ((the_bar, fraction_bar) ∷ []) (cond c ((the_stop, full_stop sane.shares) ∷ []) [])

      go : (b c : Bool) → recoded (waits b c ++ i ∷ a) ≡ waits b c ++ i ∷ a
      go true c = same_cons (the_bar, fraction_bar) (i ∷ a) (ap (λ (x : Sort). (the_bar, x)) sane.has_bar) (same_cons i a e ih)
      go false true = same_cons (the_stop, full_stop sane.shares) (i ∷ a) (ap (λ (x : Sort). (the_stop, x)) sane.has_stop) (same_cons i a e ih)
      go false false = same_cons i a e ih

  same_items : (ss : List Piece) → AllIn ss (all_pieces tb) → items_in tb (print_of_pieces sane.shares ss) ≡ items sane.shares ss
  unfolding print_of_pieces items AllIn recoded lead items_in
  same_items [] h = refl
  same_items (s ∷ ss) h = same_due (lead_of s.0) s.1 (items sane.shares ss) (same_item s.1 (in_piece tb s h.0)) (same_items ss h.1)

  -- THEOREM B: what is read from a row is an accepted text, and the row is its own
  pub reads_right : (r : Row) (t : Text) → decode r ≡ some t → Reads tb r t
  unfolding decode verdict_of whole_row mode_at waiting past open_after
  reads_right r t e = go (walk (all_pieces tb) Free shut 0 r) refl e
    where
      go : (x : Option (List Piece)) → walk (all_pieces tb) Free shut 0 r ≡ x → printed sane.shares x ≡ some t → Reads tb r t
      go none q e = nothing e
      go (some ss) q e =
          let h = sound (all_pieces tb) sane.begin r Free shut 0 ss q in
          let b = texts sane.shares Free shut ss h.0 free refl refl in
          let p : print_of_pieces sane.shares ss ≡ t = cc in
          let z : items_in tb t ≡ items sane.shares ss = ap (items_in tb) (sym p) ∙ same_items ss h.1 in
          let v : verdict_of tb t ≡ good =
          ap (verdict_from [] 0) z ∙ verdict_is [] 0 (items sane.shares ss) ∙ verdict_of_good free shut 0 (items sane.shares ss) b.0 in
          let w : whole_row tb t ≡ r =
          ap (row_on free) z ∙ row_words free (items sane.shares ss) ∙ ap words b.1 ∙ h.2 zero-le in
          good_reads tb t v ∙ ap some w

  -- every row has a text, or none of any length
  pub text_or_none : (r : Row) → ((t : Text) × Reads tb r t) ⊎ ((t : Text) → Reads tb r t → ⊥)
  text_or_none r = go (decode r) refl
    where
      go : (x : Option Text) → decode r ≡ x → ((t : Text) × Reads tb r t) ⊎ ((t : Text) → Reads tb r t → ⊥)
      go none e = inr (λ t h. nothing (sym e ∙ reads_back r t h))
      go (some t) e = inl (t, reads_right r t e)
