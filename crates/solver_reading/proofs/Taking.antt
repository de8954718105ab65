-- Laws of taking the numbers of a line.
use Prim.Native.Nat.{◌+◌, ◌-◌, ◌<◌, ◌≤◌, min, suc, ℕ}
use borrow.Author.Tests.{eq-eqb, le-ltb, leb-false, leb-true, lt-ltb, ne_eqb}
use lib.Dec.{leb}
use lib.ListN.{drop, drop_of_length-le, get_or, length, set}
use lib.Seq.{drop-cons}
use mathlib.Core.Bool.{Bool, ◌||◌, false, not, true, true≢false}
use mathlib.Core.List.{List, ◌∷◌}
use mathlib.Core.Path.{◌∙◌, ◌≡◌, ap, refl, sym}
use native.Mathlib.Numerals.{add-one}
use native.Mathlib.Omega.{arith}
use Rattle.std.specs.Prelude.{Option, Some, None, is_some}
use Rattle.solver_reading.specs.declared.Phase.{Phase}
use Rattle.solver_reading.specs.declared.Phase.TheVariants.{Broken}
use Rattle.solver_reading.specs.declared.State.{State}
use Rattle.solver_lines.specs.Scans.{capped, number_read, signed}
use Rattle.solver_lines.specs.declared.Number.{Number as Read}
use Rattle.solver_answer.specs.Lines.{is_number, number}
use Rattle.solver_reading.specs.Reading.{Run, after_pieces, in_phase, is_wrong, run, take_number}

pub or_true : (b : Bool) → (b || true) ≡ true
or_true true = refl
or_true false = refl

pub or_none : (b : Bool) → (b || false) ≡ b
or_none true = refl
or_none false = refl

abbrev made : Phase → Bool → Bool → Bool → List (Option Bool) → Run
made p s l w g = run (record { phase = p; seen = s; late = l; wrong = w }) g

same_run : (p : Phase) {s s' l l' w w' : Bool} {b b' : List (Option Bool)} → s ≡ s' → l ≡ l' → w ≡ w' → b ≡ b' → made p s l w b ≡ made p s' l' w' b'
same_run p e f g h = cc

-- One number ------------------------------------------------------------------------------------------------------------

module _ (n : ℕ) (st : State) (given : List (Option Bool)) (negative : Bool) (size : ℕ) {late : Bool} (is-late : late ≡ (st.late || st.seen)) where
  abbrev taken : Run
  taken = take_number n (run st given) (record { negative = negative; size = size })

  pub take_zero : size ≡ 0 → made st.phase true late st.wrong given ≡ taken
  unfolding take_number is_wrong
  take_zero e =
      let t = eq-eqb size 0 e in
      same_run st.phase (sym (rw t (or_true st.seen))) is-late (sym (rw t (or_none st.wrong))) (rw t)

  pub take_unknown : (size ≡ 0 → ⊥) → n < size → made st.phase st.seen late true given ≡ taken
  unfolding take_number is_wrong
  take_unknown e h =
      let t = ne_eqb size 0 e in
      let u = lt-ltb n size h in
      same_run st.phase (sym (rw t (or_none st.seen))) is-late (sym (rw (t, u) (or_true st.wrong))) (rw (t, u))

  pub take_doubled : (size ≡ 0 → ⊥) → size ≤ n → is_some (get_or given (size - 1) None) ≡ true → made st.phase st.seen late true given ≡ taken
  unfolding take_number is_wrong
  take_doubled e h v =
      let t = ne_eqb size 0 e in
      let u = le-ltb n size h in
      same_run st.phase (sym (rw t (or_none st.seen))) is-late (sym (rw (t, u, v) (or_true st.wrong))) (rw (t, u, v))

  pub take_open : (size ≡ 0 → ⊥) → size ≤ n → is_some (get_or given (size - 1) None) ≡ false
      → made st.phase st.seen late st.wrong (set given (size - 1) (Some (not negative))) ≡ taken
  unfolding take_number is_wrong
  take_open e h v =
      let t = ne_eqb size 0 e in
      let u = le-ltb n size h in
      same_run st.phase (sym (rw t (or_none st.seen))) is-late (sym (rw (t, u, v) (or_none st.wrong))) (rw (t, u, v))

-- numbers above 65536 are as unknown as 65536
take_capped : (n : ℕ) (r : Run) (negative : Bool) (s : ℕ) → n ≤ 65535
    → take_number n r (record { negative = negative; size = min s 65536 }) ≡ take_number n r (record { negative = negative; size = s })
take_capped n r negative s h = by (leb s 65536) refl
  where
    by : (b : Bool) → leb s 65536 ≡ b → take_number n r (record { negative = negative; size = min s 65536 }) ≡ take_number n r (record { negative = negative; size = s })
    by true q = let t = leb-true s 65536 q in let e : min s 65536 ≡ s = omega (arith, t) in rw e
    by false q =
        let t = leb-false s 65536 q in
        let k : n < min s 65536 = omega (arith, t) in
        sym (take_unknown n r.state r.given negative (min s 65536) refl (λ z. omega (arith, z, t)) k)
        ∙ take_unknown n r.state r.given negative s refl (λ z. omega (arith, z, t)) (omega (arith, t))

-- The numbers of a line -------------------------------------------------------------------------------------------------

-- a piece is read as a number, or is none
number_none : (t : List ℕ) → number_read t ≡ None → is_number t ≡ false
unfolding number_read
number_none t e = by (is_number t) refl
  where
    by : (b : Bool) → is_number t ≡ b → b ≡ false
    by true q = let z : is_some (number_read t) ≡ true = rw q in absurd (true≢false (sym z ∙ ap is_some e))
    by false q = refl

number_some : (t : List ℕ) {m : Read} → number_read t ≡ Some m → (is_number t ≡ true) × (m ≡ capped (number t))
unfolding number_read
number_some t {m} e = by (is_number t) refl
  where
    by : (b : Bool) → is_number t ≡ b → (is_number t ≡ true) × (m ≡ capped (number t))
    by true q = let z : Some (capped (number t)) ≡ Some m = rw q at e in (q, let y : m ≡ capped (number t) = cc in y)
    by false q = let z : None ≡ Some m = rw q at e in absurd (true≢false (sym (ap is_some z)))

pieces_stop : (n : ℕ) (r : Run) (t : List ℕ) (ts : List (List ℕ)) → number_read t ≡ None → after_pieces n r (t ∷ ts) ≡ in_phase r Broken
unfolding after_pieces
pieces_stop n r t ts e = rw (number_none t e)

pieces_more : (n : ℕ) (r : Run) (t : List ℕ) (ts : List (List ℕ)) {m : Read} → n ≤ 65535 → number_read t ≡ Some m → after_pieces n r (t ∷ ts) ≡ after_pieces n (take_number n r (signed m)) ts
unfolding after_pieces
pieces_more n r t ts {m} h e =
    let s = number_some t e in
    rw (s.0, s.1, take_capped n r (number t).negative (number t).size h)

-- where k pieces are read, the next is the piece at hand
pub piece_here : (all : List (List ℕ)) (k : ℕ) {t : List ℕ} → (k < length all) × (t ≡ get_or all k t) → drop k all ≡ t ∷ drop (k + 1) all
piece_here all k {t} h = rw add-one (drop-cons all k t h.0 ∙ ap (λ (u : List ℕ). u ∷ drop (suc k) all) (sym h.1))

module _ (n n' : ℕ) (r : Run) (all : List (List ℕ)) (k : ℕ) (t : List ℕ) {g : Run} (same : n' ≡ n) (here : drop k all ≡ t ∷ drop (k + 1) all)
    (left : after_pieces n' r (drop k all) ≡ g) where
  pub pieces_broken : number_read t ≡ None → in_phase r Broken ≡ g
  pieces_broken e = sym (pieces_stop n' r t (drop (k + 1) all) e) ∙ ap (after_pieces n' r) (sym here) ∙ left

  pub pieces_turn : {q : Run} {k' n'' : ℕ} {m : Read} → n ≤ 65535 → n'' ≡ n → k' ≡ k + 1 → number_read t ≡ Some m → q ≡ take_number n' r (signed m)
      → after_pieces n'' q (drop k' all) ≡ g
  pieces_turn {q} {k'} {n''} {m} h s l e w =
      let f : n' ≤ 65535 = omega (arith, same, h) in
      let z : n'' ≡ n' = omega (arith, same, s) in
      rw (z, l, w) (sym (pieces_more n' r t (drop (k + 1) all) f e) ∙ ap (after_pieces n' r) (sym here) ∙ left)

-- and none is left at the end
pub pieces_end : (n : ℕ) (r : Run) (all : List (List ℕ)) (k : ℕ) {g : Run} → k ≡ length all → after_pieces n r (drop k all) ≡ g → r ≡ g
unfolding after_pieces
pieces_end n r all k e h = let l : length all ≤ k = omega (arith, e) in rw (drop_of_length-le all l) at h
