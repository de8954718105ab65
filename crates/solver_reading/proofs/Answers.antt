-- What the code answers is what the text says: numbers 19, 20, 16, the word and the bytes.
use Prim.Native.Nat.{◌<◌, ◌≤◌, ℕ}
use borrow.Author.Tests.{eqb-true}
use lib.Dec.{eqb}
use lib.ListN.{get_or, get_or-replicate, length, length-replicate, length-take, replicate, take}
use mathlib.Core.Bool.{Bool, ◌||◌, cond, false, not, true, true≢false}
use mathlib.Core.List.{List}
use mathlib.Core.Path.{◌∙◌, ◌≡◌, ap, refl, subst, sym}
use native.Mathlib.Omega.{arith}
use Rattle.std.proofs.lemmas.List.{take-replicate}
use Rattle.std.specs.Prelude.{Option, None, Ok, Err, Result, is_ok, map}
use Rattle.refusal.specs.declared.Refusal.{Refusal}
use Rattle.refusal.specs.declared.Refusal.TheVariants.{NoAssignment, NotGivenOnce, NotWhole}
use Rattle.solver_answer.specs.declared.Solution.{Solution}
use Rattle.solver_answer.specs.declared.Solution.TheVariants.{Assignment, Unsatisfiable}
use Rattle.solver_answer.specs.Answer.{Reads, assignment, each_given, kinds_solution, numbers, said, satisfiable, solution, whole}
use Rattle.solver_answer.specs.Lines.{Kind, kinds_of}
use Rattle.solver_reading.specs.declared.Phase.TheVariants.{Satisfiable}
use Rattle.solver_reading.specs.Reading.{Run, begun, byte, in_phase, is_found, run, run_given, run_of, run_solution, after_lines}
use Rattle.solver_reading.specs.declared.State.{State}
use Rattle.lines.specs.Reading.{split}
use Rattle.solver_reading.proofs.Whole.{run_says}
use Rattle.solver_reading.proofs.Given.{bytes_are, given_is}

pub no_ok : {e : Refusal} {s : Solution} → Err e ≡ Ok s → ⊥
no_ok h = true≢false (sym (ap is_ok h))

pub ok_same : {s t : Solution} → ◌≡◌ {A = Result Solution Refusal} (Ok s) (Ok t) → s ≡ t
ok_same h = cc

abbrev is_assignment : Solution → Bool
is_assignment Assignment = true
is_assignment Unsatisfiable = false

pub no_both : Unsatisfiable ≡ Assignment → ⊥
no_both h = true≢false (sym (ap is_assignment h))

word_says : (b : Bool) → Assignment ≡ cond b Assignment Unsatisfiable → b ≡ true
word_says true h = refl
word_says false h = absurd (true≢false (ap is_assignment h))

module _ (n : ℕ) (text : List ℕ) where
  -- nothing given, behind a satisfiable `s` line
  abbrev open_run : Run
  open_run = in_phase (run begun (replicate n None)) Satisfiable

  abbrev ks : List Kind
  ks = kinds_of text

  abbrev z : Run
  z = run_of n text

  long : length open_run.given ≡ n
  long = rw length-replicate

  unset : (v : ℕ) → v < n → get_or open_run.given v None ≡ None
  unset v h = get_or-replicate n v None None h

  given_once : whole ks ≡ true → satisfiable ks ≡ true → run_given z ≡ each_given n (numbers ks)
  given_once w s = rw ((run_says n text).took w s) (given_is n open_run (numbers ks) refl long unset)

  given_bytes : whole ks ≡ true → satisfiable ks ≡ true → each_given n (numbers ks) ≡ true → map byte z.given ≡ assignment n text
  unfolding assignment
  given_bytes w s g = rw ((run_says n text).took w s) (bytes_are n open_run (numbers ks) refl long unset g)

  -- the numbers, and the word
  pub solution_is : (room : ℕ) → run_solution n z room ≡ solution n text room
  unfolding solution kinds_solution
  solution_is room = rw (run_says n text).is_whole (by (whole ks) refl)
    where
      rest : Bool → Bool → Result Solution Refusal
      rest s g = cond (not s || g) (cond (eqb room n) (Ok (cond s Assignment Unsatisfiable)) (Err NoAssignment)) (Err NotGivenOnce)

      at : whole ks ≡ true → (s : Bool) → satisfiable ks ≡ s → rest (satisfiable ks) (run_given z) ≡ rest (satisfiable ks) (each_given n (numbers ks))
      at w true e = ap (rest (satisfiable ks)) (given_once w e)
      at w false e = rw e

      by : (w : Bool) → whole ks ≡ w → cond w (rest (is_found z.state.phase) (run_given z)) (Err NotWhole) ≡ cond w (rest (satisfiable ks) (each_given n (numbers ks))) (Err NotWhole)
      by true e = rw ((run_says n text).is_sat e) (at e (satisfiable ks) refl)
      by false e = refl

  -- what an accepted answer passed
  record Accepted (s : Solution) (room : ℕ) : Type 0 where
    is_whole : whole ks ≡ true
    is_given : (not (satisfiable ks) || each_given n (numbers ks)) ≡ true
    as_long : room ≡ n
    word : s ≡ cond (satisfiable ks) Assignment Unsatisfiable

  accepted : {s : Solution} (room : ℕ) → solution n text room ≡ Ok s → Accepted s room
  unfolding solution kinds_solution
  accepted {s} room h = by (whole ks) refl (not (satisfiable ks) || each_given n (numbers ks)) refl (eqb room n) refl h
    where
      by : (w : Bool) → whole ks ≡ w → (g : Bool) → (not (satisfiable ks) || each_given n (numbers ks)) ≡ g → (l : Bool) → eqb room n ≡ l
          → cond w (cond g (cond l (Ok (cond (satisfiable ks) Assignment Unsatisfiable)) (Err NoAssignment)) (Err NotGivenOnce)) (Err NotWhole) ≡ Ok s → Accepted s room
      by true w true g true l h = record { is_whole = w; is_given = g; as_long = eqb-true room n l; word = cc }
      by true w true g false l h = absurd (no_ok h)
      by true w false g l e h = absurd (no_ok h)
      by false w g e l f h = absurd (no_ok h)

  -- The call, where `out` is the lent slice -------------------------------------------------------------------------------

  module _ (out : List ℕ) where
    pub read_kept : {r : Result Solution Refusal} → r ≡ run_solution n z (length out) → (r ≡ Ok Assignment → ⊥) → Reads n text out r out
    unfolding said
    read_kept {r} h k = record { answer = h ∙ solution_is (length out); bytes = by r k }
      where
        by : (q : Result Solution Refusal) → (q ≡ Ok Assignment → ⊥) → out ≡ (said q (assignment n text) out).slice
        by (Ok Assignment) k = absurd (k refl)
        by (Ok Unsatisfiable) k = refl
        by (Err e) k = refl

    pub read_found : {after : List ℕ} {r : Result Solution Refusal} → r ≡ run_solution n z (length out) → r ≡ Ok Assignment → after ≡ map byte z.given
        → Reads n text out r after
    unfolding said
    read_found {after} h k w =
        let a = accepted (length out) (sym (solution_is (length out)) ∙ sym h ∙ k) in
        let s = word_says (satisfiable ks) a.word in
        let g : each_given n (numbers ks) ≡ true = rw s at a.is_given in
        record { answer = h ∙ solution_is (length out); bytes = w ∙ given_bytes a.is_whole s g ∙ rw k }

-- The call itself, where `given` has a place for each variable, all open ----------------------------------------------------

module _ (n n' : ℕ) (text : List ℕ) (room : ℕ) {st first : State} {given given' : List (Option Bool)}
    (ran : run st given' ≡ after_lines n (run first given) (split 10 text)) (begins : first ≡ begun) (none : given ≡ replicate n None) where
  whole_run : run st given' ≡ run_of n text
  unfolding run_of
  whole_run =
      ran ∙ ap (λ (f : State). after_lines n (run f given) (split 10 text)) begins
      ∙ ap (λ (g : List (Option Bool)). after_lines n (run begun g) (split 10 text)) none

  pub solved : {r : Result Solution Refusal} → n' ≡ n → r ≡ run_solution n' (run st given') room → r ≡ run_solution n (run_of n text) room
  solved l s = s ∙ ap (λ (k : ℕ). run_solution k (run st given') room) l ∙ ap (λ (q : Run). run_solution n q room) whole_run

  pub all_given : given' ≡ (run_of n text).given
  all_given = ap (λ (q : Run). q.given) whole_run

-- the places for n variables
abbrev room : ℕ → List (Option Bool)
room n = take n (replicate 65536 None)

pub room_long : (n : ℕ) → n ≤ 65535 → length (room n) ≡ n
room_long n h = rw (length-take, length-replicate) (omega arith)

pub room_open : (n : ℕ) → n ≤ 65535 → room n ≡ replicate (length (room n)) None
room_open n h = take-replicate n 65536 None (omega arith) ∙ ap (λ (k : ℕ). replicate k None) (sym (room_long n h))

pub room_read : (n : ℕ) (h : n ≤ 65535) {text out after : List ℕ} {r : Result Solution Refusal} → Reads (length (room n)) text out r after → Reads n text out r after
room_read n h {text} {out} {after} {r} a = let P : ℕ → Type 0 = λ k. Reads k text out r after in subst P (room_long n h) a
