-- What a print answers, by its checks and its room.
use Prim.Native.Nat.{◌<◌, ◌≤◌, ℕ}
use borrow.Author.Tests.{eqb-true, le-leb, leb-true, lt-leb}
use lib.Dec.{eqb, leb}
use lib.ListN.{length}
use mathlib.Core.Bool.{Bool, cond, false, true, true≢false}
use mathlib.Core.List.{List}
use mathlib.Core.Path.{◌∙◌, ◌≡◌, ap, refl, sym}
use native.Mathlib.Omega.{arith}
use Rattle.std.specs.Prelude.{Err, Ok, Result, is_ok}
use Rattle.text.specs.Bytes.{Printed, whole}
use Rattle.encoder_env.specs.declared.EncoderEnv.{EncoderEnv}
use Rattle.encoder_env.specs.WellFormed.{well_formed}
use Rattle.encoder_env.proofs.Kept.{kept}
use Rattle.encoder_env.proofs.Tests.{both}
use Rattle.encoder_read.specs.Calls.{all_bits, is_assignment}
use Rattle.refusal.specs.Number.{status}
use Rattle.refusal.specs.declared.Refusal.{Refusal}
use Rattle.refusal.specs.declared.Refusal.TheVariants.{IllFormed, NoAssignment, NoSpace}
use Rattle.solver_answer.specs.Print.{print, print_said}
use Rattle.solver_answer.proofs.Sizes.{print_size}
use Rattle.encoder_solution.specs.Answers.{PrintNumbers, PrintsAnswer, assignment_checked, print_answer}

no_ok : {A : Type 0} {e : Refusal} {s : A} → Err e ≡ Ok s → ⊥
no_ok h = true≢false (sym (ap is_ok h))

-- the number is that of the checks
pub print_numbers : PrintNumbers
unfolding print_answer
print_numbers env lits ends bytes room = by (well_formed env lits ends) (is_assignment env.variables bytes) (leb (length (print bytes)) room)
  where
    by : (w a l : Bool) → status (cond w (cond a (cond l (Ok (length (print bytes))) (Err NoSpace)) (Err NoAssignment)) (Err IllFormed)) ≡ cond w (cond a (cond l 0 15) 16) 1
    by true true true = refl
    by true true false = refl
    by true false l = refl
    by false a l = refl

-- a job that is well formed, and an assignment of its variables
record Passed (env : EncoderEnv) (lits ends : ℕ) (bytes : List ℕ) : Type 0 where
  formed : well_formed env lits ends ≡ true
  is : is_assignment env.variables bytes ≡ true

small : (env : EncoderEnv) (lits ends : ℕ) (bytes : List ℕ) → Passed env lits ends bytes → length bytes ≤ 65535
small env lits ends bytes p =
    let l = both (eqb (length bytes) env.variables) (all_bits bytes) p.is in
    omega (arith, eqb-true (length bytes) env.variables l.0, (kept env lits ends p.formed).variables_max)

module _ (env : EncoderEnv) (lits ends bytes slice : List ℕ) {r : Result (Unit {0}) Refusal} (e : r ≡ assignment_checked env (length lits) (length ends) bytes) where
  passed : r ≡ Ok (tt {0}) → Passed env (length lits) (length ends) bytes
  passed h = by (well_formed env (length lits) (length ends)) refl (is_assignment env.variables bytes) refl (sym e ∙ h)
    where
      by : (w : Bool) → well_formed env (length lits) (length ends) ≡ w → (a : Bool) → is_assignment env.variables bytes ≡ a
          → cond w (cond a (Ok (tt {0})) (Err NoAssignment)) (Err IllFormed) ≡ Ok (tt {0}) → Passed env (length lits) (length ends) bytes
      by true w true a h = record { formed = w; is = a }
      by true w false a h = absurd (no_ok h)
      by false w a b h = absurd (no_ok h)

  -- an assignment that is one has at most 65,535 bytes
  pub assignment_small : r ≡ Ok (tt {0}) → length bytes ≤ 65535
  assignment_small h = small env (length lits) (length ends) bytes (passed h)

  pub print_refused : {x : Refusal} {q : Result ℕ Refusal} → r ≡ Err x → q ≡ Err x → PrintsAnswer env lits ends bytes slice q slice
  unfolding print_answer print_said
  print_refused {x} h k = record { answer = k ∙ by (well_formed env (length lits) (length ends)) (is_assignment env.variables bytes) (sym h ∙ e); text = rw k }
    where
      by : (w a : Bool) → Err x ≡ cond w (cond a (Ok (tt {0})) (Err NoAssignment)) (Err IllFormed)
          → Err x ≡ cond w (cond a (cond (leb (length (print bytes)) (length slice)) (Ok (length (print bytes))) (Err NoSpace)) (Err NoAssignment)) (Err IllFormed)
      by true true q = absurd (no_ok q)
      by true false q = let y : x ≡ NoAssignment = cc in ap Err y
      by false a q = let y : x ≡ IllFormed = cc in ap Err y

  module _ (h : r ≡ Ok (tt {0})) {size : ℕ} {after : List ℕ} (p : Printed (print bytes) slice size after) where
    -- 15 is what is left to test
    room_test : print_answer env (length lits) (length ends) bytes (length slice) ≡ cond (leb size (length slice)) (Ok size) (Err NoSpace)
    unfolding print_answer
    room_test = let w = passed h in rw (w.formed, w.is, p.size)

    pub print_short : length slice < size → PrintsAnswer env lits ends bytes slice (Err NoSpace) after
    unfolding print_said whole
    print_short l =
        let t = lt-leb size (length slice) l in
        record { answer = rw (room_test, t); text = p.bytes ∙ rw (← p.size, t) }

    pub print_whole : size ≤ length slice → PrintsAnswer env lits ends bytes slice (Ok size) after
    unfolding print_said whole
    print_whole l =
        let t = le-leb size (length slice) l in
        record { answer = rw (room_test, t); text = p.bytes ∙ rw (← p.size, t) }

-- a text that was written is the whole print: the checks of the assignment passed, and it fits the slice
record TextWritten (env : EncoderEnv) (lits ends : ℕ) (bytes : List ℕ) (room size : ℕ) : Type 0 where
  size_is : size ≡ length (print bytes)
  checked : Passed env lits ends bytes
  fits : size ≤ room

text_written : (env : EncoderEnv) (lits ends : ℕ) (bytes : List ℕ) (room size : ℕ) → Ok size ≡ print_answer env lits ends bytes room → TextWritten env lits ends bytes room size
unfolding print_answer
text_written env lits ends bytes room size e = by (well_formed env lits ends) refl (is_assignment env.variables bytes) refl (leb (length (print bytes)) room) refl e
  where
    by : (w : Bool) → well_formed env lits ends ≡ w → (a : Bool) → is_assignment env.variables bytes ≡ a → (l : Bool) → leb (length (print bytes)) room ≡ l
        → Ok size ≡ cond w (cond a (cond l (Ok (length (print bytes))) (Err NoSpace)) (Err NoAssignment)) (Err IllFormed) → TextWritten env lits ends bytes room size
    by true w true a true l e =
        let s : size ≡ length (print bytes) = cc in
        record { size_is = s; checked = record { formed = w; is = a }; fits = omega (arith, s, leb-true (length (print bytes)) room l) }
    by true w true a false l e = absurd (no_ok (sym e))
    by true w false a l m e = absurd (no_ok (sym e))
    by false w a b l m e = absurd (no_ok (sym e))

-- a text that was written fits the slice
pub text_fits : (env : EncoderEnv) (lits ends : ℕ) (bytes : List ℕ) (room size : ℕ) → Ok size ≡ print_answer env lits ends bytes room → size ≤ room
text_fits env lits ends bytes room size e = (text_written env lits ends bytes room size e).fits

-- and has at most 7 * 65,535 + 18 bytes
pub text_small : (env : EncoderEnv) (lits ends bytes slice : List ℕ) (size : ℕ) → Ok size ≡ print_answer env (length lits) (length ends) bytes (length slice)
    → size ≤ 458763
text_small env lits ends bytes slice size e =
    let w = text_written env (length lits) (length ends) bytes (length slice) size e in
    let s = small env (length lits) (length ends) bytes w.checked in
    omega (arith, w.size_is, print_size bytes (omega (arith, s)), s)
