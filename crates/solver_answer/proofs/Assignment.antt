-- What a text gives of n variables is an assignment: n bytes, each 0 or 1.
use Prim.Native.Nat.{◌<◌, suc, zero, ℕ}
use lib.ListN.{length}
use mathlib.Core.Bool.{Bool, cond, false, true}
use mathlib.Core.List.{List}
use mathlib.Core.Path.{◌≡◌, ap, refl}
use native.Mathlib.Omega.{arith}
use Rattle.clause_set.specs.Bytes.{Bits, IsAssignment}
use Rattle.solver_answer.specs.Lines.{Number, kinds_of}
use Rattle.solver_answer.specs.Answer.{assignment, bytes_from, is_true, numbers}

bytes_long : (x k : ℕ) (ms : List Number) → length (bytes_from x k ms) ≡ k
unfolding bytes_from
bytes_long x zero ms = refl
bytes_long x (suc k) ms = ap suc (bytes_long (suc x) k ms)

bytes_bits : (x k : ℕ) (ms : List Number) → Bits (bytes_from x k ms)
unfolding bytes_from
bytes_bits x zero ms = tt
bytes_bits x (suc k) ms = (by (is_true x ms), bytes_bits (suc x) k ms)
  where
    by : (b : Bool) → cond b 1 0 < 2
    by true = omega arith
    by false = omega arith

pub assignment_is : (n : ℕ) (text : List ℕ) → IsAssignment n (assignment n text)
unfolding assignment
assignment_is n text = record { long = bytes_long 1 n (numbers (kinds_of text)); bits = bytes_bits 1 n (numbers (kinds_of text)) }
