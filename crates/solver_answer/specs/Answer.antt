-- What a solver's answer says, and the number it is refused with (document 02, #103).
use Rattle.std.specs.Prelude.{suc, zero, ℕ, eqb, leb, length, Bool, ◌&&◌, ◌||◌, cond, false, not, true, List, [], ◌++◌, ◌∷◌, ◌≡◌, Result, Ok, Err}
use Rattle.refusal.specs.Number.{number}
use Rattle.refusal.specs.declared.Refusal.{Refusal}
use Rattle.refusal.specs.declared.Refusal.TheVariants.{NoAssignment, NotGivenOnce, NotWhole}
use Rattle.solver_answer.specs.declared.Solution.{Solution}
use Rattle.solver_answer.specs.declared.Solution.TheVariants.{Assignment, Unsatisfiable}
use Rattle.solver_answer.specs.Lines.{Kind, Number, broken, comment, kinds_of, values, verdict}

-- 19 ------------------------------------------------------------------------------------------------------------------

-- no broken line
unfoldable pub readable : List Kind → Bool
readable [] = true
readable (comment ∷ ks) = readable ks
readable (verdict b ∷ ks) = readable ks
readable (values ns ∷ ks) = readable ks
readable (broken ∷ ks) = false

-- what the `s` lines say
unfoldable pub verdicts : List Kind → List Bool
verdicts [] = []
verdicts (comment ∷ ks) = verdicts ks
verdicts (verdict b ∷ ks) = b ∷ verdicts ks
verdicts (values ns ∷ ks) = verdicts ks
verdicts (broken ∷ ks) = verdicts ks

-- the numbers of all `v` lines, one list
unfoldable pub numbers : List Kind → List Number
numbers [] = []
numbers (comment ∷ ks) = numbers ks
numbers (verdict b ∷ ks) = numbers ks
numbers (values ns ∷ ks) = ns ++ numbers ks
numbers (broken ∷ ks) = numbers ks

-- there is a `v` line
unfoldable pub some_values : List Kind → Bool
some_values [] = false
some_values (comment ∷ ks) = some_values ks
some_values (verdict b ∷ ks) = some_values ks
some_values (values ns ∷ ks) = true
some_values (broken ∷ ks) = some_values ks

-- there is a `v` line before any `s` line
unfoldable pub values_first : List Kind → Bool
values_first [] = false
values_first (comment ∷ ks) = values_first ks
values_first (verdict b ∷ ks) = false
values_first (values ns ∷ ks) = true
values_first (broken ∷ ks) = values_first ks

-- the list has one 0, its last
unfoldable pub ended : List Number → Bool
ended [] = false
ended (n ∷ []) = eqb n.size 0
ended (n ∷ m ∷ ns) = not (eqb n.size 0) && ended (m ∷ ns)

-- one `s` line; of a satisfiable answer no `v` line before it and the list ended by 0, of an unsatisfiable one no `v` line
unfoldable pub by_verdict : List Bool → List Kind → Bool
by_verdict [] ks = false
by_verdict (true ∷ []) ks = not (values_first ks) && ended (numbers ks)
by_verdict (false ∷ []) ks = not (some_values ks)
by_verdict (a ∷ b ∷ bs) ks = false

-- the answer is whole
unfoldable pub whole : List Kind → Bool
whole ks = readable ks && by_verdict (verdicts ks) ks

-- the first `s` line says satisfiable
unfoldable pub says_satisfiable : List Bool → Bool
says_satisfiable [] = false
says_satisfiable (b ∷ bs) = b

unfoldable pub satisfiable : List Kind → Bool
satisfiable ks = says_satisfiable (verdicts ks)

-- 20 ------------------------------------------------------------------------------------------------------------------

-- no number above the variable count
unfoldable pub known : ℕ → List Number → Bool
known n [] = true
known n (m ∷ ms) = leb m.size n && known n ms

-- how often x or −x stands in the list
unfoldable pub times : ℕ → List Number → ℕ
times x [] = 0
times x (m ∷ ms) = cond (eqb m.size x) (suc (times x ms)) (times x ms)

-- each of the k numbers from x on stands in it once
unfoldable pub each_once : ℕ → ℕ → List Number → Bool
each_once x zero ms = true
each_once x (suc k) ms = eqb (times x ms) 1 && each_once (suc x) k ms

-- variable v is number v + 1: all are known, and each of the n is given once
unfoldable pub each_given : ℕ → List Number → Bool
each_given n ms = known n ms && each_once 1 n ms

-- The assignment ------------------------------------------------------------------------------------------------------

-- x stands in the list without a minus
unfoldable pub is_true : ℕ → List Number → Bool
is_true x [] = false
is_true x (m ∷ ms) = (eqb m.size x && not m.negative) || is_true x ms

-- a byte for each of the k numbers from x on: 1 true, 0 false
unfoldable pub bytes_from : ℕ → ℕ → List Number → List ℕ
bytes_from x zero ms = []
bytes_from x (suc k) ms = cond (is_true x ms) 1 0 ∷ bytes_from (suc x) k ms

-- of n variables, what the text gives
unfoldable pub assignment : ℕ → List ℕ → List ℕ
assignment n text = bytes_from 1 n (numbers (kinds_of text))

-- The reading, where the job has n variables and the lent slice `room` bytes -------------------------------------------

-- 19, then 20, then 16
unfoldable pub kinds_solution : ℕ → List Kind → ℕ → Result Solution Refusal
kinds_solution n ks room =
    cond (whole ks)
    (cond (not (satisfiable ks) || each_given n (numbers ks))
    (cond (eqb room n) (Ok (cond (satisfiable ks) Assignment Unsatisfiable)) (Err NoAssignment))
    (Err NotGivenOnce))
    (Err NotWhole)

unfoldable pub solution : ℕ → List ℕ → ℕ → Result Solution Refusal
solution n text room = kinds_solution n (kinds_of text) room

-- What each case says: its number, its word (1 an assignment was found, 0 none was), and the slice after it, where the text gives these
-- bytes. A refusal and an unsatisfiable answer leave the slice as it was.
pub record Said : Type 0 where
  pub status : ℕ
  pub value : ℕ
  pub slice : List ℕ

unfoldable pub said : Result Solution Refusal → List ℕ → List ℕ → Said
said (Ok Assignment) bytes slice = record { status = 0; value = 1; slice = bytes }
said (Ok Unsatisfiable) bytes slice = record { status = 0; value = 0; slice = slice }
said (Err refusal) bytes slice = record { status = number refusal; value = 0; slice = slice }

-- the code answers r and leaves `after` in the slice
pub record Reads (n : ℕ) (text slice : List ℕ) (r : Result Solution Refusal) (after : List ℕ) : Type 0 where
  pub answer : r ≡ solution n text (length slice)
  pub bytes : after ≡ (said r (assignment n text) slice).slice
