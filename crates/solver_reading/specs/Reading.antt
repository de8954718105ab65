-- What the code keeps of an answer while it goes through its lines once. Whole and Given of proofs/ say that this is what the text says as a
-- whole (solver_answer, Answer).
use Rattle.std.specs.Prelude.{◌-◌, ℕ, eqb, ltb, get_or, is_some, replicate, set, Bool, ◌&&◌, ◌||◌, cond, false, not, true, List, [], ◌∷◌, Option, Some, None, Result, Ok, Err, unwrap_or}
use Rattle.std.specs.List.{list_all}
use Rattle.lines.specs.Reading.{split}
use Rattle.refusal.specs.declared.Refusal.{Refusal}
use Rattle.refusal.specs.declared.Refusal.TheVariants.{NoAssignment, NotGivenOnce, NotWhole}
use Rattle.solver_answer.specs.Lines.{Number, is_number, number}
use Rattle.solver_answer.specs.declared.Solution.{Solution}
use Rattle.solver_answer.specs.declared.Solution.TheVariants.{Assignment, Unsatisfiable as NoneFound}
use Rattle.solver_lines.specs.Lines.{Worded, other, pieces, remark, verdict, worded}
use Rattle.solver_reading.specs.declared.Phase.{Phase}
use Rattle.solver_reading.specs.declared.Phase.TheVariants.{Begun, Satisfiable, Unsatisfiable, Broken}
use Rattle.solver_reading.specs.declared.State.{State}

-- the state, and for each variable whether it is true, once it is given
pub record Run : Type 0 where
  pub state : State
  pub given : List (Option Bool)

abbrev pub run : State → List (Option Bool) → Run
run state given = record { state = state; given = given }

-- before the `s` line, behind a satisfiable one, behind an unsatisfiable one
abbrev pub is_begun : Phase → Bool
is_begun Begun = true
is_begun Satisfiable = false
is_begun Unsatisfiable = false
is_begun Broken = false

abbrev pub is_found : Phase → Bool
is_found Begun = false
is_found Satisfiable = true
is_found Unsatisfiable = false
is_found Broken = false

abbrev pub is_none : Phase → Bool
is_none Begun = false
is_none Satisfiable = false
is_none Unsatisfiable = true
is_none Broken = false

abbrev pub with_phase : State → Phase → State
with_phase s p = record { phase = p; seen = s.seen; late = s.late; wrong = s.wrong }

abbrev pub in_phase : Run → Phase → Run
in_phase r p = run (with_phase r.state p) r.given

-- a number that is no 0 and no open variable
unfoldable pub is_wrong : ℕ → List (Option Bool) → ℕ → Bool
is_wrong n given size = not (eqb size 0) && (ltb n size || is_some (get_or given (size - 1) None))

unfoldable pub take_number : ℕ → Run → Number → Run
take_number n r m =
    run (record {
      phase = r.state.phase;
      seen = r.state.seen || eqb m.size 0;
      late = r.state.late || r.state.seen;
      wrong = r.state.wrong || is_wrong n r.given m.size;
    })
    (cond (eqb m.size 0 || is_wrong n r.given m.size) r.given (set r.given (m.size - 1) (Some (not m.negative))))

-- the pieces behind a `v`; one that is no number breaks the line
unfoldable pub after_pieces : ℕ → Run → List (List ℕ) → Run
after_pieces n r [] = r
after_pieces n r (t ∷ ts) = cond (is_number t) (after_pieces n (take_number n r (number t)) ts) (in_phase r Broken)

-- an `s` line, a `v` line, any line
abbrev pub on_verdict : State → Phase → State
on_verdict s p = with_phase s (cond (is_begun s.phase) p Broken)

unfoldable pub on_values : ℕ → Run → List (List ℕ) → Run
on_values n r [] = in_phase r Broken
on_values n r (t ∷ ts) = cond (is_found r.state.phase) (after_pieces n r (t ∷ ts)) (in_phase r Broken)

unfoldable pub after_word : ℕ → Run → Worded → Run
after_word n r remark = r
after_word n r (verdict b) = run (on_verdict r.state (cond b Satisfiable Unsatisfiable)) r.given
after_word n r (pieces ts) = on_values n r ts
after_word n r other = in_phase r Broken

abbrev pub after_line : ℕ → Run → List ℕ → Run
after_line n r l = after_word n r (worded l)

-- all lines; bytes behind the last line feed break the answer
unfoldable pub after_lines : ℕ → Run → List (List ℕ) → Run
after_lines n r [] = r
after_lines n r ([] ∷ []) = r
after_lines n r ((b ∷ bs) ∷ []) = in_phase r Broken
after_lines n r (l ∷ m ∷ ls) = after_lines n (after_line n r l) (m ∷ ls)

-- nothing read, nothing given
abbrev pub begun : State
begun = record { phase = Begun; seen = false; late = false; wrong = false }

-- the whole text
unfoldable pub run_of : ℕ → List ℕ → Run
run_of n text = after_lines n (run begun (replicate n None)) (split 10 text)

-- What is said at the end ------------------------------------------------------------------------------------------------

-- a satisfiable answer whose list is ended by 0, or an unsatisfiable one
abbrev pub run_whole : State → Bool
run_whole s = (is_found s.phase && (s.seen && not s.late)) || is_none s.phase

-- each variable is given once
abbrev pub run_given : Run → Bool
run_given r = not r.state.wrong && list_all is_some r.given

-- so it is in a satisfiable answer
abbrev pub all_given : Run → Bool
all_given r = not (is_found r.state.phase) || run_given r

abbrev pub run_solution : ℕ → Run → ℕ → Result Solution Refusal
run_solution n r room =
    cond (run_whole r.state)
    (cond (all_given r)
    (cond (eqb room n) (Ok (cond (is_found r.state.phase) Assignment NoneFound)) (Err NoAssignment))
    (Err NotGivenOnce))
    (Err NotWhole)

-- the byte of a variable
abbrev pub byte : Option Bool → ℕ
byte g = cond (unwrap_or g false) 1 0
