-- A reading that has been tested (document 02, #104), after every list of calls that follows an accepted opening.
use Rattle.std.specs.Prelude.{◌<◌, ℕ, eqb, get_or, length, List, ◌↔◌, ◌≡◌}
use Rattle.norm_csp.specs.Domain.{IsValue}
use Rattle.norm_csp.specs.NormCsp.{NormCsp, begun, var_at}
use Rattle.encoder_read.specs.Calls.{open_outcome}
use Rattle.encoder.specs.Faithful.{Satisfies}
use Rattle.encoder.specs.Run.{Call, State, answered, book, get_int_value, left, outcome, run}

pub record Tested (s : State) (b : NormCsp) : Type 0 where
  -- a reading is accepted exactly of a setting in the book, under an assignment that satisfies the clauses written
  pub exact : (x : ℕ) (bytes : List ℕ) → ((outcome s (get_int_value x bytes)).status ≡ 0) ↔ ((x < length b.vars) × Satisfies s bytes)
  -- an accepted value is one that the setting permits, whatever bytes were handed in; switch i is yes where byte i is 1
  pub permitted : (x : ℕ) (bytes : List ℕ) → (outcome s (get_int_value x bytes)).status ≡ 0
      → IsValue (λ i. eqb (get_or bytes i 0) 1) (var_at b x) (outcome s (get_int_value x bytes)).value

-- whatever the stores held before, at every length of them
abbrev pub ReadingsTested : Type 0
ReadingsTested =
    (switches : ℕ) (lits ends : List ℕ) → (open_outcome switches lits ends).status ≡ 0
    → (calls : List Call)
    → (let start = left (open_outcome switches lits ends) in Tested (run start calls) (book (begun switches) (answered start calls)))
