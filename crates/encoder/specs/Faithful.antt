-- Demand 3 (document 01: the plain book, held to what): after every list of calls that follows an accepted opening, the assignments that
-- satisfy the clauses written are those of the choices that meet the book, one for each.
use Rattle.std.specs.Prelude.{◌<◌, ℕ, eqb, get_or, length, true, List, ◌≡◌}
use Rattle.sat.specs.Clause.{Clauses}
use Rattle.clause_set.specs.Bytes.{IsAssignment, all_hold}
use Rattle.clause_set.specs.Stores.{Stores, stores}
use Rattle.norm_csp.specs.NormCsp.{Meets, NormCsp, Valuation, begun, number_of, switch_of}
use Rattle.encoder_clauses.specs.Readable.{clauses_written}
use Rattle.encoder_read.specs.Calls.{open_outcome}
use Rattle.encoder.specs.Run.{Call, State, answered, book, get_int_value, left, outcome, run}

-- the stores with the job's counts
abbrev pub stores_of : State → Stores
stores_of s = stores s.lits s.ends s.env.literals s.env.clauses

-- the clauses written: all those below the job's clause count, as the stores hold them
abbrev pub written : State → Clauses
written s = clauses_written s.env s.lits s.ends

-- an assignment of the job's variables that satisfies them: each has a literal that holds
pub record Satisfies (s : State) (bytes : List ℕ) : Type 0 where
  pub assigns : IsAssignment s.env.variables bytes
  pub clauses : all_hold bytes (written s) ≡ true

-- An assignment reads back as a choice: variable i is 1 exactly when switch i is yes, and a reading of each setting in the book, on that
-- job and those stores, is accepted with the choice's number.
pub record ReadsBack (s : State) (b : NormCsp) (bytes : List ℕ) (ch : Valuation) : Type 0 where
  pub switches : (i : ℕ) → i < b.switches → eqb (get_or bytes i 0) 1 ≡ switch_of ch i
  pub accepted : (x : ℕ) → x < length b.vars → (outcome s (get_int_value x bytes)).status ≡ 0
  pub numbers : (x : ℕ) → x < length b.vars → (outcome s (get_int_value x bytes)).value ≡ number_of ch x

abbrev pub ExactlyOne : (List ℕ → Type 0) → Type 0
ExactlyOne P = (bytes : List ℕ) × P bytes × ((other : List ℕ) → P other → other ≡ bytes)

pub record Faithful (s : State) (b : NormCsp) : Type 0 where
  -- for every choice that meets the book, exactly one assignment satisfies the clauses written and reads back as that choice
  pub each : (ch : Valuation) → Meets b ch → ExactlyOne (λ bytes. Satisfies s bytes × ReadsBack s b bytes ch)
  -- every assignment that satisfies them reads back as a choice that meets the book
  pub every : (bytes : List ℕ) → Satisfies s bytes → (ch : Valuation) × Meets b ch × ReadsBack s b bytes ch

-- whatever the stores held before, at every length of them
abbrev pub Demand3 : Type 0
Demand3 =
    (switches : ℕ) (lits ends : List ℕ) → (open_outcome switches lits ends).status ≡ 0
    → (calls : List Call)
    → (let start = left (open_outcome switches lits ends) in Faithful (run start calls) (book (begun switches) (answered start calls)))
