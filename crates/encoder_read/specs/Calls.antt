-- The outcome of opening a job, reading a setting and handing back a clause, on every input (document 01: operation by operation; of a
-- reading also document 02, #104).
use Rattle.std.specs.Prelude.{◌+◌, ℕ, eqb, leb, ltb, pos, get_or, length, replicate, set, Bool, ◌&&◌, cond, List, [], ◌∷◌, ◌≡◌}
use Rattle.sat.specs.LitArray.{lit}
use Rattle.log_var.specs.Record.{read_bytes}
use Rattle.log_var.specs.declared.LogEncoding.{LogEncoding}
use Rattle.clause_set.specs.Bytes.{all_hold}
use Rattle.clause_set.specs.Stores.{clause_at}
use Rattle.encoder_env.specs.declared.EncoderEnv.{EncoderEnv}
use Rattle.encoder_env.specs.WellFormed.{all_below, encoding_at, stores_within, well_formed}
use Rattle.encoder_clauses.specs.Readable.{clauses_written, readable}
use Rattle.encoder_answer.specs.Outcome.{Check, Outcome, check, settled, status_of}

-- Open ---------------------------------------------------------------------------------------------------------------

-- a spare record: all 0
abbrev pub spare : LogEncoding
spare = record { lits = replicate 12 (lit 0); len = 0; low = pos 0; high = pos 0; offset = pos 0 }

-- the job with that many switches and nothing else
abbrev pub opened : ℕ → EncoderEnv
opened switches = record { switches = switches; variables = switches; clauses = 0; literals = 0; count = 0; encodings = replicate 32 spare }

-- 2 over 64 switches; 1 a store over its bound; 15 no entry for the leading 0
abbrev pub open_checks : ℕ → ℕ → ℕ → List Check
open_checks switches lits ends =
    check (leb switches 64) 2 ∷ check (stores_within lits ends) 1 ∷ check (leb 1 ends) 15 ∷ []

-- refused, the job is all 0; accepted, only the leading 0 is written
abbrev pub open_outcome : ℕ → List ℕ → List ℕ → Outcome
open_outcome switches lits ends =
    settled (status_of (open_checks switches (length lits) (length ends))) (opened 0) lits ends
    (record { status = 0; env = opened switches; value = pos 0; part = []; lits = lits; ends = set ends 0 0 })

-- Clause -------------------------------------------------------------------------------------------------------------

-- 17 number not below the clause count; 1 its ends fall or pass the literal count
abbrev pub clause_checks : EncoderEnv → ℕ → List ℕ → ℕ → List Check
clause_checks env lits ends k =
    check (well_formed env lits (length ends)) 1
    ∷ check (ltb k env.clauses) 17
    ∷ check (leb (get_or ends k 0) (get_or ends (k + 1) 0) && leb (get_or ends (k + 1) 0) env.literals) 1
    ∷ []

-- a clause handed back: nothing is changed
abbrev pub clause_read : EncoderEnv → List ℕ → List ℕ → ℕ → Outcome
clause_read env lits ends k = record { status = 0; env = env; value = pos 0; part = clause_at lits ends k; lits = lits; ends = ends }

abbrev pub clause_outcome : EncoderEnv → List ℕ → List ℕ → ℕ → Outcome
clause_outcome env lits ends k = settled (status_of (clause_checks env (length lits) ends k)) env lits ends (clause_read env lits ends k)

-- Read ---------------------------------------------------------------------------------------------------------------

-- no byte other than 0 and 1
abbrev pub all_bits : List ℕ → Bool
all_bits bytes = all_below (length bytes) (λ i. leb (get_or bytes i 0) 1)

-- an assignment of that many variables: as many bytes, and no other than 0 and 1
abbrev pub is_assignment : ℕ → List ℕ → Bool
is_assignment variables bytes = eqb (length bytes) variables && all_bits bytes

-- 16 no assignment of the job's variables; 21 one that leaves a clause unsatisfied (#104)
abbrev pub bytes_checks : EncoderEnv → List ℕ → List ℕ → List ℕ → List Check
bytes_checks env lits ends assignment =
    check (is_assignment env.variables assignment) 16 ∷ check (all_hold assignment (clauses_written env lits ends)) 21 ∷ []

-- 1 the job is not well formed, or its clauses cannot be read; 8 a setting unknown; then the assignment
abbrev pub read_checks : EncoderEnv → List ℕ → List ℕ → ℕ → List ℕ → List Check
read_checks env lits ends x assignment = check (readable env lits ends) 1 ∷ check (ltb x env.count) 8 ∷ bytes_checks env lits ends assignment

-- an accepted reading changes nothing
abbrev pub value_read : EncoderEnv → List ℕ → List ℕ → ℕ → List ℕ → Outcome
value_read env lits ends x assignment =
    record { status = 0; env = env; value = read_bytes assignment (encoding_at env x); part = []; lits = lits; ends = ends }

abbrev pub read_outcome : EncoderEnv → List ℕ → List ℕ → ℕ → List ℕ → Outcome
read_outcome env lits ends x assignment =
    settled (status_of (read_checks env lits ends x assignment)) env lits ends (value_read env lits ends x assignment)

-- Test ---------------------------------------------------------------------------------------------------------------

-- the test of an assignment alone, for many readings under it: the checks of a reading but for the setting's
abbrev pub test_status : EncoderEnv → List ℕ → List ℕ → List ℕ → ℕ
test_status env lits ends assignment = status_of (check (readable env lits ends) 1 ∷ bytes_checks env lits ends assignment)

-- the number of a reading, by that of the test and whether the setting is known: 1 of the test, then 8, then 16 or 21 of the test
abbrev pub by_test : ℕ → Bool → ℕ
by_test tested known = cond (eqb tested 1) 1 (cond known tested 8)

-- the test, and a reading after it, answer together what the reading answers, on every input
abbrev pub TestThenRead : Type 0
TestThenRead =
    (env : EncoderEnv) (lits ends : List ℕ) (x : ℕ) (assignment : List ℕ)
    → read_outcome env lits ends x assignment
    ≡ settled (by_test (test_status env lits ends assignment) (ltb x env.count)) env lits ends (value_read env lits ends x assignment)
