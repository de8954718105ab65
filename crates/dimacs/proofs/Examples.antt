-- Prints computed: document 01's example with the header of document 02's #101, an empty clause, no clause, two clauses, a refusal.
use Prim.Native.Nat.{ℕ}
use mathlib.Core.List.{[], ◌∷◌}
use mathlib.Core.Path.{◌≡◌, refl}
use Rattle.encoder_env.specs.declared.EncoderEnv.{EncoderEnv}
use Rattle.text.specs.Decimal.{decimal, digits}
use Rattle.dimacs.specs.Dimacs.{clause, clauses, dimacs, header, literal, print_of, refused}

-- a job that has so many variables, clauses and literals
abbrev job : ℕ → ℕ → ℕ → EncoderEnv
job variables clauses literals = record { switches = 0; variables = variables; clauses = clauses; literals = literals; count = 0; encodings = [] }

-- `p cnf 3 1` and `-1 -2 0`, of stores with spare entries: variable 3 stands in no clause and is counted
pub one_clause : print_of (job 3 1 2) (1 ∷ 3 ∷ 0 ∷ 0 ∷ []) (0 ∷ 2 ∷ 0 ∷ [])
    ≡ 112 ∷ 32 ∷ 99 ∷ 110 ∷ 102 ∷ 32 ∷ 51 ∷ 32 ∷ 49 ∷ 10 ∷ 45 ∷ 49 ∷ 32 ∷ 45 ∷ 50 ∷ 32 ∷ 48 ∷ 10 ∷ []
unfolding print_of dimacs header clauses clause literal decimal digits
one_clause = refl

-- `p cnf 0 1` and `0`: an empty clause
pub empty_clause : print_of (job 0 1 0) [] (0 ∷ 0 ∷ []) ≡ 112 ∷ 32 ∷ 99 ∷ 110 ∷ 102 ∷ 32 ∷ 48 ∷ 32 ∷ 49 ∷ 10 ∷ 48 ∷ 10 ∷ []
unfolding print_of dimacs header clauses clause literal decimal digits
empty_clause = refl

-- `p cnf 2 0`: no clause
pub no_clause : print_of (job 2 0 0) [] (0 ∷ []) ≡ 112 ∷ 32 ∷ 99 ∷ 110 ∷ 102 ∷ 32 ∷ 50 ∷ 32 ∷ 48 ∷ 10 ∷ []
unfolding print_of dimacs header clauses clause literal decimal digits
no_clause = refl

-- `p cnf 10 2`, `10 0` and `-1 0`
pub two_clauses : print_of (job 10 2 2) (18 ∷ 1 ∷ []) (0 ∷ 1 ∷ 2 ∷ [])
    ≡ 112 ∷ 32 ∷ 99 ∷ 110 ∷ 102 ∷ 32 ∷ 49 ∷ 48 ∷ 32 ∷ 50 ∷ 10 ∷ 49 ∷ 48 ∷ 32 ∷ 48 ∷ 10 ∷ 45 ∷ 49 ∷ 32 ∷ 48 ∷ 10 ∷ []
unfolding print_of dimacs header clauses clause literal decimal digits
two_clauses = refl

-- `refused 0 18`
pub empty_input : refused 0 18 ≡ 114 ∷ 101 ∷ 102 ∷ 117 ∷ 115 ∷ 101 ∷ 100 ∷ 32 ∷ 48 ∷ 32 ∷ 49 ∷ 56 ∷ 10 ∷ []
unfolding refused decimal digits
empty_input = refl
