-- How many variables, clauses and literal entries the encoder's blocks make.
use Rattle.std.specs.Prelude.{◌+◌, ℕ, length, [], ◌∷◌, ◌≡◌}
use Rattle.sat.specs.Clause.{Clauses}

-- literal entries of a list of clauses
abbrev pub entries : Clauses → ℕ
entries [] = 0
entries (c ∷ cs) = length c + entries cs

-- both counts in one: `weigh d` is what one clause of d literals counts, 1 or d
abbrev pub weight_of : (ℕ → ℕ) → Clauses → ℕ
weight_of weigh [] = 0
weight_of weigh (c ∷ cs) = weigh (length c) + weight_of weigh cs

-- what a call adds to the job's counts of variables, clauses and literals
pub record Size : Type 0 where
  pub vars : ℕ
  pub clauses : ℕ
  pub literals : ℕ

-- from the new variables, and a function that gives both counts
abbrev pub size_by : ℕ → ((ℕ → ℕ) → ℕ) → Size
size_by vars count = record { vars = vars; clauses = count (λ d. 1); literals = count (λ d. d) }

-- the clauses, with v variables before them and `vars` after, have this size
pub record HasSize (v vars : ℕ) (clauses : Clauses) (size : Size) : Type 0 where
  pub vars_are : vars ≡ v + size.vars
  pub clauses_are : length clauses ≡ size.clauses
  pub literals_are : entries clauses ≡ size.literals
