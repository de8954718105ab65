-- A list of calls, each on the job and stores that the last one left, and the plain book that they feed (document 01: the plain book).
use Rattle.std.specs.Prelude.{ℕ, eqb, ℤ, cond, List, [], ◌∷◌}
use Rattle.norm_csp.specs.Domain.{binary, list, range}
use Rattle.norm_csp.specs.NormCsp.{NormCsp, add_constraint, add_var, linear, mul}
use Rattle.norm_csp.specs.Rules.{cmp_op_of, terms_of}
use Rattle.encoder_env.specs.declared.EncoderEnv.{EncoderEnv}
use Rattle.encoder_read.specs.Calls.{clause_outcome, read_outcome}
use Rattle.encoder_var.specs.Settings.{setting_outcome}
use Rattle.encoder_answer.specs.Outcome.{Outcome}
use Rattle.encoder_mul.specs.Products.{mul_outcome}
use Rattle.encoder_linear.specs.Sums.{linear_outcome}

-- a call's arguments other than the job and the stores
pub data Call : Type 0 where
  encode_range : ℤ → ℤ → Call
  encode_list : List ℤ → Call
  encode_binary : ℕ → ℤ → ℤ → Call
  encode_linear : ℕ → ℤ → List ℤ → Call
  encode_mul : ℕ → ℕ → ℕ → Call
  get_int_value : ℕ → List ℕ → Call
  clause : ℕ → Call

-- The run ------------------------------------------------------------------------------------------------------------

-- the job and the two stores
pub record State : Type 0 where
  pub env : EncoderEnv
  pub lits : List ℕ
  pub ends : List ℕ

-- what a call left
abbrev pub left : Outcome → State
left o = record { env = o.env; lits = o.lits; ends = o.ends }

-- the outcome that the call's contract has
abbrev pub outcome : State → Call → Outcome
outcome s (encode_range low high) = setting_outcome s.env s.lits s.ends (range low high)
outcome s (encode_list ks) = setting_outcome s.env s.lits s.ends (list ks)
outcome s (encode_binary c f t) = setting_outcome s.env s.lits s.ends (binary c f t)
outcome s (encode_linear op constant terms) = linear_outcome s.env s.lits s.ends op constant terms
outcome s (encode_mul x y m) = mul_outcome s.env s.lits s.ends x y m
outcome s (get_int_value x assignment) = read_outcome s.env s.lits s.ends x assignment
outcome s (clause k) = clause_outcome s.env s.lits s.ends k

-- call after call
abbrev pub run : State → List Call → State
run s [] = s
run s (c ∷ cs) = run (left (outcome s c)) cs

-- The book -----------------------------------------------------------------------------------------------------------

-- a call and the number answered
pub record Answered : Type 0 where
  pub call : Call
  pub status : ℕ

-- the calls of a run with the numbers answered: all that the book is fed
abbrev pub answered : State → List Call → List Answered
answered s [] = []
answered s (c ∷ cs) = record { call = c; status = (outcome s c).status } ∷ answered (left (outcome s c)) cs

-- an accepted setting call adds that setting, an accepted sum or product that rule; a reading and a clause call add nothing
abbrev pub enter : Call → NormCsp → NormCsp
enter (encode_range low high) b = add_var (range low high) b
enter (encode_list ks) b = add_var (list ks) b
enter (encode_binary c f t) b = add_var (binary c f t) b
enter (encode_linear op constant terms) b = add_constraint (linear (cmp_op_of op) constant (terms_of terms)) b
enter (encode_mul x y m) b = add_constraint (mul x y m) b
enter (get_int_value x assignment) b = b
enter (clause k) b = b

-- a refused call adds nothing
abbrev pub feed : NormCsp → Answered → NormCsp
feed b a = cond (eqb a.status 0) (enter a.call b) b

abbrev pub book : NormCsp → List Answered → NormCsp
book b [] = b
book b (a ∷ more) = book (feed b a) more
