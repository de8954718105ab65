-- The bench values that document 01 marks P: one table of rows, and what a row states. `bench_holds` of proofs/Bench proves them all.
use Rattle.std.specs.Prelude.{◌*◌, ◌+◌, ◌-◌, suc, ℕ, eqb, negsuc, pos, ℤ, replicate, Bool, ◌&&◌, false, not, true, List, [], ◌∷◌, ◌≡◌}
use Rattle.arithmetic.specs.Bits.{testbit}
use Rattle.arithmetic.specs.Integers.{down, up}
use Rattle.sat.specs.Clause.{Clauses, sat}
use Rattle.sat.specs.Lit.{neg}
use Rattle.norm_csp.specs.Domain.{IntVarRepresentation, binary, list, range}
use Rattle.clause_set.specs.Stores.{clauses_of, stores}
use Rattle.log_var.specs.Record.{lits_of}
use Rattle.encoder_env.specs.WellFormed.{encoding_at}
use Rattle.encoder_read.specs.Calls.{open_outcome}
use Rattle.encoder_var.specs.Settings.{setting_outcome}
use Rattle.encoder_answer.specs.Outcome.{Outcome}
use Rattle.encoder_linear.specs.Sums.{linear_outcome}

-- what stands for a bit: the switch literal c, its negation, or a new variable
pub data BitLit : Type 0 where
  c not-c new : BitLit

-- A setting on a job with one switch, whose plain literal is c: the figures of its record and clauses, and codes that are barred.
pub record SettingRow : Type 0 where
  pub repr : IntVarRepresentation
  pub bits : List BitLit
  pub offset : ℤ
  pub new_vars : ℕ
  pub clauses : ℕ
  pub literals : ℕ
  pub barred : List ℕ

-- A sum over settings made before it, on a job without switches.
pub record SumRow : Type 0 where
  pub settings : List IntVarRepresentation
  pub op : ℕ
  pub constant : ℤ
  pub terms : List ℤ
  pub new_vars : ℕ
  pub clauses : ℕ
  pub literals : ℕ

pub data Row : Type 0 where
  setting : SettingRow → Row
  sum : SumRow → Row

-- The table ----------------------------------------------------------------------------------------------------------

abbrev pub bench : List Row
bench =
    -- 0..0: no bits, no clauses
    setting (record { repr = range (pos 0) (pos 0); bits = []; offset = pos 0; new_vars = 0; clauses = 0; literals = 0; barred = [] })
    -- 0..14: one clause, 15 barred
    ∷ setting (record { repr = range (pos 0) (pos 14); bits = new ∷ new ∷ new ∷ new ∷ []; offset = pos 0; new_vars = 4; clauses = 1; literals = 4; barred = 15 ∷ [] })
    -- 0..99: 7 bits, three clauses, 12 literals, 100 barred
    ∷ setting (record { repr = range (pos 0) (pos 99); bits = new ∷ new ∷ new ∷ new ∷ new ∷ new ∷ new ∷ []; offset = pos 0; new_vars = 7; clauses = 3; literals = 12; barred = 100 ∷ [] })
    -- 5..7: two clauses, 4 literals
    ∷ setting (record { repr = range (pos 5) (pos 7); bits = new ∷ new ∷ new ∷ []; offset = pos 0; new_vars = 3; clauses = 2; literals = 4; barred = 4 ∷ [] })
    -- −3..−1: offset −3, one clause
    ∷ setting (record { repr = range (negsuc 2) (negsuc 0); bits = new ∷ new ∷ []; offset = negsuc 2; new_vars = 2; clauses = 1; literals = 2; barred = 3 ∷ [] })
    -- list 1, 4: five clauses, 14 literals
    ∷ setting (record { repr = list (pos 1 ∷ pos 4 ∷ []); bits = new ∷ new ∷ new ∷ []; offset = pos 0; new_vars = 3; clauses = 5; literals = 14; barred = 0 ∷ 2 ∷ 3 ∷ 5 ∷ 6 ∷ 7 ∷ [] })
    -- values 0/5: bits c, new, c; one clause
    ∷ setting (record { repr = binary 0 (pos 0) (pos 5); bits = c ∷ new ∷ c ∷ []; offset = pos 0; new_vars = 1; clauses = 1; literals = 1; barred = [] })
    -- values 2/5: c, not c, c; no clause
    ∷ setting (record { repr = binary 0 (pos 2) (pos 5); bits = c ∷ not-c ∷ c ∷ []; offset = pos 0; new_vars = 0; clauses = 0; literals = 0; barred = [] })
    -- no terms, Eq: constant 0 no clause, 3 one empty clause
    ∷ sum (record { settings = []; op = 0; constant = pos 0; terms = []; new_vars = 0; clauses = 0; literals = 0 })
    ∷ sum (record { settings = []; op = 0; constant = pos 3; terms = []; new_vars = 0; clauses = 1; literals = 0 })
    -- setting 0..2, 2a + 1 Eq: one empty clause, no new variable
    ∷ sum (record { settings = range (pos 0) (pos 2) ∷ []; op = 0; constant = pos 1; terms = pos 0 ∷ pos 2 ∷ []; new_vars = 0; clauses = 1; literals = 0 })
    ∷ []

-- What a row states --------------------------------------------------------------------------------------------------

-- the literals of a record's bits: c is literal 0, new variables count from v
abbrev pub bit_lits : ℕ → List BitLit → List ℕ
bit_lits v [] = []
bit_lits v (c ∷ bs) = 0 ∷ bit_lits v bs
bit_lits v (not-c ∷ bs) = neg 0 ∷ bit_lits v bs
bit_lits v (new ∷ bs) = 2 * v ∷ bit_lits (suc v) bs

-- no assignment that spells a barred code over the variables from 1 on satisfies the clauses
abbrev pub Barred : Clauses → List ℕ → Type 0
Barred cs [] = Unit
Barred cs (k ∷ ks) = (sat (λ x. testbit k (x - 1)) cs ≡ false) × Barred cs ks

-- the outcome of the row's call on a job opened with one switch, and the clauses that the stores then hold
abbrev pub outcome_of : SettingRow → Outcome
outcome_of r = let o = open_outcome 1 (replicate 16 0) (replicate 8 0) in setting_outcome o.env o.lits o.ends r.repr

abbrev pub stored : Outcome → Clauses
stored o = clauses_of (stores o.lits o.ends o.env.literals o.env.clauses)

pub record SettingHolds (r : SettingRow) : Type 0 where
  pub accepted : (outcome_of r).status ≡ 0
  pub lits_are : lits_of (encoding_at (outcome_of r).env 0) ≡ bit_lits 1 r.bits
  pub offset_is : (encoding_at (outcome_of r).env 0).offset ≡ r.offset
  pub vars_are : (outcome_of r).env.variables ≡ 1 + r.new_vars
  pub clauses_are : (outcome_of r).env.clauses ≡ r.clauses
  pub literals_are : (outcome_of r).env.literals ≡ r.literals
  pub barred_are : Barred (stored (outcome_of r)) r.barred

-- settings one after the other
abbrev pub with_settings : List IntVarRepresentation → Outcome → Outcome
with_settings [] o = o
with_settings (r ∷ rs) o = with_settings rs (setting_outcome o.env o.lits o.ends r)

-- the job and the stores before the row's call, and its outcome
abbrev pub before_sum : SumRow → Outcome
before_sum r = with_settings r.settings (open_outcome 0 (replicate 16 0) (replicate 8 0))

abbrev pub sum_of : SumRow → Outcome
sum_of r = let o = before_sum r in linear_outcome o.env o.lits o.ends r.op r.constant r.terms

pub record SumHolds (r : SumRow) : Type 0 where
  pub accepted : (sum_of r).status ≡ 0
  pub vars_are : (sum_of r).env.variables ≡ (before_sum r).env.variables + r.new_vars
  pub clauses_are : (sum_of r).env.clauses ≡ (before_sum r).env.clauses + r.clauses
  pub literals_are : (sum_of r).env.literals ≡ (before_sum r).env.literals + r.literals

abbrev pub RowHolds : Row → Type 0
RowHolds (setting r) = SettingHolds r
RowHolds (sum r) = SumHolds r

-- The test that is computed over the table ---------------------------------------------------------------------------

abbrev pub same_lits : List ℕ → List ℕ → Bool
same_lits [] [] = true
same_lits [] (y ∷ ys) = false
same_lits (x ∷ xs) [] = false
same_lits (x ∷ xs) (y ∷ ys) = eqb x y && same_lits xs ys

abbrev pub all_barred : Clauses → List ℕ → Bool
all_barred cs [] = true
all_barred cs (k ∷ ks) = not (sat (λ x. testbit k (x - 1)) cs) && all_barred cs ks

abbrev pub setting_test : SettingRow → Bool
setting_test r =
    let o = outcome_of r in
    let e = encoding_at o.env 0 in
    eqb o.status 0
    && (same_lits (lits_of e) (bit_lits 1 r.bits)
    && (eqb (up e.offset) (up r.offset)
    && (eqb (down e.offset) (down r.offset)
    && (eqb o.env.variables (1 + r.new_vars)
    && (eqb o.env.clauses r.clauses
    && (eqb o.env.literals r.literals && all_barred (stored o) r.barred))))))

abbrev pub sum_test : SumRow → Bool
sum_test r =
    let o = before_sum r in
    let p = sum_of r in
    eqb p.status 0
    && (eqb p.env.variables (o.env.variables + r.new_vars)
    && (eqb p.env.clauses (o.env.clauses + r.clauses) && eqb p.env.literals (o.env.literals + r.literals)))

abbrev pub row_test : Row → Bool
row_test (setting r) = setting_test r
row_test (sum r) = sum_test r

abbrev pub table_test : List Row → Bool
table_test [] = true
table_test (r ∷ rs) = row_test r && table_test rs
