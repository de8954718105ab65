-- How many bytes a print takes (`print_size`), and that 65,551 hold every print over the program's stores (`print_fits`).
use Prim.Native.Nat.{◌*◌, ◌+◌, ◌<◌, ◌^◌, ◌≤◌, suc, zero, ℕ}
use lib.ListN.{length, length-append}
use mathlib.Core.Bool.{Bool, cond, false, true}
use mathlib.Core.List.{List, [], ◌∷◌}
use mathlib.Core.Path.{◌≡◌, ap, refl}
use native.Mathlib.Omega.{arith}
use Rattle.sat.specs.Clause.{Clauses}
use Rattle.sat.specs.Encodes.{ClausesBelow, LitsBelow}
use Rattle.sat.specs.Lit.{is_negated}
use Rattle.sat.specs.Size.{entries}
use Rattle.clause_set.specs.Stores.{clauses_from, clauses_of, stores}
use Rattle.encoder_env.specs.declared.EncoderEnv.{EncoderEnv}
use Rattle.text.specs.Decimal.{decimal}
use Rattle.text.proofs.Numerals.{decimal_length}
use Rattle.dimacs.specs.Dimacs.{clause, clauses, dimacs, header, line, literal, number, print_of, refused}

-- a line whose numbers have at most i + 1 and j + 1 digits
line_size : (word : List ℕ) (i j a b : ℕ) → a < 10 ^ suc i → b < 10 ^ suc j → length (line word a b) ≤ length word + i + j + 4
line_size word i j a b h g = simp length-append (omega (arith, decimal_length i a h, decimal_length j b g))

-- `refused F N` of any u32
pub refused_size : (f n : ℕ) → f < 2 ^ 32 → n < 2 ^ 32 → length (refused f n) ≤ 30
unfolding refused
refused_size f n h g = line_size (114 ∷ 101 ∷ 102 ∷ 117 ∷ 115 ∷ 101 ∷ 100 ∷ 32 ∷ []) 9 9 f n (omega arith) (omega arith)

-- Clauses of at most 65,535 variables --------------------------------------------------------------------------------

module _ (v : ℕ) (small : v ≤ 65535) where
  literal_size : (l : ℕ) → l < 2 * v → length (literal l) ≤ 6
  unfolding literal
  literal_size l h = by (is_negated l) (decimal_length 4 (number l) (omega arith))
    where
      by : (b : Bool) → length (decimal (number l)) ≤ 5 → length (cond b (45 ∷ decimal (number l)) (decimal (number l))) ≤ 6
      by true g = omega arith
      by false g = omega arith

  clause_size : (ls : List ℕ) → LitsBelow v ls → length (clause ls) ≤ 7 * length ls + 2
  unfolding clause
  clause_size [] b = omega arith
  clause_size (l ∷ ls) b = rw length-append (omega (arith, literal_size l b.0, clause_size ls b.1))

  clauses_size : (cs : Clauses) → ClausesBelow v cs → length (clauses cs) ≤ 7 * entries cs + 2 * length cs
  unfolding clauses
  clauses_size [] b = omega arith
  clauses_size (c ∷ cs) b = rw length-append (omega (arith, clause_size c b.0, clauses_size cs b.1))

clauses_count : (lits ends : List ℕ) (k n : ℕ) → length (clauses_from lits ends k n) ≡ n
clauses_count lits ends k zero = refl
clauses_count lits ends k (suc n) = ap suc (clauses_count lits ends (suc k) n)

-- The print ----------------------------------------------------------------------------------------------------------

module _ (env : EncoderEnv) (lits ends : List ℕ) where
  abbrev written : Clauses
  written = clauses_of (stores lits ends env.literals env.clauses)

  -- the literals are those of the job's variables, which are at most 65,535
  module _ (small : env.variables ≤ 65535) (below : ClausesBelow env.variables written) where
    -- 7 bytes a literal entry, 2 a clause, 17 the header of at most 65,535 variables and fewer than 10,000 clauses
    pub print_size : env.clauses < 10000 → length (print_of env lits ends) ≤ 7 * entries written + 2 * env.clauses + 17
    unfolding print_of dimacs header
    print_size few =
        let h = line_size (112 ∷ 32 ∷ 99 ∷ 110 ∷ 102 ∷ 32 ∷ []) 4 3 env.variables env.clauses (omega arith) few in
        rw length-append (omega (arith, h, clauses_size env.variables small written below, clauses_count lits ends 0 env.clauses))

    -- of 8,192 literals and 4,095 clauses, whose ends and the leading 0 are 4,096 entries
    module _ (lits_fit : entries written ≤ 8192) (ends_fit : env.clauses ≤ 4095) where
      pub print_fits : length (print_of env lits ends) ≤ 65551
      print_fits = omega (arith, print_size (omega arith))
