-- What each place of the code says of the definitions: along a clause, and clause by clause.
use Prim.Native.Nat.{◌*◌, ◌+◌, ◌-◌, ◌<◌, ◌≤◌, suc, ℕ}
use borrow.Author.Tests.{le-leb, lt-leb}
use lib.ListN.{get_or}
use mathlib.Core.Bool.{Bool, ◌&&◌, false, true}
use mathlib.Core.List.{List, [], ◌∷◌}
use lib.Dec.{ltb}
use Rattle.std.specs.List.{list_all}
use mathlib.Core.Path.{◌∙◌, ◌≡◌, ap, refl, sym}
use native.Mathlib.Numerals.{add-one}
use native.Mathlib.Omega.{arith}
use Rattle.clause_set.specs.Bytes.{all_hold, clause_holds}
use Rattle.clause_set.specs.Stores.{clause_at, clauses_from}
use Rattle.encoder_env.specs.declared.EncoderEnv.{EncoderEnv}
use Rattle.encoder_env.specs.WellFormed.{all_below}
use Rattle.encoder_env.proofs.Tests.{all_fail, all_more}
use Rattle.encoder_clauses.specs.Readable.{clauses_readable, known, lits_below, rises, within}

-- The literals of a clause -------------------------------------------------------------------------------------------

pub below_listed : (limit : ℕ) (c : List ℕ) → list_all (λ l. ltb l limit) c ≡ lits_below limit c
below_listed limit [] = refl
below_listed limit (l ∷ c) = ap (λ (b : Bool). ltb l limit && b) (below_listed limit c)

-- The test of all clauses --------------------------------------------------------------------------------------------

second_fails : (a b c : Bool) → b ≡ false → (a && b && c) ≡ false
second_fails true b c e = rw e
second_fails false b c e = refl

third_fails : (a b c : Bool) → c ≡ false → (a && b && c) ≡ false
third_fails true true c e = e
third_fails true false c e = refl
third_fails false b c e = refl

-- before clause k: the clauses below it were passed, and the end before it
pub record Passed (clauses literals limit : ℕ) (lits ends : List ℕ) (k : ℕ) : Type 0 where
  pub here : k ≤ clauses
  pub risen : all_below k (rises ends) ≡ true
  pub inside : all_below (k + 1) (within literals ends) ≡ true
  pub below : all_below k (known limit lits ends) ≡ true

module _ (env : EncoderEnv) (lits ends : List ℕ) where
  abbrev Before : ℕ → Type 0
  Before k = Passed env.clauses env.literals (2 * env.variables) lits ends k

  pub passes_end : (k : ℕ) → k ≤ env.clauses → env.literals < get_or ends k 0 → false ≡ clauses_readable env lits ends
  unfolding clauses_readable
  passes_end k h p =
      sym (second_fails (all_below env.clauses (rises ends)) _ _ (all_fail (within env.literals ends) (env.clauses + 1) k (omega arith) (lt-leb (get_or ends k 0) env.literals p)))

  pub passed_none : get_or ends 0 0 ≤ env.literals → Before 0
  unfolding all_below
  passed_none p = record { here = omega arith; risen = refl; inside = le-leb (get_or ends 0 0) env.literals p; below = refl }

  pub passed_all : (k : ℕ) → env.clauses ≤ k → Before k → true ≡ clauses_readable env lits ends
  unfolding clauses_readable
  passed_all k h p = let e : env.clauses ≡ k = omega (arith, p.here) in rw (e, p.risen, p.inside, p.below)

  module _ (k : ℕ) (h : k < env.clauses) where
    pub end_falls : get_or ends (k + 1) 0 < get_or ends k 0 → false ≡ clauses_readable env lits ends
    unfolding clauses_readable
    end_falls f = sym (rw (all_fail (rises ends) env.clauses k h (lt-leb (get_or ends k 0) (get_or ends (k + 1) 0) f)))

    pub literal_unknown : known (2 * env.variables) lits ends k ≡ false → false ≡ clauses_readable env lits ends
    unfolding clauses_readable
    literal_unknown u =
        sym (third_fails (all_below env.clauses (rises ends)) (all_below (env.clauses + 1) (within env.literals ends)) _ (all_fail (known (2 * env.variables) lits ends) env.clauses k h u))

    pub passed_next : Before k → get_or ends k 0 ≤ get_or ends (k + 1) 0 → get_or ends (k + 1) 0 ≤ env.literals
        → known (2 * env.variables) lits ends k ≡ true → Before (k + 1)
    passed_next p r i u =
        record {
          here = omega arith;
          risen = all_more (rises ends) k p.risen (le-leb (get_or ends k 0) (get_or ends (k + 1) 0) r);
          inside = all_more (within env.literals ends) (k + 1) p.inside (le-leb (get_or ends (k + 1) 0) env.literals i);
          below = all_more (known (2 * env.variables) lits ends) k p.below u;
        }

-- Clauses under an assignment ----------------------------------------------------------------------------------------

module _ (bytes lits ends : List ℕ) (k n : ℕ) where
  clause_next : k < n → all_hold bytes (clauses_from lits ends k (n - k))
      ≡ (clause_holds bytes (clause_at lits ends k) && all_hold bytes (clauses_from lits ends (k + 1) (n - (k + 1))))
  clause_next h = let e : n - k ≡ suc (n - suc k) = omega arith in rw (e, add-one)

  pub clause_fails : k < n → clause_holds bytes (clause_at lits ends k) ≡ false → all_hold bytes (clauses_from lits ends k (n - k)) ≡ false
  clause_fails h f = clause_next h ∙ rw f

  pub clause_passes : k < n → clause_holds bytes (clause_at lits ends k) ≡ true
      → all_hold bytes (clauses_from lits ends k (n - k)) ≡ all_hold bytes (clauses_from lits ends (k + 1) (n - (k + 1)))
  clause_passes h t = clause_next h ∙ rw t

  pub none_left : n ≤ k → all_hold bytes (clauses_from lits ends k (n - k)) ≡ true
  none_left h = let e : n - k ≡ 0 = omega arith in rw e
