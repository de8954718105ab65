-- The test says what the inequalities say (`readable_is`), and what a call that passed it knows.
use Prim.Native.Nat.{◌*◌, ◌+◌, ◌<◌, ◌≤◌, suc, zero, ℕ}
use lib.Dec.{ltb}
use lib.ListN.{get_or, length}
use mathlib.Core.Bool.{◌&&◌, true}
use mathlib.Core.List.{List, [], ◌∷◌}
use mathlib.Core.Logic.{◌↔◌}
use mathlib.Core.Path.{◌≡◌, refl}
use native.Mathlib.Omega.{arith}
use Rattle.sat.specs.Encodes.{ClausesBelow, LitsBelow}
use Rattle.clause_set.specs.Stores.{clause_at, clauses_from}
use Rattle.encoder_env.specs.declared.EncoderEnv.{EncoderEnv}
use Rattle.encoder_env.specs.Bounds.{WellFormed}
use Rattle.encoder_env.specs.WellFormed.{all_below, well_formed}
use Rattle.encoder_env.proofs.Bounds.{all_is, and_is, leb_is, ltb_is, well_formed_is}
use Rattle.encoder_env.proofs.Tests.{both}
use Rattle.encoder_clauses.specs.Readable.{Readable, clauses_readable, known, lits_below, readable, rises, within}

-- Literals below 2 × variables ---------------------------------------------------------------------------------------

lits_below_is : (v : ℕ) (c : List ℕ) → (lits_below (2 * v) c ≡ true) ↔ LitsBelow v c
lits_below_is v [] = (λ h. tt, λ h. refl)
lits_below_is v (l ∷ c) = and_is (ltb l (2 * v)) (lits_below (2 * v) c) (ltb_is l (2 * v)) (lits_below_is v c)

module _ (lits ends : List ℕ) (v : ℕ) where
  below_from : (k n : ℕ) → ((i : ℕ) → i < k + n → LitsBelow v (clause_at lits ends i)) → ClausesBelow v (clauses_from lits ends k n)
  below_from k zero h = tt
  below_from k (suc n) h = (h k (omega arith), below_from (suc k) n (λ i l. h i (omega arith)))

  below_at : (k n : ℕ) → ClausesBelow v (clauses_from lits ends k n) → (i : ℕ) → i < n → LitsBelow v (clause_at lits ends (k + i))
  below_at k zero b i l = absurd (omega arith)
  below_at k (suc n) b zero l = let e : k + 0 ≡ k = omega arith in rw e b.0
  below_at k (suc n) b (suc i) l = let e : k + suc i ≡ suc k + i = omega arith in rw e (below_at (suc k) n b.1 i (omega arith))

-- All clauses --------------------------------------------------------------------------------------------------------

module _ (env : EncoderEnv) (lits ends : List ℕ) where
  tests_are : (clauses_readable env lits ends ≡ true)
      ↔ ((((k : ℕ) → k < env.clauses → get_or ends k 0 ≤ get_or ends (k + 1) 0) × ((k : ℕ) → k < env.clauses + 1 → get_or ends k 0 ≤ env.literals))
      × ((k : ℕ) → k < env.clauses → LitsBelow env.variables (clause_at lits ends k)))
  unfolding clauses_readable
  tests_are =
      and_is (all_below env.clauses (rises ends) && all_below (env.clauses + 1) (within env.literals ends)) (all_below env.clauses (known (2 * env.variables) lits ends))
      (and_is (all_below env.clauses (rises ends)) (all_below (env.clauses + 1) (within env.literals ends))
      (all_is (rises ends) env.clauses (λ k. leb_is (get_or ends k 0) (get_or ends (k + 1) 0)))
      (all_is (within env.literals ends) (env.clauses + 1) (λ k. leb_is (get_or ends k 0) env.literals)))
      (all_is (known (2 * env.variables) lits ends) env.clauses (λ k. lits_below_is env.variables (clause_at lits ends k)))

  pub clauses_readable_is : (clauses_readable env lits ends ≡ true) ↔ Readable env lits ends
  clauses_readable_is = (
    λ h.
        let t = tests_are.0 h in
        record {
          rising = t.0.0;
          inside = λ k l. t.0.1 k (omega arith);
          below = below_from lits ends env.variables 0 env.clauses (λ i l. t.1 i (omega (arith, l)));
        },
    λ r.
        tests_are.1
        ((r.rising, λ k l. r.inside k (omega arith)), λ k l. let e : 0 + k ≡ k = omega arith in rw e at (below_at lits ends env.variables 0 env.clauses r.below k l)),
  )

  pub readable_is : (readable env lits ends ≡ true) ↔ (WellFormed env (length lits) (length ends) × Readable env lits ends)
  unfolding readable
  readable_is = and_is (well_formed env (length lits) (length ends)) (clauses_readable env lits ends) (well_formed_is env (length lits) (length ends)) clauses_readable_is

  -- a job whose clauses can be read is well formed
  pub readable_formed : readable env lits ends ≡ true → well_formed env (length lits) (length ends) ≡ true
  unfolding readable
  readable_formed h = (both (well_formed env (length lits) (length ends)) (clauses_readable env lits ends) h).0
