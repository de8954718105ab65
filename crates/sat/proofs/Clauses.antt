-- Longer clauses and longer lists of clauses.
use Prim.Native.Nat.{ℕ}
use mathlib.Core.Bool.{So, ◌&&◌, ◌||◌, and-eq-true_iff}
use mathlib.Core.List.{List, [], ◌++◌, ◌∷◌}
use mathlib.Core.Logic.Iff
use mathlib.Core.Logic.{◌↔◌}
use mathlib.Core.Path.{◌≡◌, refl, sym}
use Rattle.arithmetic.proofs.Tests.{So_same, and_assoc, or_assoc, or_false}
use Rattle.sat.specs.Clause.{Assignment, clause_sat, holds, sat}

pub clause_sat_snoc : (α : Assignment) (p : List ℕ) (l : ℕ) → clause_sat α (p ++ (l ∷ [])) ≡ (clause_sat α p || holds α l)
clause_sat_snoc α [] l = or_false (holds α l)
clause_sat_snoc α (x ∷ p) l = rw (clause_sat_snoc α p l) (sym (or_assoc (holds α x) (clause_sat α p) (holds α l)))

pub clause_sat_append : (α : Assignment) (p q : List ℕ) → clause_sat α (p ++ q) ≡ (clause_sat α p || clause_sat α q)
clause_sat_append α [] q = refl
clause_sat_append α (x ∷ p) q = rw (clause_sat_append α p q) (sym (or_assoc (holds α x) (clause_sat α p) (clause_sat α q)))

pub sat_append : (α : Assignment) (c d : List (List ℕ)) → sat α (c ++ d) ≡ (sat α c && sat α d)
sat_append α [] d = refl
sat_append α (x ∷ c) d = rw (sat_append α c d) (sym (and_assoc (clause_sat α x) (sat α c) (sat α d)))

pub sat_both : (α : Assignment) (c d : List (List ℕ)) → So (sat α (c ++ d)) ↔ (So (sat α c) × So (sat α d))
sat_both α c d = Iff.trans (So_same (sat_append α c d)) (and-eq-true_iff (sat α c) (sat α d))
