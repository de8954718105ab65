-- What clauses count, and the size that follows.
use Prim.Native.Nat.{◌+◌, ℕ}
use lib.ListN.{length}
use mathlib.Core.List.{[], ◌++◌, ◌∷◌}
use mathlib.Core.Path.{◌∙◌, ◌≡◌, refl, sym}
use native.Mathlib.Omega.{arith}
use Rattle.sat.specs.Clause.{Clauses}
use Rattle.sat.specs.Encoded.{EncodedRule}
use Rattle.sat.specs.Size.{HasSize, entries, size_by, weight_of}

pub weight_append : (weigh : ℕ → ℕ) (a b : Clauses) → weight_of weigh (a ++ b) ≡ weight_of weigh a + weight_of weigh b
weight_append weigh [] b = omega arith
weight_append weigh (c ∷ a) b = omega (arith, weight_append weigh a b)

pub entries_append : (cs ds : Clauses) → entries (cs ++ ds) ≡ entries cs + entries ds
entries_append [] ds = omega arith
entries_append (c ∷ cs) ds = omega (arith, entries_append cs ds)

-- the two counts
pub weight_length : (cs : Clauses) → weight_of (λ d. 1) cs ≡ length cs
weight_length [] = refl
weight_length (c ∷ cs) = omega (arith, weight_length cs)

pub weight_entries : (cs : Clauses) → weight_of (λ d. d) cs ≡ entries cs
weight_entries [] = refl
weight_entries (c ∷ cs) = omega (arith, weight_entries cs)

-- a rule's clauses count this, and after v variables it has so many new ones
pub record RuleSize (weigh : ℕ → ℕ) (v : ℕ) (out : EncodedRule) (count vars : ℕ) : Type 0 where
  pub clauses_are : weight_of weigh out.clauses ≡ count
  pub vars_are : out.vars ≡ v + vars

pub has_size : (v : ℕ) (out : EncodedRule) (count : (ℕ → ℕ) → ℕ) (vars : ℕ)
    → ((weigh : ℕ → ℕ) → RuleSize weigh v out (count weigh) vars) → HasSize v out.vars out.clauses (size_by vars count)
has_size v out count vars size =
    record {
      vars_are = (size (λ d. 1)).vars_are;
      clauses_are = sym (weight_length out.clauses) ∙ (size (λ d. 1)).clauses_are;
      literals_are = sym (weight_entries out.clauses) ∙ (size (λ d. d)).clauses_are;
    }
