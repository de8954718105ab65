-- Ne and Ge: both parts of a sum, then the comparison of their bits.
use mathlib.Core.Path.{◌≡◌, ap, ◌∙◌}
use mathlib.Core.Bool.{false}
use mathlib.Core.List.{List, [], ◌∷◌, ◌++◌}
use Prim.Native.Nat.{ℕ, ◌+◌, ◌^◌, ◌≤◌, max}
use native.Mathlib.Omega.{arith}
use borrow.Author.Tests.{le-ltb, ltb-false}
use Rattle.sat.specs.Encoded.{EncodedBits, EncodedRule}
use Rattle.clause_set.specs.Stores.{AddedRule, Below}
use Rattle.clause_set.specs.declared.ClauseSet.{ClauseSet}
use Rattle.clause_set.proofs.Writing.{wrote_as, wrote_then}
use Rattle.log_encoding.specs.AdderSize.{Reached, greatest_height, too_tall}
use Rattle.log_encoding.specs.Linear.{compare}
use Rattle.log_linear.specs.Added.{bits_of}
use Rattle.log_linear.specs.declared.Bits.{Bits}
use Rattle.log_weighted.specs.Added.{SumAdded, SumsAdded}
use Rattle.log_weighted.specs.declared.Sums.{Sums}

-- Heights -------------------------------------------------------------------------------------------------------------

pub height_append : (xs ys : List Reached) → greatest_height (xs ++ ys) ≡ max (greatest_height xs) (greatest_height ys)
height_append [] ys = omega arith
height_append (x ∷ xs) ys = omega (arith, height_append xs ys)

pub both_fit : (xs ys : List Reached) → too_tall (xs ++ ys) ≡ false → (too_tall xs ≡ false) × (too_tall ys ≡ false)
both_fit xs ys h =
    let low = ltb-false 12 (greatest_height (xs ++ ys)) h in
    let e = height_append xs ys in
    (le-ltb 12 (greatest_height xs) (omega arith), le-ltb 12 (greatest_height ys) (omega arith))

-- Both parts ----------------------------------------------------------------------------------------------------------

pub sums_added : {s t u : ClauseSet} (pos : EncodedBits) (neg-from : ℕ → EncodedBits) (p m : Bits) → s.vars ≤ 1000000 → Below (2 ^ 24 + 1) s
    → SumAdded s pos t p → SumAdded t (neg-from t.vars) u m → SumsAdded s pos neg-from u (record { positive = p; negative = m })
sums_added pos neg-from p m few low g h =
    let e = g.wrote.vars_are in
    record {
      wrote = wrote_as (wrote_then g.wrote h.wrote) (ap (λ (n : ℕ). (neg-from n).vars) e) (ap (λ (n : ℕ). pos.clauses ++ (neg-from n).clauses) e);
      positive = g.bits;
      negative = h.bits ∙ ap (λ (n : ℕ). (neg-from n).bits) e;
      positive_len = g.len;
      negative_len = h.len;
      few_vars = omega (arith, g.vars, h.vars);
      below = (omega (arith, low, g.lits, h.lits, g.wrote.same_base, h.wrote.same_base), omega (arith, low, g.clauses, h.clauses));
    }

-- The comparison ------------------------------------------------------------------------------------------------------

pub compared : {s t u : ClauseSet} (test : List ℕ → List ℕ → ℕ → EncodedRule) (pos : EncodedBits) (neg-from : ℕ → EncodedBits) (r : Sums)
    → SumsAdded s pos neg-from t r → AddedRule t (test (bits_of r.positive) (bits_of r.negative) t.vars) u → AddedRule s (compare test pos neg-from) u
compared {t = t} test pos neg-from r g h =
    let neg = neg-from pos.vars in
    let q : test (bits_of r.positive) (bits_of r.negative) t.vars ≡ test pos.bits neg.bits neg.vars = (λ i. test (g.positive i) (g.negative i) (g.wrote.vars_are i)) in
    wrote_then g.wrote (wrote_as h (ap (λ (x : EncodedRule). x.vars) q) (ap (λ (x : EncodedRule). x.clauses) q))
