-- A rule measured: too tall, or of a size.
use Prim.Native.Nat.{◌*◌, ◌≤◌, ℕ}
use borrow.Author.Tests.{le-ltb}
use mathlib.Core.List.{List}
use mathlib.Core.Path.{◌∙◌, ◌≡◌, ap, subst, sym}
use native.Mathlib.Omega.{arith}
use Rattle.std.specs.Prelude.{None, Option, Some}
use Rattle.sat.specs.Size.{Size}
use Rattle.log_linear.specs.declared.RuleCounts.{RuleCounts}
use Rattle.log_encoding.specs.AdderSize.{Reached, greatest_height, too_tall}
use Rattle.eq_size.specs.Sized.{Sized}
use Rattle.terms_size.specs.Measured.{Measured, SizedBy}

module _ (n : ℕ) (rs : List Reached) (size : Size) where
  pub measured_fits : (r : RuleCounts) → greatest_height rs ≤ 12 → Sized size r → r.vars ≤ 1000 * n → r.used.clauses ≤ 34000000 * n → r.used.lits ≤ 504000000 * n
      → Measured n rs size (Some r)
  measured_fits r h s v c l = (le-ltb 12 (greatest_height rs) h, record { sized = s; few_vars = v; few_clauses = c; few_lits = l })

-- of no fewer adders
sized_as : {n : ℕ} {size size' : Size} (k : ℕ) (r : RuleCounts) → n ≤ k → size ≡ size' → SizedBy n size r → SizedBy k size' r
sized_as k r h q m =
    record {
      sized = subst (λ (z : Size). Sized z r) q m.sized;
      few_vars = omega (arith, m.few_vars);
      few_clauses = omega (arith, m.few_clauses);
      few_lits = omega (arith, m.few_lits);
    }

-- the same columns and the same size, of no fewer adders
pub measured_as : {n : ℕ} {rs rs' : List Reached} {size size' : Size} (k : ℕ) (r : Option RuleCounts) → n ≤ k → rs ≡ rs' → size ≡ size' → Measured n rs size r → Measured k rs' size' r
measured_as k None h p q m = ap too_tall (sym p) ∙ m
measured_as k (Some r) h p q m = (ap too_tall (sym p) ∙ m.0, sized_as k r h q m.1)
