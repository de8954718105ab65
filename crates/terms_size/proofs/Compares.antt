-- The two sums counted and compared are as many as the definition says.
use Prim.Native.Nat.{◌+◌, ◌≤◌, min, ℕ}
use lib.ListN.{length}
use mathlib.Core.Bool.{Bool, false, true}
use mathlib.Core.List.{List, ◌++◌}
use mathlib.Core.Path.{◌≡◌, ap₂}
use native.Mathlib.Omega.{arith}
use Rattle.std.specs.Prelude.{Some}
use Rattle.log_linear.specs.declared.RuleCounts.{RuleCounts}
use Rattle.log_encoding.specs.AdderSize.{Reached, adder_count, adder_vars, greatest_height}
use Rattle.log_encoding.specs.LinearSize.{WeightedShape, sign_reached}
use Rattle.adder_size.specs.Counted.{Counted}
use Rattle.adder_size.specs.declared.AdderSize.{AdderSize}
use Rattle.compare_size.specs.Compared.{Compared, SumReady, last_count}
use Rattle.compare_size.proofs.Last.{last_most}
use Rattle.eq_size.specs.Sized.{Sized}
use Rattle.terms_size.specs.Measured.{Measured, compared_op, terms_size}
use Rattle.terms_size.proofs.Measuring.{measured_fits}

pub sum_ready : {rs : List Reached} {s : AdderSize} → Counted rs s → SumReady s
sum_ready c = record { steady = c.steady; few = c.few }

module _ (ps : List WeightedShape) (a b : ℕ) (p n : AdderSize) (r : RuleCounts)
    (x : Counted (sign_reached false ps a) p) (y : Counted (sign_reached true ps b) n) where
  abbrev both : List Reached
  both = sign_reached false ps a ++ sign_reached true ps b

  -- one count, by either of the two weighings
  counted : (weigh : ℕ → ℕ) (is_ne : Bool) (c l k : ℕ) → c ≡ l + k + last_count is_ne weigh p.bits n.bits
      → l ≡ adder_count weigh (sign_reached false ps a) → k ≡ adder_count weigh (sign_reached true ps b)
      → c ≡ adder_count weigh (sign_reached false ps a) + adder_count weigh (sign_reached true ps b)
      + last_count is_ne weigh (length (sign_reached false ps a)) (length (sign_reached true ps b))
  counted weigh is_ne c l k e f g =
      let h : last_count is_ne weigh p.bits n.bits ≡ last_count is_ne weigh (length (sign_reached false ps a)) (length (sign_reached true ps b)) =
      ap₂ (last_count is_ne weigh) x.bits y.bits in
      omega (arith, e, f, g, h)

  vars_are : r.vars ≡ (p.carries + p.bits) + (n.carries + n.bits) + min p.bits n.bits
      → r.vars ≡ adder_vars (sign_reached false ps a) 0 + adder_vars (sign_reached true ps b) 0 + min (length (sign_reached false ps a)) (length (sign_reached true ps b))
  vars_are e = omega (arith, e, x.bits, x.carries, y.bits, y.carries)

  comparison_sized : (is_ne : Bool) → Compared is_ne p n r → Sized (terms_size (compared_op is_ne) ps a b) r
  comparison_sized true c =
      record {
        vars_are = vars_are c.vars;
        clauses_are = counted (λ d. 1) true r.used.clauses p.used.clauses n.used.clauses c.clauses x.clauses y.clauses;
        lits_are = counted (λ d. d) true r.used.lits p.used.lits n.used.lits c.lits x.lits y.lits;
      }
  comparison_sized false c =
      record {
        vars_are = vars_are c.vars;
        clauses_are = counted (λ d. 1) false r.used.clauses p.used.clauses n.used.clauses c.clauses x.clauses y.clauses;
        lits_are = counted (λ d. d) false r.used.lits p.used.lits n.used.lits c.lits x.lits y.lits;
      }

  pub comparison_measured : (is_ne : Bool) → greatest_height both ≤ 12 → Compared is_ne p n r
      → Measured 2 both (terms_size (compared_op is_ne) ps a b) (Some r)
  comparison_measured is_ne h c =
      let most = last_most is_ne p.bits n.bits x.few y.few in
      measured_fits 2 both (terms_size (compared_op is_ne) ps a b) r h (comparison_sized is_ne c)
      (omega (arith, c.vars, x.steady.carries, y.steady.carries, x.few, y.few))
      (omega (arith, c.clauses, x.steady.clauses, y.steady.clauses, x.few, y.few, most.0))
      (omega (arith, c.lits, x.steady.lits, y.steady.lits, x.few, y.few, most.1))
