-- The pairs of bits and the adder's columns, counted, are as many as the definition says.
use Prim.Native.Nat.{◌*◌, ◌+◌, ◌-◌, ◌≤◌, ℕ}
use borrow.Author.Tests.{le-ltb}
use mathlib.Core.Path.{◌≡◌}
use native.Mathlib.Nat.{mul-le-mul_right}
use native.Mathlib.Omega.{arith}
use Rattle.std.specs.Prelude.{Some}
use Rattle.log_encoding.specs.AdderSize.{greatest_height}
use Rattle.log_encoding.specs.MulSize.{multiplier_reached}
use Rattle.adder_size.specs.Counted.{Counted as AdderCounted}
use Rattle.adder_size.specs.declared.AdderSize.{AdderSize}
use Rattle.terms_size.specs.Measured.{Measured}
use Rattle.product_size.specs.Multiplied.{Multiplied, plain_size}
use Rattle.product_size.specs.declared.MultiplierSize.{MultiplierSize}

pub pairs_most : (x y : ℕ) → x ≤ 12 → y ≤ 12 → x * y ≤ 144
pairs_most x y a b = omega (arith, mul-le-mul_right y a)

pub multiplied_fits : (x y given : ℕ) (s : AdderSize) (over : ℕ) → x ≤ 12 → y ≤ 12 → greatest_height (multiplier_reached x y given) ≤ 12
    → AdderCounted (multiplier_reached x y given) s → over ≡ s.bits - given
    → Multiplied x y given (Some (record {
      bits = s.bits;
      vars = x * y + (s.carries + over);
      used = record { clauses = x * y * 3 + s.used.clauses; lits = x * y * 7 + s.used.lits };
    }))
multiplied_fits x y given s over a b h c e =
    let most : x * y ≤ 144 = pairs_most x y a b in (
      le-ltb 12 (greatest_height (multiplier_reached x y given)) h,
      record {
        counted =
            record {
              bits = c.bits;
              vars = omega (arith, c.bits, c.carries, e);
              clauses = omega (arith, c.clauses);
              lits = omega (arith, c.lits);
            };
        few_bits = c.few;
        few_vars = omega (arith, c.steady.carries, c.few, e);
        few_clauses = omega (arith, c.steady.clauses, c.few);
        few_lits = omega (arith, c.steady.lits, c.few);
      },
    )

-- without offsets
pub plain_measured : (x y m : ℕ) (s : MultiplierSize) (over : ℕ) → Multiplied x y m (Some s) → over ≡ s.bits - m
    → Measured 2 (multiplier_reached x y m) (plain_size x y m) (Some (record { vars = s.vars; used = record { clauses = s.used.clauses + over; lits = s.used.lits + over } }))
plain_measured x y m s over h e =
    let g = h.1 in
    let c = g.counted in (
      h.0,
      record {
        sized = record { vars_are = c.vars; clauses_are = omega (arith, c.clauses, c.bits, e); lits_are = omega (arith, c.lits, c.bits, e) };
        few_vars = omega (arith, g.few_vars);
        few_clauses = omega (arith, g.few_clauses, g.few_bits, e);
        few_lits = omega (arith, g.few_lits, g.few_bits, e);
      },
    )
