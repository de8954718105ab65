-- `encoder_linear::coef_fits` meets its contract.
use borrow.Author.Rules.{rules}
use borrow.Author.Tests.{eqb-false, eqb-true}
use mathlib.Core.Path.{◌≡◌, ap, refl, sym}
use mathlib.Core.Bool.{Bool, false, not, true}
use lib.Dec.{eqb, lit<}
use lib.IntN.{negsuc, pos, ℤ}
use mir.Syntax.{w32}
use mir.Val.{SFits, of_z}
use Rattle.encoder_env.specs.WellFormed.{eqz, lez}
use Rattle.encoder_env.proofs.Tests.{eq_no, eq_yes, signed_tests}
use Rattle.encoder_linear.proofs.coef_fits.Goals as goal

-- the code's test of 0
zero_test : (k : ℤ) → SFits w32 k → SFits w32 (pos 0) → eqb (of_z w32 k) 0 ≡ eqz k (pos 0)
zero_test k f g = go (eqb (of_z w32 k) 0) refl
  where
    go : (t : Bool) → eqb (of_z w32 k) 0 ≡ t → t ≡ eqz k (pos 0)
    go true e = sym (eq_yes f g (eqb-true (of_z w32 k) 0 e))
    go false e = sym (eq_no k (pos 0) (eqb-false (of_z w32 k) 0 e))

pub returns-then-k-ltminus255 : goal.returns-then-k-ltminus255
returns-then-k-ltminus255 c = search (signed_tests, rules)

pub returns-then-k-gt255 : goal.returns-then-k-gt255
returns-then-k-gt255 c = search (signed_tests, rules)

pub returns : goal.returns
returns c =
    let k = c.args.k in
    let low : lez (negsuc 254) k ≡ true = search (signed_tests, rules) in
    let high : lez k (pos 255) ≡ true = search (signed_tests, rules) in
    rw (low, high) (ap not (zero_test k c.ranges.k (record { sfits = lit< tt })))
