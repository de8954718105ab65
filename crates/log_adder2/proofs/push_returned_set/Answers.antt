-- `log_adder2::push_returned_set` meets its contract.
use mathlib.Core.Bool.{false}
use mathlib.Core.Path.{◌≡◌, ap, refl, sym, ◌∙◌}
use Prim.Native.Nat.{suc, ◌-◌, ◌≤◌}
use native.Mathlib.Omega.{arith}
use lib.ListN.{length, length-take}
use Rattle.clause_set.proofs.Writing.{wrote_as}
use Rattle.log_adder2.specs.EqState.{carry_of}
use Rattle.log_adder2.proofs.ColumnsPass.{returned}
use Rattle.log_adder2.proofs.EqHeights.{all_fit, tall_from}
use Rattle.log_adder2.proofs.push_returned_set.Goals as goal
use Rattle.log_adder2.proofs.push_returned_set.Goals.{After-first_counts}

long : (c : After-first_counts) → c.args.g.width ≤ length c.args.cols.now.counts
long c = omega (arith, length-take c.args.g.width c.args.cols.now.counts, ap length c.first_counts.ensures.0, c.first_counts.ensures.1)

-- the heights, as the laws of the passes ask for them
fits : (c : After-first_counts) → tall_from c.args.cols.now.counts (suc (c.args.g.width - 1)) 0 c.args.g.x c.args.g.y 0 ≡ false
fits c = let g = c.args.g in all_fit c.args.cols.now.counts g.width g.x g.y c.requires.eq_fits.some (long c) c.requires.y_value

pub returns : goal.returns
returns c =
    wrote_as c.add_eq_columns.ensures refl
    (returned c.args.cols.now c.args.g c.requires.eq_fits (fits (goal.at.returns c).After-first_counts) _ (ap carry_of (sym c.in-Carry.is) ∙ c.requires.carry_value))

pub returns-in_default : goal.returns-in_default
returns-in_default c =
    wrote_as c.push.ensures.added refl
    (returned c.args.cols.now c.args.g c.requires.eq_fits (fits (goal.at.returns-in_default c).After-first_counts) _ (ap carry_of (sym c.in_default.is) ∙ c.requires.carry_value))
