-- `log_adder2::log_encoding_adder2` meets its contract.
use mathlib.Core.Path.{ap, refl}
use Prim.Native.Nat.{◌≤◌}
use native.Mathlib.Omega.{arith}
use lib.ListN.{length, length-take}
use Rattle.clause_set.proofs.Writing.{wrote_as, wrote_then}
use Rattle.log_adder2.specs.EqState.{CarriesOrdered, eq_input}
use Rattle.log_adder2.proofs.OrderingPass.{ordered_taken}
use Rattle.log_adder2.proofs.log_encoding_adder2.Goals as goal
use Rattle.log_adder2.proofs.log_encoding_adder2.Goals.{After-order_carries-carry}

long : (c : After-order_carries-carry) → c.args.width ≤ length c.args.cols.now.counts
long c = omega (arith, length-take c.args.width c.args.cols.now.counts, ap length c.first_counts.ensures.0, c.first_counts.ensures.1)

-- the first pass, of all the counts
first : (c : After-order_carries-carry)
    → let a = c.args in CarriesOrdered a.set.now a.cols.now.counts (eq_input a.width a.x a.y a.set.now.vars) c.order_carries-carry.new.set c.order_carries-carry.result
first c =
    let a = c.args in
    let o = c.order_carries-carry.ensures in
    ordered_taken a.cols.now.counts a.width a.x a.y c.requires.eq_fits.some (long c) (rw (← c.first_counts.ensures.0) o)

pub push_returned_set-requires-clause-carry_value : goal.push_returned_set-requires-clause-carry_value
push_returned_set-requires-clause-carry_value c = (first (goal.at.push_returned_set-requires-clause-carry_value c).After-order_carries-carry).carry

pub push_returned_set-requires-clause-lits_bound : goal.push_returned_set-requires-clause-lits_bound
push_returned_set-requires-clause-lits_bound c =
    let o = first (goal.at.push_returned_set-requires-clause-lits_bound c).After-order_carries-carry in
    let w = o.wrote c.args.cols.now.lits c.requires.eq_fits.wide in
    (omega (arith, c.requires.lits_bound, w.same_base, o.lits), omega (arith, c.requires.lits_bound, o.clauses))

pub returns : goal.returns
returns c =
    let w = (first (goal.at.returns c).After-order_carries-carry).wrote c.args.cols.now.lits c.requires.eq_fits.wide in
    wrote_as (wrote_then w c.push_returned_set.ensures) w.vars_are refl
