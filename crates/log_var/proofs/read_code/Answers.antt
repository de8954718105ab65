-- `log_var::read_code` meets its contract.
use Rattle.std.proofs.Common.{rules}
use Rattle.std.proofs.lemmas.List.{nil_from_length}
use native.Mathlib.Omega.{arith}
use Rattle.std.specs.Iterator.Adapters.{rev_source}
use Rattle.std.specs.Slice.Iter.{iter_rest}
use mathlib.Core.Path.{subst, sym, ◌≡◌}
use Rattle.log_var.proofs.Reading.{Read, read_end, read_small, read_start, read_turn}
use Rattle.log_var.proofs.read_code.Goals as goal

pub loop-l-init : goal.loop-l-init
loop-l-init c =
    let lits = c.args.lits.now in
    let all : iter_rest (rev_source c.into_iter-l-iterator.result) ≡ lits = search rules in
    subst (λ left. Read c.args.assignment.now lits left 0) (sym all) (read_start c.args.assignment.now lits)

pub overflow_mul-k : goal.overflow_mul-k
overflow_mul-k c = let k = read_small c.loop-l.invariant c.requires in omega arith

pub overflow_add-k : goal.overflow_add-k
overflow_add-k c =
    let turn = read_turn c.loop-l.invariant _ c.in-Some.l.now c.holds.result c.in-Some.ensures.steps c.holds.ensures in
    let k = read_small turn c.requires in
    omega arith

pub loop-l-preserved : goal.loop-l-preserved
loop-l-preserved c = read_turn c.loop-l.invariant _ c.in-Some.l.now c.holds.result c.in-Some.ensures.steps c.holds.ensures

pub returns : goal.returns
returns c =
    (read_end c.loop-l.invariant (nil_from_length _ c.in-None.ensures.steps.0), read_small c.loop-l.invariant c.requires)
