-- `mixed::fill_table` meets its contract. The loop's invariant, `Filling`: the table has the terms from i on.
use mathlib.Core.Path.{◌≡◌}
use Prim.Native.Nat.{◌+◌, ◌-◌, ◌*◌, ◌^◌, ◌<◌}
use native.Mathlib.Omega.{arith}
use lib.ListN.{drop, get_or}
use Rattle.mixed.specs.Infos.{no_info}
use Rattle.mixed.proofs.TableTells.{Filling, end_filling, go_on_filling, last_fits, none_filled, small_before, small_last, start_filling, term_fits}
use Rattle.mixed.proofs.fill_table.Goals as goal
use Rattle.mixed.proofs.fill_table.Goals.{In-loop-i}

-- the terms from the one after this turn's on are in the table
now-filling : (c : In-loop-i) → let l = c.loop-i in Filling l.tab (drop (l.i - 1 + 1) c.args.ts.now) l.terms l.left l.lost
now-filling c =
    let more = c.loop-i-test.true in
    let i : c.loop-i.i ≡ c.loop-i.i - 1 + 1 = omega (arith, more) in
    rw i at c.loop-i.invariant.1

-- and its own fits
now-fits : (c : In-loop-i)
    → let l = c.loop-i in
    let t = get_or c.in-Some.before.now (l.i - 1) no_info in
    (l.left + t.count < 24) × (t.weight * t.count + l.lost < 2 ^ 32)
now-fits c =
    let l = c.loop-i in
    term_fits c.args.ts.now c.in-Some.before.now c.in-Some.last.now c.in-Some.ensures.cases.0 c.requires.in_table.1 l.tab (l.i - 1) l.terms l.left l.lost
    (omega (arith, c.loop-i-test.true, l.invariant.0)) (now-filling c)

pub returns-in_default : goal.returns-in_default
returns-in_default c = rw c.requires.tab_value (none_filled c.args.ts.now c.in_default.ensures.cases)

pub add_last-requires-clause-top : goal.add_last-requires-clause-top
add_last-requires-clause-top c = last_fits c.args.ts.now c.in-Some.before.now c.in-Some.last.now c.in-Some.ensures.cases.0 c.requires.in_table.1

pub add_last-requires-clause-small : goal.add_last-requires-clause-small
add_last-requires-clause-small c = small_last c.args.ts.now c.in-Some.before.now c.in-Some.last.now c.in-Some.ensures.cases.0 c.requires.all_small

pub overflow_mul-lost : goal.overflow_mul-lost
overflow_mul-lost c = omega (arith, last_fits c.args.ts.now c.in-Some.before.now c.in-Some.last.now c.in-Some.ensures.cases.0 c.requires.in_table.1)

pub loop-i-init : goal.loop-i-init
loop-i-init c =
    (omega arith, rw (c.add_last.ensures, c.requires.tab_value) (start_filling c.args.ts.now c.in-Some.before.now c.in-Some.last.now c.in-Some.ensures.cases.0 c.requires.in_table.1))

pub add_term-requires-clause-tab_fits : goal.add_term-requires-clause-tab_fits
add_term-requires-clause-tab_fits c =
    let f = now-fits (goal.at.add_term-requires-clause-tab_fits c).In-loop-i in
    (omega (arith, c.loop-i.invariant.0, c.in-Some.ensures.cases.1, c.requires.in_table.0), f.0, f.1)

pub add_term-requires-clause-small : goal.add_term-requires-clause-small
add_term-requires-clause-small c =
    small_before c.args.ts.now c.in-Some.before.now c.in-Some.last.now c.in-Some.ensures.cases.0 c.requires.all_small (c.loop-i.i - 1)
    (omega (arith, c.loop-i-test.true, c.loop-i.invariant.0))

pub overflow_mul-lost-in-loop-i : goal.overflow_mul-lost-in-loop-i
overflow_mul-lost-in-loop-i c = omega (arith, now-fits (goal.at.overflow_mul-lost-in-loop-i c).In-loop-i)

pub overflow_add-lost : goal.overflow_add-lost
overflow_add-lost c = omega (arith, now-fits (goal.at.overflow_add-lost c).In-loop-i)

pub loop-i-preserved : goal.loop-i-preserved
loop-i-preserved c =
    let s = goal.at.loop-i-preserved c in
    let l = c.loop-i in
    let more = c.loop-i-test.true in (
      omega (arith, l.invariant.0, more),
      rw c.add_term.ensures
          (go_on_filling c.args.ts.now c.in-Some.before.now c.in-Some.last.now c.in-Some.ensures.cases.0 c.requires.in_table.1 l.tab (l.i - 1) l.terms l.left l.lost
          (omega (arith, more, l.invariant.0)) (now-filling s.In-loop-i) (omega (arith, l.invariant.0, c.in-Some.ensures.cases.1, c.requires.in_table.0))),
    )

pub returns : goal.returns
returns c =
    let l = c.loop-i in
    let done : l.i ≡ 0 = omega (arith, c.loop-i-test.false) in
    end_filling c.args.ts.now c.in-Some.before.now c.in-Some.last.now c.in-Some.ensures.cases.0 l.tab l.terms l.left l.lost
    (omega (arith, l.invariant.0, c.in-Some.ensures.cases.1, c.requires.in_table.0)) (rw done at l.invariant.1)
