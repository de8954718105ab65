-- `log_adder2::push_ordering` meets its contract.
use mathlib.Core.Path.{◌≡◌, ap, refl, ◌∙◌}
use mathlib.Core.List.{[], ◌∷◌, ◌++◌}
use Prim.Native.Nat.{◌+◌, ◌-◌}
use native.Mathlib.Omega.{arith}
use Rattle.sat.specs.Fresh.{fresh}
use Rattle.sat.specs.Lit.{neg}
use Rattle.clause_set.proofs.Writing.{left_as, left_end, left_fits, left_start, left_turn, wrote_as}
use Rattle.log_encoding.specs.Adder2.{ordering}
use Rattle.log_adder2.proofs.Ordering.{ordering_left, ordering_none, ordering_size, ordering_split}
use Rattle.log_adder2.proofs.push_ordering.Goals as goal
use Rattle.log_adder2.proofs.push_ordering.Goals.{After-not}

-- the clause of a turn, and those left
split : (c : After-not)
    → let p = c.args.carry in
    ordering_left p.count p.first.0 c.loop-i.i ≡ ((c.as_lit-here.result.0 ∷ c.not.result.0 ∷ []) ∷ []) ++ ordering_left p.count p.first.0 (c.loop-i.i + 1)
split c =
    let p = c.args.carry in
    ordering_split p.count p.first.0 c.loop-i.i c.loop-i.invariant.2 c.loop-i-test.true c.as_lit-here.ensures (c.not.ensures ∙ ap neg c.as_lit-next.ensures)

pub loop-i-init : goal.loop-i-init
loop-i-init c =
    let p = c.args.carry in
    let z = ordering_size p.count p.first.0 in
    let n : p.count ≡ p.count + 1 - 1 = omega arith in
    let v : p.first.0 ≡ p.first.0 + 1 - 1 = omega arith in (
      left_as (left_start c.args.set.now _ record { lits = omega (arith, c.requires, z); clauses = omega (arith, c.requires, z) }) (λ i. ordering (fresh (n i) (v i))),
      refl,
      omega arith,
    )

pub push-requires : goal.push-requires
push-requires c = record { fits = left_fits _ _ (left_as c.loop-i.invariant.0 (split (goal.at.push-requires c).After-not)) }

pub loop-i-preserved : goal.loop-i-preserved
loop-i-preserved c =
    let w = c.push.ensures.added in (
      left_turn _ _ (left_as c.loop-i.invariant.0 (split (goal.at.loop-i-preserved c).After-not)) w,
      w.vars_are ∙ c.loop-i.invariant.1,
      omega arith,
    )

pub returns : goal.returns
returns c =
    let p = c.args.carry in
    let i = c.loop-i.invariant in
    wrote_as (left_end (left_as i.0 (ordering_none (p.count + 1 - c.loop-i.i) (p.first.0 + c.loop-i.i - 1) (omega arith)))) i.1 refl
