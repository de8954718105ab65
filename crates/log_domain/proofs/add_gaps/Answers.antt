-- `log_domain::add_gaps` meets its contract. A signed argument of a call stands in its contract as its bits, which `to_z w32` reads.
use mathlib.Core.Path.{◌≡◌, ◌∙◌, ap₂, refl}
use borrow.Author.Rules.{rules}
use Prim.Native.Nat.{ℕ, ◌+◌, ◌-◌}
use lib.IntN.{pos, ℤ}
use lib.ListN.{get_or}
use mir.Syntax.{w32}
use mir.Val.{SFits, of_z, to_z}
use mir.ValLaws.{to_z-of_z}
use Rattle.arithmetic.specs.Offset.{code}
use Rattle.sat.specs.Fresh.{fresh}
use Rattle.clause_set.proofs.Writing.{left_as, left_fits, left_turn, wrote_as}
use Rattle.log_encoding.specs.Domain.{gap}
use Rattle.log_domain.proofs.Lists.{gaps_step, next_rises, rising_gap, rising_step}
use Rattle.log_domain.proofs.add_gaps.Goals as goal

pub add_gap_between-requires-clause-n_bound : goal.add_gap_between-requires-clause-n_bound
add_gap_between-requires-clause-n_bound c =
    let xs = c.args.values.now in
    let o : ℤ = to_z w32 (of_z w32 c.args.offset) in
    let l = c.loop-i in
    let h = c.loop-i-test.true in
    let f = rising_gap o xs l.i h l.invariant.2 in
    rw (to_z-of_z w32 (get_or xs l.i (pos 0)) (search rules), to_z-of_z w32 (get_or xs (l.i + 1) (pos 0)) (search rules))
    (c.requires.n_bound.0, f.low_above, next_rises o xs l.i h l.invariant.2, f.high_up, f.offset_down)

pub add_gap_between-requires-clause-fits : goal.add_gap_between-requires-clause-fits
add_gap_between-requires-clause-fits c =
    let xs = c.args.values.now in
    let o : ℤ = to_z w32 (of_z w32 c.args.offset) in
    let l = c.loop-i in
    let turn = gaps_step o xs l.i c.loop-i-test.true (fresh c.args.n c.args.first.0) in
    rw (to_z-of_z w32 (get_or xs l.i (pos 0)) (search rules), to_z-of_z w32 (get_or xs (l.i + 1) (pos 0)) (search rules))
    (left_fits _ _ (left_as l.invariant.0 turn))

pub loop-i-preserved : goal.loop-i-preserved
loop-i-preserved c =
    let xs = c.args.values.now in
    let o : ℤ = to_z w32 (of_z w32 c.args.offset) in
    let l = c.loop-i in
    let h = c.loop-i-test.true in
    let ls = fresh c.args.n c.args.first.0 in
    let same : (i : ℕ) → SFits w32 (get_or xs i (pos 0)) → to_z w32 (of_z w32 (get_or xs i (pos 0))) ≡ get_or xs i (pos 0) = λ i f. to_z-of_z w32 (get_or xs i (pos 0)) f in
    let read = ap₂ (λ (x y : ℤ). gap ls (code o x + 1) (code o y - (code o x + 1))) (same l.i (search rules)) (same (l.i + 1) (search rules)) in
    let added = c.add_gap_between.ensures in
    (left_turn _ _ (left_as l.invariant.0 (gaps_step o xs l.i h ls)) (wrote_as added refl read), added.vars_are ∙ l.invariant.1, rising_step o xs l.i h l.invariant.2)
