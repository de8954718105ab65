-- `log_var::new_lits` meets its contract.
use mathlib.Core.Path.{ap, refl, sym, ◌∙◌}
use mathlib.Core.List.{map}
use Prim.Native.Nat.{◌+◌, ◌-◌, ◌*◌}
use native.Mathlib.Omega.{arith}
use lib.ListN.{replicate}
use lib.Seq.{sets}
use Rattle.sat.specs.Fresh.{fresh}
use Rattle.sat.proofs.Fresh.{fresh_end, fresh_start, fresh_step, length_fresh}
use Rattle.sat.specs.LitArray.{lit}
use Rattle.clause_set.proofs.Writing.{wrote_as, wrote_nothing, wrote_then}
use Rattle.log_var.proofs.Bits.{placed_all, placed_turn}
use Rattle.log_var.proofs.new_lits.Goals as goal

pub loop-i-init : goal.loop-i-init
loop-i-init c =
    let s = c.args.set.now in
    (wrote_as (wrote_nothing s) (omega arith) refl, ap (λ ls. sets (replicate 12 (lit 0)) 0 (map lit ls)) (fresh_start c.args.n s.vars))

pub loop-i-preserved : goal.loop-i-preserved
loop-i-preserved c =
    let n = c.args.n in
    let v = c.args.set.now.vars in
    let l = c.loop-i in
    let new = c.new_lit.ensures in (
      wrote_as (wrote_then l.invariant.0 new.wrote) (omega (arith, l.invariant.0.vars_are)) refl,
      l.invariant.1
          ∙ ap (λ ls. sets l.out l.i (map lit ls)) (fresh_step n v l.i c.loop-i-test.true)
          ∙ placed_turn l.out l.i c.new_lit.result (2 * (v + l.i)) (fresh (n - (l.i + 1)) (v + (l.i + 1))) (new.new_lit ∙ ap (λ w. 2 * w) l.invariant.0.vars_are),
    )

pub returns : goal.returns
returns c =
    let n = c.args.n in
    let v = c.args.set.now.vars in
    let l = c.loop-i in
    record {
      lits = sym (l.invariant.1 ∙ ap (λ ls. sets l.out l.i (map lit ls)) (fresh_end n v l.i c.loop-i-test.false))
          ∙ placed_all (fresh n v) (omega (arith, length_fresh n v, c.requires.1));
      wrote = wrote_as l.invariant.0 (omega arith) refl;
    }
