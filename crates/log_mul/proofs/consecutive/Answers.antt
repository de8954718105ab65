-- `log_mul::consecutive` meets its contract.
use Prim.Native.Nat.{◌^◌, ◌<◌}
use mathlib.Core.Path.{refl, ◌∙◌}
use lib.Dec.{lit<}
use lib.ListN.{length-set}
use native.Mathlib.Omega.{arith}
use Rattle.sat.specs.LitArray.{lit}
use Rattle.sat.specs.declared.Lit.{Lit}
use Rattle.sat.proofs.Every.{every_replicate, every_set}
use Rattle.log_mul.proofs.RowColumns.{fresh_more}
use Rattle.log_mul.proofs.consecutive.Goals as goal

pub loop-j-init : goal.loop-j-init
loop-j-init c = (refl, refl, every_replicate (lit 0) (λ (x : Lit). x.0 < 2 ^ 31) 32 (lit< tt))

pub loop-j-preserved : goal.loop-j-preserved
loop-j-preserved c =
    let l = c.loop-j in
    let r = c.as_lit in (
      length-set l.lits l.j r.result ∙ l.invariant.0,
      fresh_more l.lits l.j c.args.v r.result (omega (arith, c.requires, l.invariant.0, c.loop-j-test.true)) r.ensures l.invariant.1,
      every_set (lit 0) (λ (x : Lit). x.0 < 2 ^ 31) l.lits l.j r.result l.invariant.2 (omega (arith, c.requires, c.loop-j-test.true, r.ensures)),
    )
