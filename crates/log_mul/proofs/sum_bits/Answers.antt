-- `log_mul::sum_bits` meets its contract.
use Prim.Native.Nat.{◌<◌}
use mathlib.Core.Path.{refl}
use lib.Dec.{lit<}
use Rattle.sat.specs.LitArray.{lit}
use Rattle.sat.specs.declared.Lit.{Lit}
use Rattle.sat.proofs.Every.{every_replicate}
use Rattle.log_mul.proofs.Numbered.{columns_start, columns_turn, past_again}
use Rattle.log_mul.proofs.sum_bits.Goals as goal

pub loop-own-init : goal.loop-own-init
loop-own-init c = columns_start c.args.counts.now c.args.vars _ refl (every_replicate (lit 0) (λ (x : Lit). x.0 < 2147483647) 32 (lit< tt))

pub loop-own-preserved : goal.loop-own-preserved
loop-own-preserved c =
    let l = c.loop-own in
    columns_turn c.args.counts.now c.args.vars l.s c.next_bit-s.result l.own-index c.loop-own-test.true (c.requires.counts.1 l.own-index) l.invariant c.next_bit-s.ensures

pub loop-s-preserved : goal.loop-s-preserved
loop-s-preserved c = past_again c.loop-s.s _ c.loop-s-test.true c.loop-s.invariant c.next_bit-s-in-loop-s.ensures
