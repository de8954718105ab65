-- `columns_check::lits_from` meets its contract.
use mathlib.Core.Path.{refl}
use Prim.Native.Nat.{◌<◌, ◌^◌}
use lib.Dec.{lit<}
use Rattle.sat.specs.declared.Lit.{Lit}
use Rattle.sat.specs.LitArray.{lit}
use Rattle.sat.proofs.Every.{every_replicate}
use Rattle.columns_check.proofs.lits_from.Goals as goal

pub loop-i-init : goal.loop-i-init
loop-i-init c = (refl, every_replicate (lit 0) (λ (x : Lit). x.0 < 2 ^ 31) 32 (lit< tt))
