-- `log_adder::infos` meets its contract.
use mathlib.Core.Path.{◌≡◌}
use mathlib.Core.List.{map}
use mathlib.Core.Bool.{false}
use lib.ListN.{length, take}
use Rattle.mixed.specs.Infos.{AllSmall}
use Rattle.log_adder.specs.ColumnInfo.{lit_info}
use Rattle.log_adder.proofs.infos.Given as goal

abbrev pub invariant-loop-i : goal.invariant-loop-i
invariant-loop-i l =
    (length l.ts ≡ 15) × (take l.i l.ts ≡ map (lit_info false) (take l.i l.c.own.now)) × AllSmall l.ts
