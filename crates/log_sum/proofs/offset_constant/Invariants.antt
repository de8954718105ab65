-- `log_sum::offset_constant` meets its contract.
use mathlib.Core.Path.{◌≡◌}
use Prim.Native.Nat.{◌+◌, ◌*◌, ◌≤◌}
use Rattle.arithmetic.specs.Integers.{down, up}
use Rattle.norm_csp.specs.Rules.{linear_sum, terms_of}
use Rattle.log_var.specs.Record.{int_map_of}
use Rattle.log_sum.proofs.Offsets.{terms_from}
use Rattle.log_sum.proofs.offset_constant.Given as goal

abbrev pub invariant-loop-i : goal.invariant-loop-i
invariant-loop-i l =
    (linear_sum (λ j. (int_map_of l.encodings j).offset) l.initial.sum (terms_of l.terms) ≡ linear_sum (λ j. (int_map_of l.encodings j).offset) l.sum (terms_from l.terms l.i))
    × (up l.sum ≤ up l.initial.sum + 1044225 * l.i) × (down l.sum ≤ down l.initial.sum + 1044225 * l.i)
