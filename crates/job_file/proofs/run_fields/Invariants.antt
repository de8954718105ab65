-- `job_file::run_fields` meets its contract.
use Prim.Native.Nat.{◌-◌, ◌≤◌}
use lib.ListN.{length}
use mathlib.Core.Path.{◌≡◌}
use Rattle.job_file.specs.Run.{run_file}
use Rattle.job_file.proofs.Running.{Going}
use Rattle.job_file.proofs.run_fields.Given as goal

abbrev pub invariant-loop-f : goal.invariant-loop-f
invariant-loop-f l =
    (length l.lits ≡ length l.initial.lits) × (length l.ends ≡ length l.initial.ends) × (l.left.field ≤ l.at) × (l.at ≤ length l.bytes) × (length l.bytes ≤ 8192) × Going l.bytes (run_file l.bytes l.initial.lits l.initial.ends) l.at l.left.field l.left.env l.lits l.ends

abbrev pub decreases-loop-f : goal.decreases-loop-f
decreases-loop-f l = length l.bytes - l.at
