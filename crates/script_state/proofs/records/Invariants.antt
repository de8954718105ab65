-- `script_state::records` meets its contract.
use Rattle.script_state.proofs.Tables.{Filling}
use Rattle.script_state.specs.Job.{record_from}
use Prim.Native.Nat.{ℕ, ◌+◌, ◌*◌}
use Rattle.script_state.proofs.records.Given as goal

abbrev pub invariant-loop-i : goal.invariant-loop-i
invariant-loop-i l = Filling 32 (λ (k : ℕ). record_from l.nums (5 + 16 * k)) l.encodings l.i
