-- `text::Writer::put_bytes` meets its contract.
use Rattle.std.proofs.Common.{take}
use Rattle.text.specs.Bytes.{Wrote}
use Rattle.text.proofs.Writer.put_bytes.Given as goal

abbrev pub invariant-loop-b : goal.invariant-loop-b
invariant-loop-b l = Wrote l.initial.self (take l.b-index l.s) l.self
