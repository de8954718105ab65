-- `values_text::put_switch_line` meets its contract.
use Rattle.std.proofs.Common.{rules}
use Rattle.values_text.proofs.Printing.{wrote_switch}
use Rattle.values_text.proofs.put_switch_line.Goals as goal
use Rattle.values_text.proofs.put_switch_line.Goals.{then-b-eq1, else-b-eq1}

pub returns : goal.returns
returns c =
    wrote_switch c.args.s c.args.b (elim c.if-b-eq1.branch [ then-b-eq1 w ↦ search rules | else-b-eq1 w ↦ search rules ])
    c.put_bytes.ensures c.put_decimal.ensures c.put_bytes-2.ensures
