-- `values_text::put_setting_line` meets its contract.
use mir.Syntax.{w32}
use mir.ValLaws.{to_z-of_z}
use Rattle.values_text.proofs.Printing.{wrote_setting}
use Rattle.values_text.proofs.put_setting_line.Goals as goal

pub returns : goal.returns
returns c =
    let a = c.args in
    wrote_setting a.i a.z (to_z-of_z w32 a.z c.ranges.z) c.put_bytes.ensures c.put_decimal.ensures c.put.ensures c.put_integer.ensures c.put-2.ensures
