-- `text::Writer::put_integer` meets its contract.
use Rattle.std.proofs.Common.{w32}
use Rattle.std.proofs.lemmas.Int.{to_z-of_z}
use Rattle.text.proofs.Signs.{wrote_negative, wrote_not_negative}
use Rattle.text.proofs.Writer.put_integer.Goals as goal
use Rattle.text.proofs.Writer.put_integer.Goals.{then-z-lt0, else-z-lt0}

pub returns : goal.returns
returns c =
    let same = to_z-of_z w32 c.args.z c.ranges.z in
    let abs = c.unsigned_abs.ensures.value in
    elim c.if-z-lt0.branch [
      | then-z-lt0 w ↦ wrote_negative c.args.z same abs c.put_decimal.ensures w.if-z-lt0.true w.self-is w.put.ensures
      | else-z-lt0 w ↦ wrote_not_negative c.args.z same abs c.put_decimal.ensures w.if-z-lt0.false w.self-is
    ]
