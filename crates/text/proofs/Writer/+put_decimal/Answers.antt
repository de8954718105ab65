-- `text::Writer::put_decimal` meets its contract.
use Rattle.text.proofs.Numerals.{wrote_digit, wrote_digits}
use Rattle.text.proofs.Writer.+put_decimal.Goals as goal
use Rattle.text.proofs.Writer.+put_decimal.Goals.{then-n-ge10, else-n-ge10}

pub returns : goal.returns
returns t c =
    elim c.if-n-ge10.branch [
      | then-n-ge10 w ↦ wrote_digits c.args.n c.digit.ensures c.put.ensures w.if-n-ge10.true w.self-is w.put_decimal.ensures
      | else-n-ge10 w ↦ wrote_digit c.args.n c.digit.ensures c.put.ensures w.if-n-ge10.false w.self-is
    ]
