-- `product_size::offsets_size` meets its contract.
use Rattle.sum_size.specs.Shapes.{numbers_of}
use Rattle.product_size.proofs.Offsetting.{equation_tall, multiplier_tall, offsets_measured}
use Rattle.product_size.proofs.offsets_size.Goals as goal

pub returns-in_err-s : goal.returns-in_err-s
returns-in_err-s c =
    let a = c.args in
    rw c.from_residual.ensures (multiplier_tall (numbers_of a.x) (numbers_of a.y) (numbers_of a.m) c.in_err-s.ensures)

pub returns-in_err-sum : goal.returns-in_err-sum
returns-in_err-sum c =
    let a = c.args in
    rw c.from_residual-in_err-sum.ensures (equation_tall (numbers_of a.x) (numbers_of a.y) (numbers_of a.m) c.in_err-sum.ensures)

pub returns : goal.returns
returns c =
    let a = c.args in
    rw c.plus.ensures (offsets_measured (numbers_of a.x) (numbers_of a.y) (numbers_of a.m) c.in_ok-s.s c.in_ok-sum.sum c.in_ok-s.ensures c.in_ok-sum.ensures)
