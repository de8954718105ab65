-- `job_fields::numbers::word` meets its contract.
use native.Mathlib.Omega.{arith}
use Prim.Native.Nat.{◌+◌}
use Rattle.job_fields.specs.Numbers.{word, word_at}
use Rattle.job_fields.proofs.numbers.word.Goals as goal

pub returns : goal.returns
unfolding word_at word
returns c =
    let i = c.args.i in
    let f = c.from.ensures in
    let e = c.from_be_bytes.ensures in
    let high = c.type_inv.s i in
    let low = c.type_inv.s (i + 1) in
    (omega arith, omega arith)
