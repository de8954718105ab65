-- `job_fields::numbers::signed_long` meets its contract.
use mathlib.Core.Path.{◌≡◌, ◌∙◌, ap}
use native.Mathlib.Omega.{arith}
use Prim.Native.Nat.{◌*◌, ◌+◌, ℕ}
use lib.ListN.{get_or}
use mir.Syntax.{w32}
use mir.ValLaws.{to_z-of_z}
use Rattle.job_fields.specs.Numbers.{long_at, signed, signed_long, word, word_at}
use Rattle.job_fields.proofs.NumbersRead.{bits_signed}
use Rattle.job_fields.proofs.numbers.signed_long.Goals as goal

pub returns : goal.returns
unfolding signed_long long_at word_at word
returns c =
    let s = c.args.s.now in
    let i = c.args.i in
    let t = c.type_inv.s in
    let n : ℕ = get_or s i 0 * 16777216 + get_or s (i + 1) 0 * 65536 + get_or s (i + 2) 0 * 256 + get_or s (i + 3) 0 in
    let last : i + 2 + 1 ≡ i + 3 = omega arith in
    to_z-of_z w32 c.from_be_bytes.result (record { sfits = c.from_be_bytes.type_inv })
    ∙ c.from_be_bytes.ensures
    ∙ bits_signed 2147483648 n (omega (arith, t i, t (i + 1), t (i + 2), t (i + 3)))
    ∙ ap (signed 2147483648) (rw last (omega arith))
