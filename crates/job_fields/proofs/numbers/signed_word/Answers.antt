-- `job_fields::numbers::signed_word` meets its contract.
use mathlib.Core.Path.{◌∙◌, ap}
use native.Mathlib.Omega.{arith}
use Prim.Native.Nat.{◌*◌, ◌+◌, ℕ}
use lib.ListN.{get_or}
use mir.Syntax.{w16, w32}
use mir.ValLaws.{to_z-of_z}
use Rattle.job_fields.specs.Numbers.{signed, signed_word, word, word_at}
use Rattle.job_fields.proofs.NumbersRead.{bits_signed}
use Rattle.job_fields.proofs.numbers.signed_word.Goals as goal

pub returns : goal.returns
unfolding signed_word word_at word
returns c =
    let s = c.args.s.now in
    let i = c.args.i in
    let high = c.type_inv.s i in
    let low = c.type_inv.s (i + 1) in
    let n : ℕ = get_or s i 0 * 256 + get_or s (i + 1) 0 in
    to_z-of_z w32 c.from.result (record { sfits = c.from.type_inv })
    ∙ c.from.ensures
    ∙ to_z-of_z w16 c.from_be_bytes.result (record { sfits = c.from_be_bytes.type_inv })
    ∙ c.from_be_bytes.ensures
    ∙ bits_signed 32768 n (omega arith)
    ∙ ap (signed 32768) (omega arith)
