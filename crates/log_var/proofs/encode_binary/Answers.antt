-- `log_var::encode_binary` meets its contract.
use mathlib.Core.Path.{refl}
use mir.Syntax.{w32}
use mir.ValLaws.{to_z-of_z}
use Rattle.log_var.proofs.Calls.{binary_added, binary_fits, binary_small, codes_read}
use Rattle.log_var.proofs.encode_binary.Goals as goal

pub encode_bits-lits-requires : goal.encode_bits-lits-requires
encode_bits-lits-requires c =
    let a = c.args in
    let e = codes_read a.f a.t c.ranges.f c.ranges.t c.code_range-codes.ensures in
    let r = c.code_range-codes.result in
    record { n_bound = binary_small a.cond.0 a.f a.t a.set.now c.requires r e; fits = binary_fits a.cond.0 a.f a.t a.set.now c.requires r e }

pub returns : goal.returns
returns c =
    let a = c.args in
    let e = codes_read a.f a.t c.ranges.f c.ranges.t c.code_range-codes.ensures in
    binary_added a.cond.0 a.f a.t a.set.now c.requires c.code_range-codes.result e c.encode_bits-lits.ensures refl refl
    (to_z-of_z w32 a.f c.ranges.f) (to_z-of_z w32 a.t c.ranges.t) refl
