-- `columns_check::run_ge` meets its contract.
use native.Mathlib.Omega.{arith}
use lib.ListN.{length-take}
use Rattle.columns_check.proofs.Laws.{terms_fit, terms_in_table}
use Rattle.columns_check.proofs.run_ge.Goals as goal

pub encode_linear_ge_mixed_from_info-requires-clause-in_table : goal.encode_linear_ge_mixed_from_info-requires-clause-in_table
encode_linear_ge_mixed_from_info-requires-clause-in_table g c =
    let t = c.in-Some in (omega (arith, t.ensures.len, length-take t.t.len t.t.terms), terms_in_table t.t t.ensures (omega arith))

pub encode_linear_ge_mixed_from_info-requires-clause-fits : goal.encode_linear_ge_mixed_from_info-requires-clause-fits
encode_linear_ge_mixed_from_info-requires-clause-fits g c =
    let t = c.in-Some in terms_fit t.t _ _ c.default.result c.default.ensures t.ensures
