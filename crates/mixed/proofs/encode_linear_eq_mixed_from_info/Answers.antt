-- `mixed::encode_linear_eq_mixed_from_info` meets its contract.
use mathlib.Core.List.{List, map}
use mathlib.Core.Path.{ap, sym}
use lib.ListN.{length-map}
use Prim.Native.Nat.{◌+◌}
use Rattle.clause_set.proofs.Writing.{fits_as, fits_behind, wrote_as, wrote_then}
use Rattle.clause_set.proofs.Adding.{fits_first}
use Rattle.log_encoding.specs.Enumerate.{bounded}
use Rattle.mixed.specs.Infos.{info_term, negated_info}
use Rattle.mixed.specs.declared.LinearInfo.{LinearInfo}
use Rattle.mixed.proofs.Infos.{negated_in_table, negated_small}
use Rattle.mixed.proofs.encode_linear_eq_mixed_from_info.Goals as goal

pub encode_linear_ge_mixed_from_info-requires-clause-fits : goal.encode_linear_ge_mixed_from_info-requires-clause-fits
encode_linear_ge_mixed_from_info-requires-clause-fits c =
    let a = c.args in fits_first (bounded (map info_term a.ts.now) a.above a.below) _ c.requires.fits

pub encode_linear_ge_mixed_from_info-requires-2-clause-all_small : goal.encode_linear_ge_mixed_from_info-requires-2-clause-all_small
encode_linear_ge_mixed_from_info-requires-2-clause-all_small c = rw c.negate_all-down.ensures (negated_small c.args.ts.now c.requires.all_small)

pub encode_linear_ge_mixed_from_info-requires-2-clause-in_table : goal.encode_linear_ge_mixed_from_info-requires-2-clause-in_table
encode_linear_ge_mixed_from_info-requires-2-clause-in_table c = (rw (c.negate_all-down.ensures, length-map c.args.ts.now negated_info) c.requires.in_table.0, rw c.negate_all-down.ensures (negated_in_table _ c.requires.in_table.2))

-- the second inequality is over the negated terms
pub encode_linear_ge_mixed_from_info-requires-2-clause-fits : goal.encode_linear_ge_mixed_from_info-requires-2-clause-fits
encode_linear_ge_mixed_from_info-requires-2-clause-fits c =
    let a = c.args in
    let m = c.negate_all-down.ensures in
    fits_as (fits_behind c.encode_linear_ge_mixed_from_info.ensures c.requires.fits)
    (ap (λ (us : List LinearInfo). bounded (map info_term us) (a.below + a.total) a.above) (sym m))

pub returns : goal.returns
returns c =
    let a = c.args in
    let m = c.negate_all-down.ensures in
    wrote_then c.encode_linear_ge_mixed_from_info.ensures
    (wrote_as c.encode_linear_ge_mixed_from_info-2.ensures c.encode_linear_ge_mixed_from_info.ensures.vars_are
    (ap (λ (us : List LinearInfo). bounded (map info_term us) (a.below + a.total) a.above) m))
