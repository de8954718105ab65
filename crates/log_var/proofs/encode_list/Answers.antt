-- `log_var::encode_list` meets its contract.
use borrow.Author.Rules.{rules}
use mathlib.Core.Path.{ap, refl}
use Prim.Native.Nat.{◌-◌}
use lib.IntN.{pos, ℤ}
use lib.ListN.{get_or, length}
use mir.Syntax.{w32}
use mir.ValLaws.{to_z-of_z}
use Rattle.sat.specs.Fresh.{fresh}
use Rattle.clause_set.proofs.Writing.{wrote_as}
use Rattle.norm_csp.specs.Domain.{range}
use Rattle.log_domain.specs.Domain.{gaps_from}
use Rattle.log_var.specs.Calls.{VarAdded}
use Rattle.log_var.proofs.Calls.{list_added, list_fits, list_offset, list_parts, list_small}
use Rattle.log_var.proofs.encode_list.Goals as goal
use Rattle.log_var.proofs.encode_list.Goals.{After-encode_range-encoding}

-- what the range added, with the first and the last value as the machine reads them
range_is : (c : After-encode_range-encoding)
    → (let xs = c.args.values.now in VarAdded (range (get_or xs 0 (pos 0)) (get_or xs (length xs - 1) (pos 0))) c.args.set.now c.encode_range-encoding.result c.encode_range-encoding.new.set)
range_is c =
    rw (to_z-of_z w32 (get_or c.args.values.now 0 (pos 0)) (search rules), to_z-of_z w32 (get_or c.args.values.now (length c.args.values.now - 1) (pos 0)) (search rules))
    at c.encode_range-encoding.ensures

pub encode_range-encoding-requires : goal.encode_range-encoding-requires
encode_range-encoding-requires c =
    rw (to_z-of_z w32 (get_or c.args.values.now 0 (pos 0)) (search rules), to_z-of_z w32 (get_or c.args.values.now (length c.args.values.now - 1) (pos 0)) (search rules))
    (list_parts c.args.values.now c.args.set.now c.requires).ready_range

pub add_gaps-requires : goal.add_gaps-requires
add_gaps-requires c =
    let p = list_parts c.args.values.now c.args.set.now c.requires in
    let a = range_is (goal.at.add_gaps-requires c).After-encode_range-encoding in
    rw (list_offset p a) (record { n_bound = (list_small p a, p.rising); fits = list_fits p a c.requires })

pub returns : goal.returns
returns c =
    let p = list_parts c.args.values.now c.args.set.now c.requires in
    let a = range_is (goal.at.returns c).After-encode_range-encoding in
    let gaps = λ (o : ℤ). gaps_from (fresh c.encode_range-encoding.result.len c.args.set.now.vars) o c.args.values.now 0 in
    list_added p a (wrote_as c.add_gaps.ensures refl (ap gaps (list_offset p a)))
