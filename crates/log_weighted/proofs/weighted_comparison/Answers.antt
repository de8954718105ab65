-- `log_weighted::weighted_comparison` meets its contract.
use mathlib.Core.Bool.{false, true}
use mathlib.Core.List.{map}
use Rattle.clause_set.proofs.Writing.{wrote_as}
use Rattle.log_encoding.specs.Linear.{comparison, sign_adder}
use Rattle.log_terms.specs.Terms.{weighted_of}
use Rattle.log_weighted.proofs.Compared.{compared}
use Rattle.log_weighted.proofs.weighted_comparison.Goals as goal

pub returns : goal.returns
returns c =
    let ws = map weighted_of c.args.ts.now.list.now in
    let test = comparison c.args.is_ne in
    let s = c.both_sums-s in
    let x = c.as_slice.ensures.0 in
    let y = c.as_slice-2.ensures.0 in
    let v = s.new.set.vars in
    let w = c.push_comparison.ensures in
    let same = wrote_as w (λ i. (test (x i) (y i) v).vars) (λ i. (test (x i) (y i) v).clauses) in
    compared test (sign_adder false ws c.args.a c.args.set.now.vars) (sign_adder true ws c.args.b) s.result s.ensures same
